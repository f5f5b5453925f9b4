-- A node whose flag is set is written next; one whose flag is 0 is passed over.
use Rattle.std.proofs.Common.{ap, ◌≡◌, ◌+◌, not, get_or, arith}
use borrow.Author.Tests.{eq-eqb, ne_eqb}
use Rattle.searches.specs.Eager.{is_found}
use Rattle.searches.proofs.Selected.{written_none, written_more, written_skip, written_all}
use Rattle.searches.proofs.flags.write_found.Goals.{then-s-b-ne0, else-s-b-ne0}
use Rattle.searches.proofs.flags.write_found.Goals as goal

pub loop-at-init : goal.loop-at-init
loop-at-init c = written_none (is_found c.args.b c.args.s.now) c.args.answers.now

pub loop-at-preserved : goal.loop-at-preserved
loop-at-preserved c =
    let s = c.args.s.now in
    let b = c.args.b in
    let l = c.loop-at in
    elim c.if-s-b-ne0.branch [
      | then-s-b-ne0 w ↦
          rw (w.answers-is, w.len-is) (written_more l.invariant (omega arith) (ap not (ne_eqb (get_or s (b + l.at) 0) 0 w.if-s-b-ne0.true)))
      | else-s-b-ne0 w ↦ rw (w.answers-is, w.len-is) (written_skip l.invariant (ap not (eq-eqb (get_or s (b + l.at) 0) 0 w.if-s-b-ne0.false)))
    ]

pub returns : goal.returns
returns c =
    let e : c.loop-at.at ≡ c.args.n = omega (arith, c.loop-at.auto.at-end, c.loop-at-test.false) in
    let w = rw e at c.loop-at.invariant in
    (written_all w, w.count)
