-- A short row puts in its best candidate, if it has one.
use Rattle.std.proofs.Common.{◌∙◌, sym, get_or, arith}
use borrow.Author.Tests.{eq-eqb, ne_eqb}
use Rattle.table.proofs.RemoveSteps.{best_point, seeded_whole, seeded_nothing, seeded_push}
use Rattle.table.proofs.remove.seed.Goals as goal
use Rattle.table.proofs.remove.seed.Goals.{in-Some, in_default}

pub loop-i-preserved-then-s-i-ne1 : goal.loop-i-preserved-then-s-i-ne1
loop-i-preserved-then-s-i-ne1 c =
    let f = c.loop-i.invariant in
    seeded_whole f (ne_eqb (get_or c.args.s.now c.loop-i.i 0) 1 (λ e. c.if-s-i-ne1.true (f.frame.words c.loop-i.i (rw c.nodes-n.ensures at c.loop-i-test.true) ∙ e)))

pub push-requires-clause-nodes : goal.push-requires-clause-nodes
push-requires-clause-nodes c =
    let few = c.requires.accepted.few in
    (omega (arith, best_point c.requires.points c.in-Some.ensures), omega (arith, c.loop-i-test.true, c.nodes-n.ensures))

pub loop-i-preserved : goal.loop-i-preserved
loop-i-preserved c =
    let f = c.loop-i.invariant in
    let low = rw c.nodes-n.ensures at c.loop-i-test.true in
    elim c.match-best_candidate.branch [
      | in-Some w ↦
          rw (w.s-is, w.len-is)
          (seeded_push f (eq-eqb (get_or c.args.s.now c.loop-i.i 0) 1 (sym (f.frame.words c.loop-i.i low) ∙ c.if-s-i-ne1.false)) w.in-Some.ensures (rw c.nodes-n.ensures at w.push.ensures))
      | in_default w ↦ rw (w.s-is, w.len-is) (seeded_nothing f (w.in_default.ensures {u = tt}))
    ]
