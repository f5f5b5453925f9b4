-- A node with a site comes behind those that wait; one without is passed.
use Rattle.std.proofs.Common.{◌≡◌, arith}
use borrow.Author.Tests.{lt-ltb, le-ltb}
use Rattle.network.specs.Points.{lockers}
use Rattle.sheet.proofs.Starting.{started_none, started_passed, can_push, started_pushed}
use Rattle.sheet.proofs.sources.start_all.Goals.{then-lockers_at-ne0, else-lockers_at-ne0}
use Rattle.sheet.proofs.sources.start_all.Goals as goal

pub loop-at-init : goal.loop-at-init
loop-at-init c = started_none _ c.requires

pub push-requires : goal.push-requires
push-requires c =
    record {
      node_queue = c.loop-at.invariant.area.queue;
      tag_bound = can_push c.loop-at.invariant c.loop-at-test.true c.tag_of-tag.result c.tag_of-tag.ensures;
    }

pub loop-at-preserved : goal.loop-at-preserved
loop-at-preserved c =
    let inside = c.loop-at-test.true in
    elim c.if-lockers_at-ne0.branch [
      | then-lockers_at-ne0 w ↦
          rw (w.s-is, w.len-is)
          (started_pushed c.loop-at.invariant inside (rw w.tag_of-tag.ensures at w.push.ensures)
          (lt-ltb 0 (lockers c.args.sites.now c.loop-at.at) (omega (arith, c.lockers_at.ensures.0, w.if-lockers_at-ne0.true))))
      | else-lockers_at-ne0 w ↦
          rw (w.s-is, w.len-is)
          (started_passed c.loop-at.invariant
          (le-ltb 0 (lockers c.args.sites.now c.loop-at.at) (omega (arith, c.lockers_at.ensures.0, w.if-lockers_at-ne0.false))))
    ]

pub returns : goal.returns
returns c =
    let e : c.loop-at.at ≡ c.args.n = omega (arith, c.loop-at.auto.at-end, c.loop-at-test.false) in
    rw e at c.loop-at.invariant
