-- Each point puts in itself.
use Rattle.std.proofs.Common.{get_or, arith}
use borrow.Author.Tests.{lt-ltb, ltb-true}
use Rattle.expansion.proofs.EnteredLaws.{entered_passed, entered_pushed}
use Rattle.table.proofs.build.seed.Goals as goal
use Rattle.table.proofs.build.seed.Goals.{then-mark-gt0, else-mark-gt0}

pub loop-i-preserved : goal.loop-i-preserved
loop-i-preserved c =
    let f = c.loop-i.invariant in
    elim c.if-mark-gt0.branch [
      | then-mark-gt0 w ↦ rw (w.s-is, w.len-is) (entered_pushed f (lt-ltb 0 _ w.if-mark-gt0.true) w.push.ensures)
      | else-mark-gt0 w ↦ rw (w.s-is, w.len-is) (entered_passed f (λ e. absurd (omega (arith, ltb-true 0 (get_or c.args.points.now c.loop-i.i 0) e, w.if-mark-gt0.false))))
    ]
