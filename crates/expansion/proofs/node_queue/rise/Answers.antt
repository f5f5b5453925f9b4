-- An entry that is stored fills the hole where it is; else the hole moves up, to the parent.
use Rattle.std.proofs.Common.{arith}
use Rattle.expansion.proofs.QueueLaws.{hole_up}
use Rattle.expansion.proofs.SeatLaws.{seats_moved, filled_at_moved, filled_at_here}
use Rattle.expansion.proofs.node_queue.rise.Goals as goal

pub returns-then-k-key : goal.returns-then-k-key
returns-then-k-key c =
    let i = c.loop-hole.invariant in
    i.onward _ (filled_at_here _ _ _ _ _ _ _ i.rises.is_hole i.seats c.put.ensures (λ pos. omega (arith, c.if-k-key.true)) i.rises.at_most)

pub loop-hole-preserved : goal.loop-hole-preserved
loop-hole-preserved c =
    let i = c.loop-hole.invariant in
    let p = c.shift.ensures in
    let inside = i.rises.is_hole.inside in
    record {
      rises = hole_up _ _ _ _ _ _ _ i.rises (omega arith) (omega (arith, c.if-k-key.false)) p.put p.is;
      seats = seats_moved _ _ _ _ _ _ _ _ i.seats inside (omega arith) (omega arith) p;
      onward = λ zs f. i.onward zs (filled_at_moved _ _ _ _ _ _ _ _ i.seats inside (omega arith) (omega arith) p zs f);
    }

pub returns : goal.returns
returns c =
    let i = c.loop-hole.invariant in
    i.onward _ (filled_at_here _ _ _ _ _ _ _ i.rises.is_hole i.seats c.put-2.ensures (λ pos. omega (arith, c.loop-hole-test.false)) i.rises.at_most)
