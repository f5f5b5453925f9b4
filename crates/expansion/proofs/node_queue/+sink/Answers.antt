-- The child's entry is copied into the hole, and the entry sinks on from there: it is counted once more. Else it is stored in the hole.
use Rattle.std.proofs.Common.{arith}
use Rattle.expansion.proofs.SeatLaws.{filled_at_moved, filled_at_here}
use Rattle.expansion.proofs.SinkLaws.{sank_here, sank_below, sank_few}
use Rattle.expansion.proofs.node_queue.+sink.Goals as goal

pub overflow_add-result : goal.overflow_add-result
overflow_add-result t c = omega (arith, sank_few _ _ _ _ _ _ c.sink.ensures.sank)

pub returns-then-k-key-clause-filled_at : goal.returns-then-k-key-clause-filled_at
returns-then-k-key-clause-filled_at t c =
    let ch = c.lesser_child-child.ensures in
    filled_at_moved _ _ _ _ _ _ _ _ c.requires.1 c.requires.0.is_hole.inside ch.inside (omega (arith, ch.low)) c.shift.ensures _ c.sink.ensures.filled_at

pub returns-then-k-key-clause-sank : goal.returns-then-k-key-clause-sank
returns-then-k-key-clause-sank t c =
    let ch = c.lesser_child-child.ensures in
    let p = c.shift.ensures in
    sank_below _ _ _ _ _ _ _ _ _ _ ch.low ch.high (omega (arith, c.if-k-key.true)) p.put p.is c.sink.ensures.sank

pub returns-else-k-key-clause-filled_at : goal.returns-else-k-key-clause-filled_at
returns-else-k-key-clause-filled_at t c =
    filled_at_here _ _ _ _ _ _ _ c.requires.0.is_hole c.requires.1 c.put.ensures c.requires.0.at_least (λ i pos lt e. omega (arith, c.lesser_child-child.ensures.least i pos lt e, c.if-k-key.false))

pub returns-else-k-key-clause-sank : goal.returns-else-k-key-clause-sank
returns-else-k-key-clause-sank t c =
    let p = c.put.ensures in
    rw p.is at (sank_here _ _ _ _ _ _ c.requires.0.is_hole.inside p.put)

pub returns-else-left-len-clause-sank : goal.returns-else-left-len-clause-sank
returns-else-left-len-clause-sank t c =
    let p = c.put-else-left-len.ensures in
    rw p.is at (sank_here _ _ _ _ _ _ c.requires.0.is_hole.inside p.put)
