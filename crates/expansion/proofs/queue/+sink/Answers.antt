-- The child's entry is copied into the hole, and the entry sinks on from there: it is counted once more. Else it is stored in the hole.
use Rattle.std.proofs.Common.{arith}
use Rattle.expansion.proofs.QueueLaws.{words_key, hole_down, filled_moved}
use Rattle.expansion.proofs.SinkLaws.{sank_here, sank_below, sank_few}
use Rattle.expansion.proofs.queue.+sink.Goals as goal

pub sink-requires : goal.sink-requires
sink-requires t c =
    let ch = c.lesser_child-child.ensures in (
      omega (arith, ch.low, ch.inside, c.decreases),
      hole_down _ _ _ _ _ _ _ _ c.requires ch (omega (arith, c.if-k-key.true)) c.copy.ensures (words_key _ _),
    )

pub overflow_add-result : goal.overflow_add-result
overflow_add-result t c = omega (arith, sank_few _ _ _ _ _ _ c.sink.ensures.sank)

pub returns-then-k-key-clause-filled : goal.returns-then-k-key-clause-filled
returns-then-k-key-clause-filled t c =
    let ch = c.lesser_child-child.ensures in
    filled_moved _ _ _ _ _ _ _ c.requires.is_hole.inside ch.inside (omega (arith, ch.low)) c.copy.ensures (words_key _ _) _ _ c.sink.ensures.filled

pub returns-then-k-key-clause-sank : goal.returns-then-k-key-clause-sank
returns-then-k-key-clause-sank t c =
    let ch = c.lesser_child-child.ensures in
    sank_below _ _ _ _ _ _ _ _ _ _ ch.low ch.high (omega (arith, c.if-k-key.true)) c.copy.ensures (words_key _ _) c.sink.ensures.sank

pub returns-else-k-key-clause-sank : goal.returns-else-k-key-clause-sank
returns-else-k-key-clause-sank t c = sank_here _ _ _ _ _ _ c.requires.is_hole.inside c.put.ensures

pub returns-else-left-len-clause-sank : goal.returns-else-left-len-clause-sank
returns-else-left-len-clause-sank t c = sank_here _ _ _ _ _ _ c.requires.is_hole.inside c.put-else-left-len.ensures
