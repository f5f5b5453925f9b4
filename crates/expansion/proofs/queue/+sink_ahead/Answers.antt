-- As `sink`: the child is chosen by the keys that are known, and so are its children's keys.
use Rattle.std.proofs.Common.{arith}
use Rattle.expansion.proofs.QueueLaws.{words_key, chosen_child, chosen_key, chosen_children, chosen_least, hole_down, filled_moved}
use Rattle.expansion.proofs.SinkLaws.{sank_here, sank_below, sank_few}
use Rattle.expansion.proofs.queue.+sink_ahead.Goals as goal

pub sink_ahead-requires : goal.sink_ahead-requires
sink_ahead-requires t c =
    let r = c.requires in
    let chosen = c.choose-child.ensures in
    let child = chosen_child _ _ _ _ _ _ r.children chosen in
    let key = chosen_key _ _ _ _ _ _ r.children chosen _ r.chosen in (
      omega (arith, child.low, child.inside, c.decreases),
      (
        hole_down _ _ _ _ _ _ _ _ r.can_sink child (omega (arith, key, c.if-least-key.true)) c.copy.ensures (words_key _ _),
        (
          chosen_children _ _ _ _ _ _ r.children chosen _ _ _ _ _ _ (omega (arith, c.if-below-len.true)) c.key_at-c.ensures c.key_at-d.ensures c.key_at-e.ensures c.key_at-f.ensures c.choose-next_a.ensures c.choose-next_b.ensures _ _ _ c.copy.ensures,
          chosen_least c.choose-next_a.ensures c.choose-next_b.ensures c.choose-under_left.ensures c.choose-under_right.ensures c.choose-next.ensures,
        ),
      ),
    )

pub overflow_add-result : goal.overflow_add-result
overflow_add-result t c = omega (arith, sank_few _ _ _ _ _ _ c.sink_ahead.ensures.sank)

pub returns-then-least-key-clause-filled : goal.returns-then-least-key-clause-filled
returns-then-least-key-clause-filled t c =
    let r = c.requires in
    let child = chosen_child _ _ _ _ _ _ r.children c.choose-child.ensures in
    filled_moved _ _ _ _ _ _ _ r.can_sink.is_hole.inside child.inside (omega (arith, child.low)) c.copy.ensures (words_key _ _) _ _ c.sink_ahead.ensures.filled

pub returns-then-least-key-clause-sank : goal.returns-then-least-key-clause-sank
returns-then-least-key-clause-sank t c =
    let r = c.requires in
    let chosen = c.choose-child.ensures in
    let child = chosen_child _ _ _ _ _ _ r.children chosen in
    let key = chosen_key _ _ _ _ _ _ r.children chosen _ r.chosen in
    sank_below _ _ _ _ _ _ _ _ _ _ child.low child.high (omega (arith, key, c.if-least-key.true)) c.copy.ensures (words_key _ _) c.sink_ahead.ensures.sank

pub returns-else-least-key-clause-sank : goal.returns-else-least-key-clause-sank
returns-else-least-key-clause-sank t c = sank_here _ _ _ _ _ _ c.requires.can_sink.is_hole.inside c.put.ensures
