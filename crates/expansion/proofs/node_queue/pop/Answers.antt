-- The first entry leaves, and the last one fills its hole.
use Rattle.std.proofs.Common.{ap, ◌∙◌, arith, rules}
use Rattle.expansion.specs.Tags.{node_of}
use Rattle.expansion.proofs.SeatLaws.{vacated_same}
use Rattle.expansion.proofs.NodeLaws.{vacated_can, vacated_seats, popped_last, popped_filled}
use Rattle.expansion.proofs.node_queue.pop.Goals as goal

pub vacate-requires : goal.vacate-requires
vacate-requires c =
    let first = c.node_of.ensures ∙ ap node_of c.entry_at-first.ensures in
    (search rules, omega (arith, first, c.requires.node_queue.inside 0 c.requires.len_nonzero))

pub sink-requires : goal.sink-requires
sink-requires c =
    let q = c.requires.node_queue in
    let some = c.requires.len_nonzero in
    let gone = vacated_same (c.node_of.ensures ∙ ap node_of c.entry_at-first.ensures) c.vacate.ensures in
    rw c.entry_at-last.ensures
    (vacated_can q some gone _ (omega (arith, c.if-len-gt1.true)), vacated_seats q some gone (omega (arith, c.if-len-gt1.true)))

pub returns-then-len-gt1 : goal.returns-then-len-gt1
returns-then-len-gt1 c =
    let gone = vacated_same (c.node_of.ensures ∙ ap node_of c.entry_at-first.ensures) c.vacate.ensures in
    rw c.entry_at-first.ensures
    (popped_filled c.requires.node_queue c.requires.len_nonzero gone (omega (arith, c.if-len-gt1.true)) _ (rw c.entry_at-last.ensures at c.sink.ensures.filled_at))

pub returns-else-len-gt1 : goal.returns-else-len-gt1
returns-else-len-gt1 c =
    let gone = vacated_same (c.node_of.ensures ∙ ap node_of c.entry_at-first.ensures) c.vacate.ensures in
    rw c.entry_at-first.ensures
    (popped_last c.requires.node_queue c.requires.len_nonzero gone (omega (arith, c.if-len-gt1.false)))
