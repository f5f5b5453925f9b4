-- The next entry is as it was.
use Rattle.std.proofs.Common.{ap, ◌∙◌, arith}
use Rattle.expansion.specs.Tags.{node_of}
use Rattle.expansion.proofs.SeatLaws.{vacated_same}
use Rattle.expansion.proofs.NodeLaws.{clearing_node, clearing_more, cleared_nodes}
use Rattle.expansion.proofs.node_queue.clear.Goals as goal

pub vacate-requires : goal.vacate-requires
vacate-requires c =
    let i = c.loop-i in
    let h = c.loop-i-test.true in
    let node = c.node_of.ensures ∙ ap node_of c.entry_at-entry.ensures ∙ clearing_node c.requires i.invariant h in
    (omega (arith, i.invariant.size, c.requires.fits, c.requires.room), omega (arith, node, c.requires.inside i.i h))

pub loop-i-preserved : goal.loop-i-preserved
loop-i-preserved c =
    let i = c.loop-i in
    let h = c.loop-i-test.true in
    let node = c.node_of.ensures ∙ ap node_of c.entry_at-entry.ensures ∙ clearing_node c.requires i.invariant h in
    clearing_more c.requires i.invariant h _ (vacated_same node c.vacate.ensures)

pub returns : goal.returns
returns c = cleared_nodes _ c.requires c.loop-i.invariant (omega (arith, c.loop-i.auto.i-end, c.loop-i-test.false))
