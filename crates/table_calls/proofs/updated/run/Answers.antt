-- Marks and table are brought up to date over the part of the cleared scratch that is used.
use Rattle.table_calls.proofs.Cleared.{can_change, change_left}
use Rattle.table_calls.proofs.updated.run.Goals as goal

pub change-requires : goal.change-requires
change-requires c = rw (c.nodes.ensures, c.arcs.ensures) (can_change c.requires (c.fill.ensures.after (λ y e. e)))

pub returns : goal.returns
returns c = rw (c.nodes.ensures, c.arcs.ensures) (change_left c.requires (c.fill.ensures.after (λ y e. e)) (rw (c.nodes.ensures, c.arcs.ensures) at c.change.ensures))
