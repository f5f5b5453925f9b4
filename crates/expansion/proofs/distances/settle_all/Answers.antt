-- The source waits alone, and what it reaches is settled.
use Rattle.expansion.proofs.Waiting.{can_settle, settled_all}
use Rattle.expansion.proofs.distances.settle_all.Goals as goal

pub settle_waiting-requires : goal.settle_waiting-requires
settle_waiting-requires c = can_settle c.requires (rw c.nodes-n.ensures at c.start.ensures)

pub returns : goal.returns
returns c = settled_all c.requires (rw c.nodes-n.ensures at c.start.ensures) c.settle_waiting.ensures
