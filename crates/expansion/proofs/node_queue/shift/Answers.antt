-- The entry that is stored is the one that is read.
use Rattle.expansion.proofs.node_queue.shift.Goals as goal

pub put-requires : goal.put-requires
put-requires c = rw c.entry_at-entry.ensures c.requires.put

pub returns : goal.returns
returns c = rw c.entry_at-entry.ensures at c.put.ensures
