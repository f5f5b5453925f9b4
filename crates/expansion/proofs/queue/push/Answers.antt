-- The hole behind the last entry is one that an entry can rise from.
use Rattle.expansion.proofs.QueueLaws.{pushed}
use Rattle.expansion.proofs.queue.push.Goals as goal

pub returns : goal.returns
returns c = pushed _ _ _ c.requires.queue c.requires.len_in_bounds _ c.rise.ensures
