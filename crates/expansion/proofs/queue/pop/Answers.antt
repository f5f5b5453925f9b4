-- The first entry is a least one, and the last one fills its hole, unless it is the same.
use Rattle.std.proofs.Common.{arith}
use Rattle.expansion.proofs.QueueLaws.{popped_one, popped_more}
use Rattle.expansion.proofs.queue.pop.Goals as goal

pub returns-then-len-gt1 : goal.returns-then-len-gt1
returns-then-len-gt1 c =
    rw c.entry_at-first.ensures.key
    (popped_more _ _ _ c.requires.queue c.requires.len_nonzero c.put.ensures _ (rw c.entry_at-last.ensures.key at c.sink_first.ensures.filled))

pub returns-else-len-gt1 : goal.returns-else-len-gt1
returns-else-len-gt1 c =
    rw c.entry_at-first.ensures.key
    (popped_one _ _ _ c.requires.queue c.requires.len_nonzero c.put.ensures (omega (arith, c.if-len-gt1.false)))
