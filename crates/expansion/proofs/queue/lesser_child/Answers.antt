-- The child whose key is at most each child's.
use Rattle.std.proofs.Common.{arith}
use Rattle.expansion.proofs.QueueLaws.{least_child}
use Rattle.expansion.proofs.queue.lesser_child.Goals as goal

pub returns-then-b-a : goal.returns-then-b-a
returns-then-b-a c = least_child _ _ _ _ (omega arith) (omega arith) (omega arith) (λ h. omega arith) (λ h. omega arith)

pub returns-else-b-a : goal.returns-else-b-a
returns-else-b-a c = least_child _ _ _ _ (omega arith) (omega arith) (omega arith) (λ h. omega arith) (λ h. omega arith)

pub returns-else-right-len : goal.returns-else-right-len
returns-else-right-len c = least_child _ _ _ _ (omega arith) (omega arith) (omega arith) (λ h. omega arith) (λ h. omega arith)
