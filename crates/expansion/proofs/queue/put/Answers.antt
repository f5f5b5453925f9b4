-- The two stores are a `Put`.
use Rattle.std.proofs.Common.{arith}
use Rattle.expansion.proofs.QueueLaws.{put_stored}
use Rattle.expansion.proofs.queue.put.Goals as goal

pub returns : goal.returns
returns c = put_stored _ _ _ _ (omega arith)
