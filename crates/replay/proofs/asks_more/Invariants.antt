-- No call so far asks more than is lent.
use Rattle.std.proofs.Common.{◌≡◌, false}
use Rattle.network.specs.Count.{any}
use Rattle.replay.specs.Outcome.{asks_more_at}
use Rattle.replay.proofs.asks_more.Given as goal

abbrev pub invariant-loop-length : goal.invariant-loop-length
invariant-loop-length l = any (asks_more_at l.words l.lengths) l.length-index ≡ false
