-- No weight so far is bad.
use Rattle.std.proofs.Common.{◌≡◌, false}
use Rattle.network.specs.Count.{any}
use Rattle.network.specs.Check.{bad_weight_at}
use Rattle.network.proofs.check.bad_weights.Given as goal

abbrev pub invariant-loop-w : goal.invariant-loop-w
invariant-loop-w l = any (bad_weight_at l.w-items) l.w-index ≡ false
