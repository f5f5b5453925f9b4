-- Starts does not fall before a.
use Rattle.std.proofs.Common.{◌≡◌, false}
use Rattle.network.specs.Count.{any}
use Rattle.network.specs.Check.{falls_at}
use Rattle.network.proofs.check.starts_fall.Given as goal

abbrev pub invariant-loop-a : goal.invariant-loop-a
invariant-loop-a l = any (falls_at l.starts) l.a ≡ false
