-- No arc of a node before a lacks its return.
use Rattle.std.proofs.Common.{◌≡◌, false}
use Rattle.network.specs.Count.{any}
use Rattle.network.specs.Check.{lacks_return_of}
use Rattle.network.proofs.check.lacks_return.Given as goal

abbrev pub invariant-loop-a : goal.invariant-loop-a
invariant-loop-a l = any (lacks_return_of l.g) l.a ≡ false
