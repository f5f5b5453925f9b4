-- No arc before place j lacks its return.
use Rattle.std.proofs.Common.{◌≡◌, false}
use Rattle.network.specs.Count.{any}
use Rattle.network.specs.Check.{lacks_return_at}
use Rattle.network.proofs.check.lacks_return_of.Given as goal

abbrev pub invariant-loop-j : goal.invariant-loop-j
invariant-loop-j l = any (lacks_return_at l.g l.a) l.j ≡ false
