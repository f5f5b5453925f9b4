-- No byte so far is above 15.
use Rattle.std.proofs.Common.{◌≡◌, false}
use Rattle.network.specs.Count.{any}
use Rattle.conditions.specs.Conditions.{bad_byte_at}
use Rattle.conditions.proofs.bad_byte.Given as goal

abbrev pub invariant-loop-lockers : goal.invariant-loop-lockers
invariant-loop-lockers l = any (bad_byte_at l.points) l.lockers-index ≡ false
