-- No neighbour before place j is bad.
use Rattle.std.proofs.Common.{◌≡◌, false}
use Rattle.network.specs.Count.{any}
use Rattle.network.specs.Check.{bad_neighbour_at}
use Rattle.network.proofs.check.bad_part.Given as goal

abbrev pub invariant-loop-j : goal.invariant-loop-j
invariant-loop-j l = any (bad_neighbour_at l.n l.a l.neighbours) l.j ≡ false
