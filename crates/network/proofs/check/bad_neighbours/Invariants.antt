-- No node before a has a bad neighbour.
use Rattle.std.proofs.Common.{◌≡◌, false}
use Rattle.network.specs.Count.{any}
use Rattle.network.specs.Check.{bad_neighbours_of}
use Rattle.network.proofs.check.bad_neighbours.Given as goal

abbrev pub invariant-loop-a : goal.invariant-loop-a
invariant-loop-a l = any (bad_neighbours_of l.g.starts l.g.neighbours) l.a ≡ false
