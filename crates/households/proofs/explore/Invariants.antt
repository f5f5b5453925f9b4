-- The search is under way (`Winning`), and the words keep their number. The measure is the number of nodes that are not settled.
use Rattle.std.proofs.Common.{◌≡◌, ◌-◌, length}
use Rattle.network.specs.Network.{node_count}
use Rattle.households.proofs.Winning.{Winning}
use Rattle.households.proofs.explore.Given as goal

abbrev pub invariant-loop-taken : goal.invariant-loop-taken
invariant-loop-taken l =
    (length l.s ≡ length l.initial.s) × Winning l.fn.g l.fn.households l.fn.sites l.fn.q l.fn.k l.s l.settled l.len

abbrev pub decreases-loop-taken : goal.decreases-loop-taken
decreases-loop-taken l = node_count l.fn.g - l.settled
