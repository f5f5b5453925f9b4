-- The search from the nodes of the route is under way (`FromRoute`), and the words keep their number. The measure is the number of nodes that are not settled.
use Rattle.std.proofs.Common.{◌≡◌, ◌-◌, length}
use Rattle.network.specs.Network.{node_count}
use Rattle.routes.proofs.Routing.{FromRoute}
use Rattle.routes.proofs.explore.Given as goal

abbrev pub invariant-loop-taken : goal.invariant-loop-taken
invariant-loop-taken l =
    (length l.s ≡ length l.initial.s) × FromRoute l.fn.g l.fn.points l.initial.s l.fn.k l.s l.settled l.len

abbrev pub decreases-loop-taken : goal.decreases-loop-taken
decreases-loop-taken l = node_count l.fn.g - l.settled
