-- Eager is under way (`Exploring`). A turn takes an entry, looks at its node, which sets flags before the area, and settles it; where fewer than k points are
-- found the node is expanded, and is counted, and its arcs are followed, and it is kept as the next visit; else it is beaten, and the search stops behind it.
-- The measure is the number of nodes that are not settled.
use Rattle.std.proofs.Common.{◌≡◌, ◌-◌, length}
use Rattle.network.specs.Network.{node_count}
use Rattle.searches.specs.Eager.{VisitsKept}
use Rattle.searches.proofs.Exploring.{Exploring}
use Rattle.searches.proofs.eager.explore.Given as goal

abbrev pub invariant-loop-taken : goal.invariant-loop-taken
invariant-loop-taken l =
    let g = l.fn.g in
    (length l.s ≡ length l.initial.s) × Exploring g l.fn.points l.fn.q l.fn.k l.fn.limit l.s l.fn.b l.settled l.len l.count × VisitsKept g l.fn.points l.fn.q l.fn.k l.s l.count

abbrev pub decreases-loop-taken : goal.decreases-loop-taken
decreases-loop-taken l = node_count l.fn.g - l.settled
