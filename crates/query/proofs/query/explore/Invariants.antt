-- The loop's invariant is that the query is under way (`Querying`). A turn takes an entry, looks at its node, which sets flags before the area, and settles
-- it; where k points are found the node is beaten, on the table of the points, and the search stops behind it; else its arcs are followed. The measure is
-- the number of nodes that are not settled.
use mathlib.Core.Path.{◌≡◌}
use Prim.Native.Nat.{◌-◌}
use lib.ListN.{length}
use Rattle.network.specs.Network.{node_count}
use Rattle.network.specs.Rows.{IsTable}
use Rattle.query.proofs.Querying.{Querying}
use Rattle.query.proofs.query.explore.Given as goal

abbrev pub invariant-loop-taken : goal.invariant-loop-taken
invariant-loop-taken l =
    (length l.s ≡ length l.initial.s)
    × Querying (IsTable l.g l.points l.table.places l.table.ids.now l.table.distances.now) l.g l.points l.q l.k l.s l.b l.settled l.len

abbrev pub decreases-loop-taken : goal.decreases-loop-taken
decreases-loop-taken l = node_count l.g - l.settled
