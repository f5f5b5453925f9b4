-- Insert is under way (`Inserting`). A turn takes an entry, puts the new point into its node's row at the entry's label, and settles the node; where
-- the row took the point it is counted, and the node's arcs are followed; else the search stops behind it. The measure is the number of nodes that
-- are not settled.
use Rattle.std.proofs.Common.{◌-◌, ◌≡◌, length}
use Rattle.network.specs.Network.{node_count}
use Rattle.table.proofs.Inserting.{Inserting}
use Rattle.table.proofs.insert.insert.Given as goal

abbrev pub invariant-loop-label : goal.invariant-loop-label
invariant-loop-label l = record {
  size : length l.s ≡ length l.initial.s;
  inserting : Inserting l.g l.points l.initial.ids l.initial.distances l.x l.places l.s l.settled l.len l.changed l.ids l.distances;
}

abbrev pub decreases-loop-label : goal.decreases-loop-label
decreases-loop-label l = node_count l.g - l.settled
