-- The table is being filled (`Filling`). The measure is its room: the offers that wait, and the arcs of each node once for each free place of its
-- row. Each turn takes an offer out, and puts in the arcs of a node whose row has taken one.
use Rattle.std.proofs.Common.{◌+◌, ◌≡◌, length}
use Rattle.network.specs.Network.{node_count}
use Rattle.table.proofs.BuildRoom.{free_arcs}
use Rattle.table.proofs.Filling.{Filling}
use Rattle.table.proofs.build.spread.Given as goal

abbrev pub invariant-loop-offer : goal.invariant-loop-offer
invariant-loop-offer l = record { size : length l.s ≡ length l.initial.s; filling : Filling l.g l.points l.places l.s l.ids l.distances l.left }

abbrev pub decreases-loop-offer : goal.decreases-loop-offer
decreases-loop-offer l = l.left + free_arcs l.g l.places l.s (node_count l.g)
