-- What waits has room, and a table that is being mended stays so (`Filling`). The measure is what waits and the arcs of the short rows: each offer
-- that leaves takes one away, and a row that takes it is short no more.
use Rattle.table.proofs.RemoveFilling.{Filling, fill_work}
use Rattle.table.proofs.remove.fill.Given as goal

abbrev pub invariant-loop-offer : goal.invariant-loop-offer
invariant-loop-offer l = Filling l.g l.points l.places l.initial.s l.initial.ids l.initial.distances l.len l.s l.ids l.distances l.left

abbrev pub decreases-loop-offer : goal.decreases-loop-offer
decreases-loop-offer l = fill_work l.g l.s l.left
