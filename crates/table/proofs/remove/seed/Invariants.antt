-- The short rows below i have their best candidates in the queue (`ShortSeeded`).
use Rattle.table.specs.Mend.{ShortSeeded}
use Rattle.table.proofs.remove.seed.Given as goal

abbrev pub invariant-loop-i : goal.invariant-loop-i
invariant-loop-i l = ShortSeeded l.g l.points l.initial.s l.s l.table.ids.now l.table.distances.now l.table.places l.i l.len
