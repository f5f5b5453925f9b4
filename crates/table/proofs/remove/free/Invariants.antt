-- The rows below i are freed (`Freed`).
use Rattle.table.specs.Mend.{Freed}
use Rattle.table.proofs.remove.free.Given as goal

abbrev pub invariant-loop-i : goal.invariant-loop-i
invariant-loop-i l = Freed l.initial.s l.s l.initial.ids l.initial.distances l.ids l.distances l.places l.x l.all l.i l.changed
