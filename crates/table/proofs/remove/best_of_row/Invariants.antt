-- The places before j are tried (`BestOfRow`).
use Rattle.table.specs.Candidate.{BestOfRow}
use Rattle.table.proofs.remove.best_of_row.Given as goal

abbrev pub invariant-loop-j : goal.invariant-loop-j
invariant-loop-j l = BestOfRow l.points l.own l.ids l.distances l.w l.j l.initial.least l.least
