-- The rows of the neighbours by the arcs before place j are tried (`BestOf`).
use Rattle.table.specs.Candidate.{BestOf}
use Rattle.table.proofs.remove.best_candidate.Given as goal

abbrev pub invariant-loop-j : goal.invariant-loop-j
invariant-loop-j l = BestOf l.g l.points l.table.ids.now l.table.distances.now l.table.places l.i l.j l.best
