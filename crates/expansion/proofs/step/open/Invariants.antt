-- The arcs before place j are followed (`Followed`).
use Rattle.expansion.specs.Area.{Followed}
use Rattle.expansion.proofs.step.open.Given as goal

abbrev pub invariant-loop-j : goal.invariant-loop-j
invariant-loop-j l = Followed l.g l.initial.s l.s l.b l.len l.more l.node l.label l.j
