-- The entries before the present one, and their nodes' seats, are cleared.
use Rattle.expansion.proofs.NodeLaws.{Clearing}
use Rattle.expansion.proofs.node_queue.clear.Given as goal

abbrev pub invariant-loop-i : goal.invariant-loop-i
invariant-loop-i l = Clearing l.initial.s l.s l.b l.at l.i
