-- Behind the queue, the words of the settled nodes before place i are cleared (`Clearing`).
use Rattle.expansion.proofs.ClearLaws.{Clearing}
use Rattle.expansion.proofs.step.clear.Given as goal

abbrev pub invariant-loop-i : goal.invariant-loop-i
invariant-loop-i l = Clearing l.n l.fn.s l.s l.b l.settled l.i
