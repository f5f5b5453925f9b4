-- One more place is tried.
use Rattle.table.proofs.RemoveSteps.{best_none, best_more}
use Rattle.table.proofs.remove.best_of_row.Goals as goal

pub loop-j-init : goal.loop-j-init
loop-j-init c = best_none _ _ _ _ _ _

pub loop-j-preserved : goal.loop-j-preserved
loop-j-preserved c = best_more c.loop-j.invariant c.better-least.ensures
