-- The invariant: the expansion is under way (`Progress`), and the words before the area are as they were. The measure is the number of nodes that are
-- not settled.
use Rattle.std.proofs.Common.{◌-◌}
use Rattle.network.specs.Network.{node_count}
use Rattle.expansion.specs.Expand.{nodes_waiting}
use Rattle.expansion.specs.Area.{Kept}
use Rattle.expansion.proofs.Progress.{All, Progress}
use Rattle.expansion.proofs.Several.{several}
use Rattle.expansion.proofs.distances.settle_waiting.Given as goal

abbrev pub invariant-loop-taken : goal.invariant-loop-taken
invariant-loop-taken l =
    let waiting = nodes_waiting (node_count l.g) l.fn.s l.fn.b in
    record {
      kept : Kept l.fn.s l.s l.b;
      progress : Progress l.g (several l.g waiting) All All l.s l.b l.settled l.len;
    }

abbrev pub decreases-loop-taken : goal.decreases-loop-taken
decreases-loop-taken l = node_count l.g - l.settled
