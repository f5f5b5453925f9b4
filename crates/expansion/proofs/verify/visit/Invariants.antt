-- The words before the area are as they were; an expansion from p is under way; and the tally counts the other points that it has settled, below the present
-- label and at it, where every node nearer than the present label is settled, and none of the site. The measure is the number of nodes that are not settled.
use Rattle.std.proofs.Common.{◌+◌, ◌-◌, ◌*◌, ◌≤◌}
use Rattle.network.specs.Network.{node_count}
use Rattle.expansion.specs.Area.{Kept}
use Rattle.expansion.specs.Visited.{nodes_of_site}
use Rattle.expansion.proofs.Progress.{All, Progress}
use Rattle.expansion.proofs.VisitLaws.{Counted}
use Rattle.expansion.proofs.Origins.{one}
use Rattle.expansion.proofs.verify.visit.Given as goal

abbrev pub invariant-loop-taken : goal.invariant-loop-taken
invariant-loop-taken l = record {
  kept : Kept l.fn.s l.s l.b;
  progress : Progress l.g (one l.g l.p) All All l.s l.b l.settled l.len;
  counted : Counted l.g l.points l.p (nodes_of_site (node_count l.g) l.fn.s l.site) l.s l.b l.tally.label l.tally.below l.tally.level;
  sum_low : l.tally.below + l.tally.level ≤ 255 * l.settled;
}

abbrev pub decreases-loop-taken : goal.decreases-loop-taken
decreases-loop-taken l = l.n - l.settled
