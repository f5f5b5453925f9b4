-- The area is that of an expansion under way (`Progress`), and the first words hold the found nodes in order, which are settled (`Finding`). The measure is
-- the number of nodes that are not settled.
use Rattle.std.proofs.Common.{◌≡◌, ◌-◌, ◌*◌, ◌≤◌, length}
use Rattle.expansion.proofs.Progress.{All, Progress}
use Rattle.expansion.proofs.Finding.{Finding}
use Rattle.expansion.proofs.Origins.{one}
use Rattle.expansion.proofs.nearest.find.Given as goal

abbrev pub invariant-loop-search : goal.invariant-loop-search
invariant-loop-search l = record {
  size : length l.s ≡ length l.initial.s;
  progress : Progress l.g (one l.g l.node) All All l.s l.b l.search.settled l.search.len;
  finding : Finding l.g l.points l.node l.e l.k l.s l.b l.search.found l.search.tally;
  many : l.search.found ≤ l.search.settled;
  tally_low : l.search.tally ≤ 255 * l.search.settled;
}

abbrev pub decreases-loop-search : goal.decreases-loop-search
decreases-loop-search l = l.n - l.search.settled
