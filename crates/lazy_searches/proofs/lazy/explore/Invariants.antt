-- Lazy is under way (`Lazily`). A turn takes an entry; it is dropped where its node or the node that put it in was counted k times, as that one is beaten;
-- else its node is verified, where it is a point, which changes words before the area, and settled, and its arcs are followed unless it was counted k times.
-- The measure is the work left: the entries that wait, and so many more for each node that is not settled that settling one outweighs all that wait.
use Rattle.std.proofs.Common.{◌≡◌, length}
use Rattle.network.specs.Network.{node_count}
use Rattle.lazy_searches.proofs.Parents.{search_work}
use Rattle.lazy_searches.proofs.Lazily.{Lazily}
use Rattle.lazy_searches.proofs.lazy.explore.Given as goal

abbrev pub invariant-loop-label : goal.invariant-loop-label
invariant-loop-label l = record {
  size : length l.s ≡ length l.initial.s;
  lazily : Lazily l.fn.g l.fn.points l.fn.q l.fn.k l.s l.fn.b l.settled l.len;
}

abbrev pub decreases-loop-label : goal.decreases-loop-label
decreases-loop-label l = search_work (node_count l.fn.g) l.settled l.len
