-- `Extending`. The measure is the work that is left to the outer expansion: it falls where an entry is taken back, and where a node is settled.
use Rattle.std.proofs.Common.{◌≡◌, length}
use Rattle.network.specs.Network.{node_count}
use Rattle.lazy_searches.proofs.Parents.{search_work}
use Rattle.lazy_searches.proofs.LazyEpLaws.{Extending}
use Rattle.lazy_searches.proofs.lazy_ep.settle_found.Given as goal

abbrev pub invariant-loop-label : goal.invariant-loop-label
invariant-loop-label l = record {
  size : length l.s ≡ length l.initial.s;
  extending : Extending l.fn.g l.fn.points l.fn.q l.fn.k l.s l.fn.inner l.fn.outer l.settled l.len l.waiting;
}

abbrev pub decreases-loop-label : goal.decreases-loop-label
decreases-loop-label l = search_work (node_count l.fn.g) l.settled l.len
