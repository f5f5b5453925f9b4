-- `Advanced`. The measure is the work that is left: it falls by one where an entry leaves, and does not rise where its point comes to its node.
use Rattle.lazy_searches.specs.Second.{work, Advanced}
use Rattle.lazy_searches.proofs.second.advance.Given as goal

abbrev pub invariant-loop-left : goal.invariant-loop-left
invariant-loop-left l = Advanced l.fn.g l.fn.s l.s l.fn.k l.fn.len l.left

abbrev pub decreases-loop-left : goal.decreases-loop-left
decreases-loop-left l = work l.fn.g l.fn.k l.s l.left
