-- The nodes before place i are counted (`CountedAll`).
use Rattle.lazy_searches.specs.Lazy.{CountedAll}
use Rattle.lazy_searches.proofs.lazy.count_visited.Given as goal

abbrev pub invariant-loop-i : goal.invariant-loop-i
invariant-loop-i l = CountedAll l.fn.n l.fn.s l.s l.fn.b l.i l.fn.label l.fn.lockers
