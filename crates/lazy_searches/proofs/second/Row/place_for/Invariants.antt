-- The places before the present one do not hold p, and the noted place is farther than d (`Looking`).
use Rattle.lazy_searches.proofs.RowLaws.{Looking}
use Rattle.lazy_searches.proofs.second.Row.place_for.Given as goal

abbrev pub invariant-loop-j : goal.invariant-loop-j
invariant-loop-j l = Looking l.fn.self.ids.now l.fn.self.words.now l.fn.p l.fn.d l.place l.most l.j
