-- The tally is that of the places before the present one.
use Rattle.lazy_searches.proofs.RowLaws.{Tallied}
use Rattle.lazy_searches.proofs.second.closed.Given as goal

abbrev pub invariant-loop-j : goal.invariant-loop-j
invariant-loop-j l = Tallied l.fn.points l.row.ids.now l.row.words.now l.fn.l l.j l.tally
