-- The nodes before the present one that have a found flag are written.
use Rattle.searches.specs.Eager.{is_found}
use Rattle.searches.proofs.Selected.{WrittenList}
use Rattle.searches.proofs.flags.write_found.Given as goal

abbrev pub invariant-loop-at : goal.invariant-loop-at
invariant-loop-at l = WrittenList (is_found l.fn.b l.fn.s) l.at l.fn.answers l.answers l.len
