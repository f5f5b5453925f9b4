-- The entries before the present node are stored, the labels are as they were, and the marks are those of sites before it (`Entering`).
use Rattle.network.specs.Households.{sheet_entry}
use Rattle.network.proofs.Tabulate.{Stored}
use Rattle.sheet.proofs.Entering.{Entering}
use Rattle.sheet.proofs.sheet.write_entries.Given as goal

abbrev pub invariant-loop-at : goal.invariant-loop-at
invariant-loop-at l =
    record {
      entering : Entering l.g l.initial.s l.s l.at;
      stored : Stored (sheet_entry l.g l.households l.sites) l.at l.initial.answers l.answers;
    }
