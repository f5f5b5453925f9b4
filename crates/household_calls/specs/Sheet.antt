-- The sheet: its number, and the final contents of the lent arrays. Document 02, Ask 1: 'A sheet call writes, for each node, the length of the list of a site
-- there, 0 without a site'.
-- Assumes nothing.
use Rattle.std.specs.Prelude.{ℕ, List}
use Rattle.network.specs.Network.{Network}
use Rattle.network.specs.Households.{sheet}
use Rattle.site_calls.specs.Shared.{EntriesOutcome, entries_outcome}
use Rattle.household_calls.specs.Numbers.{sheet_number}

unfoldable pub sheet_outcome : Network → List ℕ → List ℕ → List ℕ → List ℕ → EntriesOutcome
sheet_outcome g H T scratch answers = entries_outcome (sheet_number g H T scratch answers) (sheet g H T) scratch answers
