-- The list of a site's households: number, length and count 0, and the final contents of the lent arrays. Document 02, Ask 1.
-- Assumes nothing.
use Rattle.std.specs.Prelude.{ℕ, List}
use Rattle.network.specs.Network.{Network}
use Rattle.network.specs.Households.{won}
use Rattle.site_calls.specs.Shared.{SearchOutcome, list_outcome}
use Rattle.household_calls.specs.Numbers.{households_number}

unfoldable pub households_outcome : Network → List ℕ → List ℕ → ℕ → ℕ → List ℕ → List ℕ → SearchOutcome
households_outcome g H T q k scratch answers = list_outcome (households_number g H T q k scratch answers) (won g H T q k) scratch answers
