-- The distances call: 1 to 5, 7, 10; m is 1. Document 01, 'What a site receives': 'Distances from a node: n entries, NONE where none.'
-- Assumes nothing.
use Rattle.std.specs.Prelude.{ℕ, List}
use Rattle.network.specs.Network.{Network}
use Rattle.network.specs.Distance.{distances_from}
use Rattle.numbers.specs.Numbers.{distances_number}
use Rattle.site_calls.specs.Shared.{EntriesOutcome, entries_outcome}

unfoldable pub distances_outcome : Network → ℕ → List ℕ → List ℕ → EntriesOutcome
distances_outcome g node scratch answers = entries_outcome (distances_number g node scratch answers) (distances_from g node) scratch answers
