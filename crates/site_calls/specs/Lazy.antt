-- The lazy and the lazy-EP call, which answer alike: 1 to 5, 6, 7, 9, 10; m is k. 'Lazy (000, 3.3) and lazy-EP (000, 4.2): the list.'
-- Assumes nothing.
use Rattle.std.specs.Prelude.{ℕ, List}
use Rattle.network.specs.Network.{Network}
use Rattle.network.specs.Points.{listed}
use Rattle.numbers.specs.Numbers.{search_number}
use Rattle.site_calls.specs.Shared.{SearchOutcome, list_outcome}

unfoldable pub lazy_outcome : Network → List ℕ → ℕ → ℕ → List ℕ → List ℕ → SearchOutcome
lazy_outcome g P q k scratch answers = list_outcome (search_number g P q k scratch answers) (listed g P q k) scratch answers
