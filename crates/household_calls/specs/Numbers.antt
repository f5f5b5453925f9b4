-- The number of each call, 'the first met' of its conditions in document 01's order. Document 02, Ask 1: 'For the list, k is 1 to 16; the m of 10 is this k,
-- and 1 for the sheet. Checks: 6 covers each byte array, 8 each table, in the order lent.'
-- Assumes nothing.
use Rattle.std.specs.Prelude.{ℕ, List, [], ◌∷◌, length}
use Rattle.network.specs.Network.{Network, node_count}
use Rattle.network.specs.Scratch.{scratch_words}
use Rattle.network.specs.Households.{sheet_k}
use Rattle.conditions.specs.Conditions.{first_number, points_number, node_number, k_number, short_number}
use Rattle.numbers.specs.Numbers.{network_points_number}

-- what both calls test first: 1 to 5, 6 of the households, 6 of the sites
unfoldable pub both_number : Network → List ℕ → List ℕ → ℕ
both_number g H T =
    first_number
    (network_points_number g H
    ∷ points_number (node_count g) T
    ∷ [])

-- the list: 7, 9, and 10 too, where m is k
unfoldable pub households_number : Network → List ℕ → List ℕ → ℕ → ℕ → List ℕ → List ℕ → ℕ
households_number g H T q k scratch answers =
    first_number
    (both_number g H T
    ∷ node_number (node_count g) q
    ∷ k_number k
    ∷ short_number (length scratch) (scratch_words g k)
    ∷ short_number (length answers) (node_count g)
    ∷ [])

-- the sheet: 10 too, where m is 1, its k (Ask 10)
unfoldable pub sheet_number : Network → List ℕ → List ℕ → List ℕ → List ℕ → ℕ
sheet_number g H T scratch answers =
    first_number
    (both_number g H T
    ∷ short_number (length scratch) (scratch_words g sheet_k)
    ∷ short_number (length answers) (node_count g)
    ∷ [])
