-- The number of the call, 'the first met' of its conditions in document 01's order. Document 02, Ask 7: 'Checks: 7 for each node of the list; 14, after 12, if
-- the list is empty or two nodes in sequence have no road.'
-- Assumes nothing.
use Rattle.std.specs.Prelude.{ℕ, List, [], ◌∷◌, length}
use Rattle.network.specs.Network.{Network, node_count}
use Rattle.network.specs.Scratch.{scratch_words}
use Rattle.conditions.specs.Conditions.{first_number, nodes_number, k_number, short_number, route_number}
use Rattle.numbers.specs.Numbers.{network_points_number}

-- 1 to 5, 6, 7 of each node, 9, 10, where m is k, and 14
unfoldable pub route_call_number : Network → List ℕ → List ℕ → ℕ → List ℕ → List ℕ → ℕ
route_call_number g P R k scratch answers =
    first_number
    (network_points_number g P
    ∷ nodes_number (node_count g) R
    ∷ k_number k
    ∷ short_number (length scratch) (scratch_words g k)
    ∷ short_number (length answers) (node_count g)
    ∷ route_number g R
    ∷ [])
