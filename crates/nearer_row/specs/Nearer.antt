-- Document 02, Ask 1: 'of an own table and a rival's, the call hands back the row whose first entry is nearer, the own one when equal. Its inputs are the
-- network, one K, both tables and the junction. It returns the row's distances, on a refusal an empty part; a second call on the same inputs gives the
-- number.'
-- Assumes nothing.
use Rattle.std.specs.Prelude.{ℕ, Bool, cond, List, [], ◌∷◌, leb, length, get_or}
use Rattle.network.specs.Network.{Network, node_count}
use Rattle.network.specs.Check.{network_number}
use Rattle.network.specs.Rows.{row_entries}
use Rattle.conditions.specs.Conditions.{first_number, by_number, node_number, table_number}

-- the first entry of row i is no farther in the own distances than in the rival's: 'the own one when equal'. NONE is the largest number, so that a row
-- without an entry is nearer than no other.
unfoldable pub own_nearer : ℕ → ℕ → List ℕ → List ℕ → Bool
own_nearer K i own rival = leb (get_or (row_entries K i own) 0 0) (get_or (row_entries K i rival) 0 0)

-- 'the row whose first entry is nearer', its distances
unfoldable pub nearer_row : ℕ → ℕ → List ℕ → List ℕ → List ℕ
nearer_row K i own rival = cond (own_nearer K i own rival) (row_entries K i own) (row_entries K i rival)

-- 'Conditions are tried from 1 upward, those whose subject the call has' (document 01): 1 to 5, 7, and '8 each table, in the order lent'. No table's
-- contents are tested.
unfoldable pub row_number : Network → ℕ → ℕ → List ℕ → List ℕ → List ℕ → List ℕ → ℕ
row_number g junction K ownIds own rivalIds rival =
    first_number
    (network_number g
    ∷ node_number (node_count g) junction
    ∷ table_number (node_count g) K (length ownIds) (length own)
    ∷ table_number (node_count g) K (length rivalIds) (length rival)
    ∷ [])

-- 'It returns the row's distances, on a refusal an empty part'
unfoldable pub row_outcome : Network → ℕ → ℕ → List ℕ → List ℕ → List ℕ → List ℕ → List ℕ
row_outcome g junction K ownIds own rivalIds rival =
    by_number (row_number g junction K ownIds own rivalIds rival) [] (nearer_row K junction own rival)
