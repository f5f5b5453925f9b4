-- A table in two flat arrays: place j of the row of i is at i * K + j, a node in `ids` and its distance in `dists`. Document 01, 'The table': 'Two
-- arrays of n × K entries, ids and distances [..]. Row i starts in the middle of each array, at i × K'. Its entries end at the first NONE.
-- Assumes nothing.
use Rattle.std.specs.Prelude.{ℕ, zero, suc, ◌+◌, ◌*◌, ◌<◌, ◌≡◌, true, false, List, [], ◌∷◌, eqb, get_or}
use Rattle.network.specs.Network.{Network, node_count}
use Rattle.network.specs.Distance.{NONE}
use Rattle.network.specs.Rows.{pad}
use Rattle.rows.specs.Exact.{Local}

-- the entries before the first NONE
unfoldable pub unpadded : List (ℕ × ℕ) → List (ℕ × ℕ)
unpadded [] = []
unpadded (x ∷ xs) = elim (eqb x.0 NONE) [ true ↦ [] | false ↦ x ∷ unpadded xs ]

-- place `at`, the k places from there on, and the row of i with its padding
abbrev pub place : List ℕ → List ℕ → ℕ → ℕ × ℕ
place ids dists at = (get_or ids at 0, get_or dists at 0)

unfoldable pub places : List ℕ → List ℕ → ℕ → ℕ → List (ℕ × ℕ)
places ids dists at zero = []
places ids dists at (suc k) = place ids dists at ∷ places ids dists (suc at) k

abbrev pub row_at : List ℕ → List ℕ → ℕ → ℕ → List (ℕ × ℕ)
row_at ids dists K i = places ids dists (i * K) K

-- a member of the k places, with its index
pub record At (ids dists : List ℕ) (at k : ℕ) (z : ℕ × ℕ) : Type 0 where
  pub index : ℕ
  pub low : index < k
  pub is : z ≡ place ids dists (at + index)

-- its rows, up to the first NONE, have the local properties, and behind it there is only padding
pub record Flat (g : Network) (P : List ℕ) (K : ℕ) (ids dists : List ℕ) : Type 0 where
  pub rows : Local g P K (λ i. unpadded (row_at ids dists K i))
  pub padded : (i : ℕ) → i < node_count g → row_at ids dists K i ≡ pad K (unpadded (row_at ids dists K i))
