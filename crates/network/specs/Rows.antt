-- Document 01, 'The table': its rows, both flat arrays, and how many rows a change of the points changes.
-- Assumes nothing.
use Rattle.std.specs.Prelude.{ℕ, zero, suc, ◌-◌, ◌*◌, ◌≡◌, Bool, true, false, not, ◌&&◌, List, [], ◌∷◌, ◌++◌, map, eqb, length, replicate, take, drop}
use Rattle.network.specs.Network.{Network, node_count}
use Rattle.network.specs.Distance.{NONE}
use Rattle.network.specs.Count.{count}
use Rattle.network.specs.Nearest.{nearest}

-- Row i: 'the K nearest points of node i that can be reached, by distance then node [..]; the rest is NONE in both arrays', a node for each of
-- its lockers, 'still cut after K places'. A distance is below NONE exactly if there is a walk.
abbrev pub pad : ℕ → List (ℕ × ℕ) → List (ℕ × ℕ)
pad K xs = xs ++ replicate (K - length xs) (NONE, NONE)

unfoldable pub row : Network → List ℕ → ℕ → ℕ → List (ℕ × ℕ)
row g P K i = pad K (nearest g P i NONE K)

-- 'Two arrays of n × K entries, ids and distances': the rows of the nodes below n, one after the other
unfoldable pub rows_below : Network → List ℕ → ℕ → ℕ → List (ℕ × ℕ)
rows_below g P K zero = []
rows_below g P K (suc n) = rows_below g P K n ++ row g P K n

unfoldable pub table_ids : Network → List ℕ → ℕ → List ℕ
table_ids g P K = map (λ x. x.0) (rows_below g P K (node_count g))

unfoldable pub table_distances : Network → List ℕ → ℕ → List ℕ
table_distances g P K = map (λ x. x.1) (rows_below g P K (node_count g))

-- row i of the ids or of the distances: 'Row i starts in the middle of each array, at i × K, and is passed to its reader or writer as that part.'
unfoldable pub row_entries : ℕ → ℕ → List ℕ → List ℕ
row_entries K i xs = take K (drop (i * K) xs)

-- 'Two arrays of n × K entries'
pub record Sized (g : Network) (K : ℕ) (ids dists : List ℕ) : Type 0 where
  pub all_ids : length ids ≡ node_count g * K
  pub all_dists : length dists ≡ node_count g * K

-- both arrays are the table of document 01
pub record IsTable (g : Network) (P : List ℕ) (K : ℕ) (ids dists : List ℕ) : Type 0 where
  pub same_ids : ids ≡ table_ids g P K
  pub same_dists : dists ≡ table_distances g P K

-- the table check: 'yes exactly when both arrays are the table that build would write', entry by entry
unfoldable pub same_list : List ℕ → List ℕ → Bool
same_list [] [] = true
same_list [] (y ∷ ys) = false
same_list (x ∷ xs) [] = false
same_list (x ∷ xs) (y ∷ ys) = eqb x y && same_list xs ys

unfoldable pub same_table : Network → List ℕ → ℕ → List ℕ → List ℕ → Bool
same_table g P K ids dists = same_list ids (table_ids g P K) && same_list dists (table_distances g P K)

-- 'the number of rows whose contents differ before and after', where the points were P and are P'
unfoldable pub same_row : List (ℕ × ℕ) → List (ℕ × ℕ) → Bool
same_row [] [] = true
same_row [] (y ∷ ys) = false
same_row (x ∷ xs) [] = false
same_row (x ∷ xs) (y ∷ ys) = eqb x.0 y.0 && eqb x.1 y.1 && same_row xs ys

unfoldable pub rows_changed : Network → List ℕ → List ℕ → ℕ → ℕ
rows_changed g P P' K = count (λ i. not (same_row (row g P K i) (row g P' K i))) (node_count g)
