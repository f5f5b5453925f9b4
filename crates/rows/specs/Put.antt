-- A point is put into a row: it goes behind the entries that come before it by distance then node, those behind it move up by one, and the last
-- drops. Document 01, 'The table', with Ask 8: 'Insert adds one', and 'brings the table up to date'. Any contents are allowed: on a table that the
-- check would deny the row is free.
-- Assumes nothing.
use Rattle.std.specs.Prelude.{ℕ, zero, suc, ◌+◌, ◌*◌, ◌≤◌, ◌<◌, ◌≡◌, ◌≢◌, Bool, false, ◌||◌, List, [], ◌∷◌, Option, MatchOption, ltb, length, take}
use Rattle.network.specs.Nearest.{key, insert}
use Rattle.rows.specs.Flat.{place, places, row_at}

-- whether some entry of the row comes behind x
unfoldable pub takes : ℕ × ℕ → List (ℕ × ℕ) → Bool
takes x [] = false
takes x (y ∷ ys) = ltb (key x) (key y) || takes x ys

-- xs with v at place j, those behind it moved up by one, and the last dropped
unfoldable pub insert_at : ℕ → ℕ → List ℕ → List ℕ
insert_at j v [] = []
insert_at zero v (x ∷ xs) = v ∷ insert_at zero x xs
insert_at (suc j) v (x ∷ xs) = x ∷ insert_at j v xs

-- place r is the first whose entry comes behind (p, d); no entry does
pub record FirstBehind (ids dists : List ℕ) (p d r : ℕ) : Type 0 where
  pub low : r < length ids
  pub before : (j : ℕ) → j < r → key (place ids dists j) ≤ key (p, d)
  pub behind : key (p, d) < key (place ids dists r)

pub record NoneBehind (ids dists : List ℕ) (p d : ℕ) : Type 0 where
  pub before : (j : ℕ) → j < length ids → key (place ids dists j) ≤ key (p, d)

abbrev pub PlaceOf : List ℕ → List ℕ → ℕ → ℕ → Option ℕ → Type 0
PlaceOf ids dists p d r = MatchOption r (NoneBehind ids dists p d) (FirstBehind ids dists p d)

-- (p, d) is put into a row of two parts; r says whether the row took it
pub record PutIn (ids dists ids' dists' : List ℕ) (p d : ℕ) (r : Bool) : Type 0 where
  pub ids_size : length ids' ≡ length ids
  pub dists_size : length dists' ≡ length dists
  pub row : places ids' dists' 0 (length ids) ≡ take (length ids) (insert (p, d) (places ids dists 0 (length ids)))
  pub taken : r ≡ takes (p, d) (places ids dists 0 (length ids))

-- row i of K places lies in both arrays
pub record HasRow (ids dists : List ℕ) (K i : ℕ) : Type 0 where
  pub fits : i * K + K ≤ length ids
  pub same : length dists ≡ length ids

-- (p, d) is put into row i, and the other rows are as they were
pub record PutInRow (ids dists ids' dists' : List ℕ) (K i p d : ℕ) (r : Bool) : Type 0 where
  pub ids_size : length ids' ≡ length ids
  pub dists_size : length dists' ≡ length dists
  pub row : row_at ids' dists' K i ≡ take K (insert (p, d) (row_at ids dists K i))
  pub others : (j : ℕ) → j ≢ i → row_at ids' dists' K j ≡ row_at ids dists K j
  pub taken : r ≡ takes (p, d) (row_at ids dists K i)
