-- One locker of a node is taken out of a row that has all of them: those behind it move down by one, and the last place is empty. A row that lacks a
-- place for one of them is full, and stays. Document 01, 'The table': 'remove clears one; each brings the table up to date'; Ask 8: 'remove takes
-- one'. Any contents are allowed: on a table that the check would deny the row is free.
-- Assumes nothing.
use Rattle.std.specs.Prelude.{ℕ, suc, ◌≤◌, ◌<◌, ◌≡◌, ◌≢◌, Bool, true, false, List, [], ◌∷◌, ◌++◌, eqb, length, get_or}
use Rattle.network.specs.Distance.{NONE}
use Rattle.network.specs.Order.{times}
use Rattle.rows.specs.Flat.{places, row_at}

-- the row without the first entry of p, and one empty place more at its end
unfoldable pub take_out : ℕ → List (ℕ × ℕ) → List (ℕ × ℕ)
take_out p [] = []
take_out p (y ∷ ys) = elim (eqb y.0 p) [ true ↦ ys ++ (NONE, NONE) ∷ [] | false ↦ y ∷ take_out p ys ]

abbrev pub take_if : Bool → ℕ → List (ℕ × ℕ) → List (ℕ × ℕ)
take_if true p xs = take_out p xs
take_if false p xs = xs

-- ys is xs without what stood at a place
pub record TakenAt (xs ys : List ℕ) (place : ℕ) : Type 0 where
  pub size : length ys ≡ length xs
  pub before : (j : ℕ) → j < place → get_or ys j 0 ≡ get_or xs j 0
  pub behind : (j : ℕ) → place ≤ j → j < length xs → get_or ys j 0 ≡ get_or xs (suc j) NONE

-- one locker of p is taken out of a row of two parts, where it has all; r says so
pub record TakenOut (ids dists ids' dists' : List ℕ) (p all : ℕ) (r : Bool) : Type 0 where
  pub ids_size : length ids' ≡ length ids
  pub dists_size : length dists' ≡ length dists
  pub row : places ids' dists' 0 (length ids) ≡ take_if r p (places ids dists 0 (length ids))
  pub was : r ≡ eqb (times p (places ids dists 0 (length ids))) all

-- so of row i, and the other rows are as they were
pub record TakenOutOfRow (ids dists ids' dists' : List ℕ) (K i p all : ℕ) (r : Bool) : Type 0 where
  pub ids_size : length ids' ≡ length ids
  pub dists_size : length dists' ≡ length dists
  pub row : row_at ids' dists' K i ≡ take_if r p (row_at ids dists K i)
  pub others : (j : ℕ) → j ≢ i → row_at ids' dists' K j ≡ row_at ids dists K j
  pub was : r ≡ eqb (times p (row_at ids dists K i)) all
