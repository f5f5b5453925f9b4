-- The best entry that a short row can take from its neighbours' rows: what the steps of `remove` that look for it require and leave. Any contents of
-- the table are allowed: an id is compared with the marks, and a distance with what one can be.
-- Assumes nothing.
use Rattle.std.specs.Prelude.{ℕ, ◌+◌, ◌≤◌, ◌<◌, ◌≡◌, ◌⊎◌, Option, None, Some, IfSome, length, get_or}
use mathlib.Core.List.{List, Memᴰ}
use Rattle.network.specs.Network.{Network, node_count, neighbours_of, weights_of}
use Rattle.network.specs.Accepted.{Accepted}
use Rattle.network.specs.Distance.{NONE, LONGEST}
use Rattle.network.specs.Points.{lockers}
use Rattle.network.specs.Nearest.{key}
use Rattle.network.specs.Order.{times}
use Rattle.rows.specs.Flat.{row_at}
use Rattle.network.specs.Rows.{Sized}
use Rattle.rows.specs.Check.{among}
use Rattle.table.specs.declared.remove.Candidate.{Candidate}

-- (p, e) of a neighbour's row may go into a row: the row lacks a locker of p, and e can be a distance
pub record Fits (P own : List ℕ) (p e : ℕ) : Type 0 where
  pub low : e ≤ LONGEST
  pub lacks : among own p (length own) < lockers P p

-- what comes first: a candidate by its distance and its point, and any of them before none
abbrev pub rank : Option Candidate → ℕ
rank None = key (0, NONE)
rank (Some c) = key (c.point, c.distance)

-- r is the better of a candidate, where there is one, and (p, e) over an arc of weight w
pub record Better (P own : List ℕ) (best r : Option Candidate) (p e w : ℕ) : Type 0 where
  pub most : rank r ≤ rank best
  pub least : Fits P own p e → rank r ≤ key (p, e + w)
  pub from : IfSome r (λ c. (best ≡ Some c) ⊎ (◌≡◌ {A = ℕ × ℕ} (c.point, c.distance) (p, e + w) × Fits P own p e))

-- a place of a neighbour's row below `end` gives r
pub record Gives (P own ids dists : List ℕ) (w end : ℕ) (r : ℕ × ℕ) : Type 0 where
  pub index : ℕ
  pub low : index < end
  pub fits : Fits P own (get_or ids index 0) (get_or dists index 0)
  pub is : r ≡ (get_or ids index 0, get_or dists index 0 + w)

-- r is the best of a candidate, where there is one, and the places of a neighbour's row below `end`
pub record BestOfRow (P own ids dists : List ℕ) (w end : ℕ) (best r : Option Candidate) : Type 0 where
  pub most : rank r ≤ rank best
  pub least : (j : ℕ) → j < end → Fits P own (get_or ids j 0) (get_or dists j 0) → rank r ≤ key (get_or ids j 0, get_or dists j 0 + w)
  pub from : IfSome r (λ c. (best ≡ Some c) ⊎ Gives P own ids dists w end (c.point, c.distance))

-- node i, and rows in both arrays
pub record CanChoose (g : Network) (ids dists : List ℕ) (K i : ℕ) : Type 0 where
  pub accepted : Accepted g
  pub inside : i < node_count g
  pub sized : Sized g K ids dists

-- the same of rows as lists: (p, e) of the row of a neighbour may go into the row
pub record FitsRow (P : List ℕ) (own : List (ℕ × ℕ)) (p e : ℕ) : Type 0 where
  pub low : e ≤ LONGEST
  pub lacks : times p own < lockers P p

-- the row of a neighbour, by an arc of i before place `end`, gives r
pub record GivesOver (g : Network) (P ids dists : List ℕ) (K i end : ℕ) (r : ℕ × ℕ) : Type 0 where
  pub place : ℕ
  pub low : place < end
  pub point : ℕ
  pub far : ℕ
  pub mem : Memᴰ (point, far) (row_at ids dists K (get_or (neighbours_of g i) place 0))
  pub fit : FitsRow P (row_at ids dists K i) point far
  pub is : r ≡ (point, far + get_or (weights_of g i) place 0)

-- r is the best entry that the rows of the neighbours by the arcs of i before place `end` hold and its own lacks, if there is one
pub record BestOf (g : Network) (P ids dists : List ℕ) (K i end : ℕ) (r : Option Candidate) : Type 0 where
  pub least :
      (j p e : ℕ) → j < end → Memᴰ (p, e) (row_at ids dists K (get_or (neighbours_of g i) j 0)) → FitsRow P (row_at ids dists K i) p e
      → rank r ≤ key (p, e + get_or (weights_of g i) j 0)
  pub from : IfSome r (λ c. GivesOver g P ids dists K i end (c.point, c.distance))
