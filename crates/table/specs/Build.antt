-- What `build` and its steps require and leave. Document 01, 'The table': 'Build fills it.' Words of scratch: a row's length for each node, then the
-- queue. An entry of the queue offers a point to a node's row: its distance, and the tag of point and node.
-- Assumes nothing.
use Rattle.std.specs.Prelude.{ℕ, zero, suc, ◌+◌, ◌-◌, ◌*◌, ◌≤◌, ◌<◌, min, ◌≡◌, ◌⊎◌, Bool, true, false, List, Option, None, Some, length, get_or, set, replicate}
use Rattle.network.specs.Network.{Network, node_count, arc_count, neighbours_of}
use Rattle.network.specs.Accepted.{Accepted}
use Rattle.network.specs.Distance.{NONE}
use Rattle.network.specs.Points.{marked}
use Rattle.expansion.specs.Area.{Blank, Wiped, Entered}
use Rattle.network.specs.Rows.{Sized, IsTable}
use Rattle.table.specs.Offer.{offer_of, arc_offer, CanOffer}

-- a point stands among the `size` ids from place `from` on
pub record Stands (ids : List ℕ) (from size p : ℕ) : Type 0 where
  pub index : ℕ
  pub low : index < size
  pub is : get_or ids (from + index) 0 ≡ p

-- a row of `size` entries has a place for p: one is free, and it lacks p
pub record HasPlace (ids : List ℕ) (size p : ℕ) : Type 0 where
  pub free : size < length ids
  pub lacks : Stands ids 0 size p → ⊥

-- it has none: it is full, or p stands there
pub record NoPlace (ids : List ℕ) (size p : ℕ) : Type 0 where
  pub why : (size ≡ length ids) ⊎ Stands ids 0 size p

-- whether it has one
pub record HasPlaceIs (ids : List ℕ) (size p : ℕ) (r : Bool) : Type 0 where
  pub yes : r ≡ true → HasPlace ids size p
  pub no : r ≡ false → NoPlace ids size p

-- a list with v at the n places from `at` on
unfoldable pub with_run : List ℕ → ℕ → ℕ → ℕ → List ℕ
with_run xs at zero v = xs
with_run xs at (suc n) v = set (with_run xs at n v) (at + n) v

-- how often a row of K places and `size` entries takes a point with so many lockers: once for each, or as often as there is room for (Ask 8: 'Rows
-- [..] repeat a node for each locker, and a row is still cut after K places')
abbrev pub often : ℕ → ℕ → ℕ → ℕ
often K size all = min all (K - size)

-- the row takes (p, d) so often behind its entries where it has a place for p, and has `end` entries then; else it stays as it is
pub record AppendTakes (ids ids' dists dists' : List ℕ) (size p d all end : ℕ) : Type 0 where
  pub place : HasPlace ids size p
  pub count : end ≡ size + often (length ids) size all
  pub new_ids : ids' ≡ with_run ids size (often (length ids) size all) p
  pub new_dists : dists' ≡ with_run dists size (often (length ids) size all) d

pub record AppendRefuses (ids ids' dists dists' : List ℕ) (size p : ℕ) : Type 0 where
  pub place : NoPlace ids size p
  pub new_ids : ids' ≡ ids
  pub new_dists : dists' ≡ dists

-- one of both: r is how many entries the row has then, if it took p
abbrev pub Appended : List ℕ → List ℕ → List ℕ → List ℕ → ℕ → ℕ → ℕ → ℕ → Option ℕ → Type 0
Appended ids ids' dists dists' size p d all None = AppendRefuses ids ids' dists dists' size p
Appended ids ids' dists dists' size p d all (Some end) = AppendTakes ids ids' dists dists' size p d all end

-- the same of node i's row, from place i * K on, whose size is the node's word of scratch
pub record CanReadRow (xs ids : List ℕ) (K i : ℕ) : Type 0 where
  pub word : i < length xs
  pub size : get_or xs i 0 ≤ K
  pub ids_room : i * K + K ≤ length ids

pub record HasPlaceAt (xs ids : List ℕ) (K i p : ℕ) : Type 0 where
  pub free : get_or xs i 0 < K
  pub lacks : Stands ids (i * K) (get_or xs i 0) p → ⊥

pub record NoPlaceAt (xs ids : List ℕ) (K i p : ℕ) : Type 0 where
  pub why : (get_or xs i 0 ≡ K) ⊎ Stands ids (i * K) (get_or xs i 0) p

pub record HasPlaceAtIs (xs ids : List ℕ) (K i p : ℕ) (r : Bool) : Type 0 where
  pub yes : r ≡ true → HasPlaceAt xs ids K i p
  pub no : r ≡ false → NoPlaceAt xs ids K i p

pub record CanAppend (xs ids dists : List ℕ) (K i all : ℕ) : Type 0 where
  pub look : CanReadRow xs ids K i
  pub places : K ≤ 17
  pub dists_room : i * K + K ≤ length dists
  pub some : 0 < all

pub record AppendTakesAt (xs ys ids ids' dists dists' : List ℕ) (K i p d all : ℕ) : Type 0 where
  pub place : HasPlaceAt xs ids K i p
  pub words : ys ≡ set xs i (get_or xs i 0 + often K (get_or xs i 0) all)
  pub new_ids : ids' ≡ with_run ids (i * K + get_or xs i 0) (often K (get_or xs i 0) all) p
  pub new_dists : dists' ≡ with_run dists (i * K + get_or xs i 0) (often K (get_or xs i 0) all) d

pub record AppendRefusesAt (xs ys ids ids' dists dists' : List ℕ) (K i p : ℕ) : Type 0 where
  pub place : NoPlaceAt xs ids K i p
  pub words : ys ≡ xs
  pub new_ids : ids' ≡ ids
  pub new_dists : dists' ≡ dists

pub record AppendedAt (xs ys ids ids' dists dists' : List ℕ) (K i p d all : ℕ) (r : Bool) : Type 0 where
  pub taken : r ≡ true → AppendTakesAt xs ys ids ids' dists dists' K i p d all
  pub refused : r ≡ false → AppendRefusesAt xs ys ids ids' dists dists' K i p

-- what offering (p, d), of the row of v, over v's arcs requires: the distance and the queue have room, and each node's row can be looked at
pub record CanOfferOn (g : Network) (xs ids : List ℕ) (K len v p d : ℕ) : Type 0 where
  pub can : CanOffer g xs len v p d
  pub looks : (i : ℕ) → i < node_count g → CanReadRow xs ids K i

-- the arcs of v before place `end` that lead to a row with a place for p have each put in an entry; `more` is the queue's length then
abbrev pub OfferedOn : Network → List ℕ → List ℕ → List ℕ → ℕ → ℕ → ℕ → ℕ → ℕ → ℕ → ℕ → Type 0
OfferedOn g xs ys ids K len more v p d end =
    Entered (node_count g) xs ys len more end (arc_offer g v p d) (λ j. HasPlaceAt xs ids K (get_or (neighbours_of g v) j 0) p)

-- words that are all 0, with room for an entry for each node
pub record CanSeedPoints (P xs : List ℕ) : Type 0 where
  pub few : length P ≤ 65535
  pub blank : Blank xs 0
  pub room : length P + 2 * length P ≤ length xs

-- the points below `end` have each put in an entry: itself, at distance 0
abbrev pub PointsSeeded : List ℕ → List ℕ → List ℕ → ℕ → ℕ → Type 0
PointsSeeded P xs ys end len = Entered (length P) xs ys 0 len end (λ i. offer_of i i 0) (λ i. marked P i ≡ true)

-- an accepted network, a byte for each node, K of 2 to 17, table arrays of n * K entries, and words that are all 0: n, and 2 (n + K A) for the queue
pub record CanBuild (g : Network) (P xs ids dists : List ℕ) (K : ℕ) : Type 0 where
  pub accepted : Accepted g
  pub points : length P ≡ node_count g
  pub least : 2 ≤ K
  pub most : K ≤ 17
  pub sized : Sized g K ids dists
  pub blank : Blank xs 0
  pub room : node_count g + 2 * (node_count g + K * arc_count g) ≤ length xs

-- the same, and all places are empty
pub record CanSpread (g : Network) (P xs ids dists : List ℕ) (K : ℕ) : Type 0 where
  pub can : CanBuild g P xs ids dists K
  pub empty_ids : ids ≡ replicate (node_count g * K) NONE
  pub empty_dists : dists ≡ replicate (node_count g * K) NONE

pub record SpreadLeft (g : Network) (P xs ys ids dists : List ℕ) (K : ℕ) : Type 0 where
  pub size : length ys ≡ length xs
  pub table : IsTable g P K ids dists

-- 'Build fills it': both arrays are the table, whatever they held, and the words are 0 again
pub record BuildLeft (g : Network) (P xs ys ids dists : List ℕ) (K : ℕ) : Type 0 where
  pub table : IsTable g P K ids dists
  pub area : Wiped xs ys 0
