-- What makes the rows T of a table exact: as lists without their padding, sorted, of points with sums of walks, and closed under arcs. `Local`
-- says it arc by arc, so that it can be tested. Document 01, 'The table'; the theorems are proofs/Exact.antt's and proofs/Local.antt's.
-- Assumes nothing.
use Rattle.std.specs.Prelude.{ℕ, ◌+◌, ◌≤◌, ◌<◌, ◌≡◌, true, length}
use mathlib.Core.List.{List, Memᴰ}
use Rattle.network.specs.Network.{Network, Arc, node_count}
use Rattle.network.specs.Walk.{Walk}
use Rattle.network.specs.Points.{lockers, marked}
use Rattle.network.specs.Nearest.{key}
use Rattle.network.specs.Order.{Ordered, times}

-- a row is full of what does not come behind (p, d)
pub record Full (K : ℕ) (xs : List (ℕ × ℕ)) (p d : ℕ) : Type 0 where
  pub filled : length xs ≡ K
  pub ends : (y : ℕ × ℕ) → Memᴰ y xs → key y ≤ key (p, d)

-- A row without padding: it is in order by distance then node, it has room, and a node stands in it at one distance, once for each of its lockers,
-- or as often as there is room for at the end of a full row.
pub record Sorted (P : List ℕ) (K : ℕ) (xs : List (ℕ × ℕ)) : Type 0 where
  pub ordered : Ordered xs
  pub short : length xs ≤ K
  pub once : (p d e : ℕ) → Memᴰ (p, d) xs → Memᴰ (p, e) xs → d ≡ e
  pub most : (p : ℕ) → times p xs ≤ lockers P p
  pub whole : (p d : ℕ) → Memᴰ (p, d) xs → times p xs < lockers P p → Full K xs p d

-- an entry of the row of i is a point, with the sum of a walk
pub record Sound (g : Network) (P : List ℕ) (i p d : ℕ) : Type 0 where
  pub inside : p < node_count g
  pub point : marked P p ≡ true
  pub walk : Walk g i p d

-- (p, d) asks for no place in a row: p stands there and is no farther, or the row is full of what does not come behind (p, d)
pub data Placed (K : ℕ) (xs : List (ℕ × ℕ)) (p d : ℕ) : Type 0 where
  stands : {e : ℕ} → e ≤ d → Memᴰ (p, e) xs → Placed K xs p d
  full : Full K xs p d → Placed K xs p d

-- 'It holds the K nearest points of node i that can be reached, by distance then node, i's own point first'
pub record Table (g : Network) (P : List ℕ) (K : ℕ) (T : ℕ → List (ℕ × ℕ)) : Type 0 where
  pub sorted : (i : ℕ) → i < node_count g → Sorted P K (T i)
  pub sound : (i p d : ℕ) → i < node_count g → Memᴰ (p, d) (T i) → Sound g P i p d
  pub source : (i : ℕ) → i < node_count g → marked P i ≡ true → Memᴰ (i, 0) (T i)
  pub closed : {i c w : ℕ} → Arc g i c w → (p d : ℕ) → Memᴰ (p, d) (T c) → Placed K (T i) p (d + w)

-- an entry of the row of i is i itself, or it comes over an arc from the neighbour's row
pub data Support (g : Network) (P : List ℕ) (T : ℕ → List (ℕ × ℕ)) (i p d : ℕ) : Type 0 where
  own : p ≡ i → d ≡ 0 → marked P p ≡ true → Support g P T i p d
  via : {c w e : ℕ} → Arc g i c w → Memᴰ (p, e) (T c) → d ≡ w + e → Support g P T i p d

pub record Local (g : Network) (P : List ℕ) (K : ℕ) (T : ℕ → List (ℕ × ℕ)) : Type 0 where
  pub sorted : (i : ℕ) → i < node_count g → Sorted P K (T i)
  pub supported : (i p d : ℕ) → i < node_count g → Memᴰ (p, d) (T i) → Support g P T i p d
  pub source : (i : ℕ) → i < node_count g → marked P i ≡ true → Memᴰ (i, 0) (T i)
  pub closed : {i c w : ℕ} → Arc g i c w → (p d : ℕ) → Memᴰ (p, d) (T c) → Placed K (T i) p (d + w)
