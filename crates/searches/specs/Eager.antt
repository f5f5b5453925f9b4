-- What eager requires and leaves. Document 01, 'What a site receives', and number 12; document 02, Ask 4. The lent words are: verified flags n |
-- found flags n | visits n | found nodes n | the area of the inner expansions, 4 n | the area of the outer expansion, 4 n.
-- Assumes nothing.
use Rattle.std.specs.Prelude.{ℕ, ◌+◌, ◌*◌, ◌≤◌, ◌<◌, ◌≡◌, Bool, not, List, eqb, length, get_or, Option, None, Some}
use Rattle.network.specs.Network.{Network, node_count}
use Rattle.network.specs.Accepted.{Accepted}
use Rattle.network.specs.Points.{is_listed, listed, expanded}
use Rattle.network.specs.Visits.{visits}
use Rattle.network.specs.Count.{select}
use Rattle.network.specs.Answers.{answered}
use Rattle.network.specs.Scratch.{eager_words}
use Rattle.expansion.specs.Area.{queue_base, Blank, Wiped, Area}
use Rattle.searches.specs.declared.eager.LimitedList.{LimitedList}
use Rattle.searches.specs.declared.eager.End.{End}
use Rattle.searches.specs.Flags.{flags_end, ids_base, inner_base}

-- where the outer area starts
abbrev pub eager_outer_base : Network → ℕ
eager_outer_base g = queue_base (node_count g) (inner_base g) + 2 * node_count g

-- an accepted network with a byte for each node, a site that is a node, at least one nearest, and words that are all 0 with room for the areas
pub record CanSearch (g : Network) (P xs : List ℕ) (q k : ℕ) : Type 0 where
  pub accepted : Accepted g
  pub points : length P ≡ node_count g
  pub site : q < node_count g
  pub some : 1 ≤ k
  pub blank : Blank xs 0
  pub size : eager_words g ≤ length xs

-- an array has a place for each node
abbrev pub HasPlaces : Network → List ℕ → Type 0
HasPlaces g old = node_count g ≤ length old

-- as CanSearch, with the place of the outer area
pub record CanExploreEager (g : Network) (P xs : List ℕ) (b q k : ℕ) : Type 0 where
  pub search : CanSearch g P xs q k
  pub base : b ≡ eager_outer_base g

-- the found flag of p, as a test
abbrev pub is_found : ℕ → List ℕ → ℕ → Bool
is_found n xs p = not (eqb (get_or xs (n + p) 0) 0)

-- the first `count` words behind the flags are the first of the visits
abbrev pub VisitsKept : Network → List ℕ → ℕ → ℕ → List ℕ → ℕ → Type 0
VisitsKept g P q k xs count = (i : ℕ) → i < count → get_or xs (flags_end g + i) 0 ≡ get_or (visits g P q k) i 0

-- the expansion ends: all is expanded, the found flags are those of the listed points, and the visits stand in their words; or the count would exceed
-- the limit
pub record Complete (g : Network) (P : List ℕ) (q k limit : ℕ) (ys : List ℕ) (count : ℕ) : Type 0 where
  pub all : count ≡ expanded g P q k
  pub within : expanded g P q k ≤ limit
  pub found : (p : ℕ) → p < node_count g → is_found (node_count g) ys p ≡ is_listed g P q k p
  pub visited : VisitsKept g P q k ys count

pub record EagerExplored (g : Network) (P : List ℕ) (q k limit : ℕ) (xs ys : List ℕ) (b : ℕ) (r : End) : Type 0 where
  pub size : length ys ≡ length xs
  pub area : Area (node_count g) ys b r.settled r.len
  pub blank : (j : ℕ) → ids_base g ≤ j → j < b → get_or ys j 0 ≡ 0
  pub few : (c : ℕ) → r.count ≡ Some c → c ≤ node_count g
  pub complete : (c : ℕ) → r.count ≡ Some c → Complete g P q k limit ys c
  pub beyond : r.count ≡ None → limit < expanded g P q k

-- the words from the found nodes to the outer area are 0
pub record CanWipe (n : ℕ) (xs : List ℕ) (b settled len : ℕ) : Type 0 where
  pub area : Area n xs b settled len
  pub low : 3 * n ≤ b
  pub blank : (j : ℕ) → 3 * n ≤ j → j < b → get_or xs j 0 ≡ 0

-- a search that has ended can be finished: its words can be cleared, and the answers have a place for each node
pub record CanFinish (n : ℕ) (xs old : List ℕ) (end : End) : Type 0 where
  pub wipe : CanWipe n xs (8 * n) end.settled end.len
  pub few : n ≤ 65535
  pub places : n ≤ length old

-- the list of the found flags is written, or nothing where the search was refused; all words are 0
pub record FinishLeft (n : ℕ) (xs ys old new : List ℕ) (end : End) (r : Option LimitedList) : Type 0 where
  pub area : Wiped xs ys 0
  pub refused : end.count ≡ None → (r ≡ None) × (new ≡ old)
  pub listed :
      (c : ℕ) → end.count ≡ Some c
      → (r ≡ Some (record { size = length (select (is_found n xs) n); count = c })) × (new ≡ answered (select (is_found n xs) n) old)

-- Eager 'returns the list and the count of nodes expanded'; or 12: 'eager: the expanded count would exceed the limit', and the answers are as they
-- were. All words are 0 again.
pub record ListedLeft (g : Network) (P : List ℕ) (q k limit : ℕ) (xs ys old new : List ℕ) (size count : ℕ) : Type 0 where
  pub within : expanded g P q k ≤ limit
  pub counted : count ≡ expanded g P q k
  pub sized : size ≡ length (listed g P q k)
  pub answers : new ≡ answered (listed g P q k) old
  pub area : Wiped xs ys 0

pub record RefusedLeft (g : Network) (P : List ℕ) (q k limit : ℕ) (xs ys old new : List ℕ) : Type 0 where
  pub beyond : limit < expanded g P q k
  pub answers : new ≡ old
  pub area : Wiped xs ys 0

abbrev pub LimitedLeft : Network → List ℕ → ℕ → ℕ → ℕ → List ℕ → List ℕ → List ℕ → List ℕ → Option LimitedList → Type 0
LimitedLeft g P q k limit xs ys old new None = RefusedLeft g P q k limit xs ys old new
LimitedLeft g P q k limit xs ys old new (Some c) = ListedLeft g P q k limit xs ys old new c.size c.count

-- 'Eager also lists the nodes that its count counts' (Ask 4); 12 comes in the middle of the expansion, and leaves the array as it was
abbrev pub VisitsLeft : Network → List ℕ → ℕ → ℕ → List ℕ → List ℕ → Option LimitedList → Type 0
VisitsLeft g P q k old new None = new ≡ old
VisitsLeft g P q k old new (Some c) = new ≡ answered (visits g P q k) old
