-- What the search for the nearest lockers requires and leaves. The lent words are: found nodes, each once | the area of the expansion, from word b on.
-- A found node's distance is its label in the area. Document 01, Nearest, with Ask 8: each node as often as it has lockers, by distance then node, cut
-- after the first k.
-- Assumes nothing.
use Rattle.std.specs.Prelude.{ℕ, zero, suc, ◌+◌, ◌*◌, ◌≤◌, ◌<◌, min, ◌≡◌, List, length, get_or, set}
use Rattle.network.specs.Network.{Network, node_count}
use Rattle.network.specs.Distance.{dist}
use Rattle.network.specs.Points.{lockers}
use Rattle.network.specs.Nearest.{nearest}
use Rattle.expansion.specs.Area.{LabelAt, Area, Blank}
use Rattle.expansion.specs.Expand.{CanExpand, label_in}
use Rattle.expansion.specs.declared.nearest.Near.{Near}
use Rattle.expansion.specs.declared.nearest.Search.{Search}

-- a byte for each node, and words that are all 0, with room for the found nodes and for the expansion
pub record CanFind (g : Network) (P xs : List ℕ) (b k node : ℕ) : Type 0 where
  pub points : length P ≡ node_count g
  pub few : min k (node_count g) ≤ b
  pub blank : Blank xs 0
  pub expand : CanExpand g xs b node

-- how many lockers stand on the nodes in the first i words
unfoldable pub tallied : List ℕ → List ℕ → ℕ → ℕ
tallied P xs zero = 0
tallied P xs (suc i) = tallied P xs i + lockers P (get_or xs i 0)

-- The first words are the found nodes: the answer is each of them as often as it has lockers, in that order, cut after k; the words behind them are 0.
-- The tally is how many lockers the answer has.
pub record FoundIn (g : Network) (P : List ℕ) (node e k : ℕ) (ys : List ℕ) (b found tally : ℕ) : Type 0 where
  pub count : tally ≡ length (nearest g P node e k)
  pub sum : tally ≡ min k (tallied P ys found)
  pub few : found ≤ min k (node_count g)
  pub early : (i : ℕ) → i < found → tallied P ys i < k
  pub some : (i : ℕ) → i < found → 0 < lockers P (get_or ys i 0)
  pub run :
      (i j : ℕ) → i < found → tallied P ys i ≤ j → j < tallied P ys (suc i) → j < k
      → get_or (nearest g P node e k) j (0, 0) ≡ (get_or ys i 0, dist g node (get_or ys i 0))
  pub rest : (j : ℕ) → found ≤ j → j < b → get_or ys j 0 ≡ 0

-- ys is xs with v as found node number `found`, where it has a locker; r is how many there are then
pub record Noted (P xs ys : List ℕ) (found v r : ℕ) : Type 0 where
  pub point : 0 < lockers P v → (ys ≡ set xs found v) × (r ≡ found + 1)
  pub other : lockers P v ≡ 0 → (ys ≡ xs) × (r ≡ found)

-- the search ends: the found nodes stand in the first words, their distances are their labels, and the area holds what the search leaves
pub record FindLeft (g : Network) (P : List ℕ) (node e k : ℕ) (xs ys : List ℕ) (b : ℕ) (r : Search) : Type 0 where
  pub size : length ys ≡ length xs
  pub found_in : FoundIn g P node e k ys b r.found r.tally
  pub labels : (i : ℕ) → i < r.found → LabelAt (node_count g) ys b (get_or ys i 0) (dist g node (get_or ys i 0))
  pub area : Area (node_count g) ys b r.settled r.len

-- the whole: the found nodes in the first words, and every word behind them 0
pub record NodesLeft (g : Network) (P : List ℕ) (node e k : ℕ) (xs ys : List ℕ) (b : ℕ) (r : Near) : Type 0 where
  pub size : length ys ≡ length xs
  pub found_in : FoundIn g P node e k ys b r.found r.tally
  pub blank : Blank ys b

-- ---- The answer written out, each node as often as it has lockers: document 01, Nearest: 'ids and distances in two arrays'. The words are then: found
-- nodes k | ids k | distances k | the area of the expansion.

-- ys is xs with (v, l) at the places from `from` up to `to`; the other words are as they were
pub record Written (xs ys : List ℕ) (k from v l to : ℕ) : Type 0 where
  pub size : length ys ≡ length xs
  pub ids : (j : ℕ) → from ≤ j → j < to → get_or ys (k + j) 0 ≡ v
  pub distances : (j : ℕ) → from ≤ j → j < to → get_or ys (2 * k + j) 0 ≡ l
  pub before : (j : ℕ) → j < k + from → get_or ys j 0 ≡ get_or xs j 0
  pub between : (j : ℕ) → k + to ≤ j → j < 2 * k + from → get_or ys j 0 ≡ get_or xs j 0
  pub behind : (j : ℕ) → 2 * k + to ≤ j → get_or ys j 0 ≡ get_or xs j 0

-- so often as v has lockers, up to k; r is how many there are then
pub record Repeated (P xs ys : List ℕ) (k from v l r : ℕ) : Type 0 where
  pub count : r ≡ min k (from + lockers P v)
  pub written : Written xs ys k from v l r

-- the first r places are those of the answer, and those behind them are 0
pub record ListedIn (g : Network) (P : List ℕ) (node e k : ℕ) (ys : List ℕ) (r : ℕ) : Type 0 where
  pub entry : (j : ℕ) → j < r → (get_or ys (k + j) 0, get_or ys (2 * k + j) 0) ≡ get_or (nearest g P node e k) j (0, 0)
  pub rest : (j : ℕ) → r ≤ j → j < k → (get_or ys (k + j) 0 ≡ 0) × (get_or ys (2 * k + j) 0 ≡ 0)

-- the found nodes in the first words can be written out: each is needed
pub record CanWrite (P xs : List ℕ) (n k found : ℕ) : Type 0 where
  pub points : length P ≡ n
  pub few : found ≤ k
  pub early : (i : ℕ) → i < found → tallied P xs i < k
  pub inside : (i : ℕ) → i < found → get_or xs i 0 < n
  pub room : 3 * k + n ≤ length xs

-- ys is xs with the first `found` nodes and their labels written out, up to k places
pub record WrittenOut (P xs ys : List ℕ) (n k found : ℕ) : Type 0 where
  pub size : length ys ≡ length xs
  pub ids : (i j : ℕ) → i < found → tallied P xs i ≤ j → j < tallied P xs (suc i) → j < k → get_or ys (k + j) 0 ≡ get_or xs i 0
  pub distances :
      (i j : ℕ) → i < found → tallied P xs i ≤ j → j < tallied P xs (suc i) → j < k
      → get_or ys (2 * k + j) 0 ≡ label_in n xs (3 * k) (get_or xs i 0)
  pub rest : (j : ℕ) → tallied P xs found ≤ j → j < k → (get_or ys (k + j) 0 ≡ get_or xs (k + j) 0) × (get_or ys (2 * k + j) 0 ≡ get_or xs (2 * k + j) 0)
  pub before : (j : ℕ) → j < k → get_or ys j 0 ≡ get_or xs j 0
  pub behind : (j : ℕ) → 3 * k ≤ j → get_or ys j 0 ≡ get_or xs j 0

-- the whole: the answer, and every other word 0
pub record NearestLeft (g : Network) (P : List ℕ) (node e k : ℕ) (xs ys : List ℕ) (r : ℕ) : Type 0 where
  pub size : length ys ≡ length xs
  pub count : r ≡ length (nearest g P node e k)
  pub listed : ListedIn g P node e k ys r
  pub front : (j : ℕ) → j < k → get_or ys j 0 ≡ 0
  pub blank : Blank ys (3 * k)
