-- What lazy, and lazy with extended pruning, leave. And of lazy alone, what its functions require and leave: its words are: counts n | found flags n
-- | the area of the verifications, 4 n | the area of the search, 4 n. The count and the found flag of node u are the words u and n + u.
-- Assumes nothing.
use Rattle.std.specs.Prelude.{ℕ, ◌+◌, ◌*◌, ◌≤◌, ◌<◌, ◌≡◌, ◌≢◌, ◌⊎◌, Bool, true, ◌&&◌, List, ltb, length, get_or}
use Rattle.network.specs.Network.{Network, node_count}
use Rattle.network.specs.Accepted.{Accepted}
use Rattle.network.specs.Distance.{dist}
use Rattle.network.specs.Count.{select}
use Rattle.network.specs.Points.{lockers, is_listed, listed}
use Rattle.network.specs.Answers.{answered}
use Rattle.expansion.specs.Area.{queue_base, LabelAt, AmongSettled, Blank, Wiped}
use Rattle.expansion.specs.Expand.{label_in, settled_in}
use Rattle.searches.specs.Eager.{is_found}

-- 'Lazy (000, 3.3) and lazy-EP (000, 4.2): the list.' All words are 0 again.
pub record SearchLeft (g : Network) (P : List ℕ) (q k : ℕ) (xs ys old new : List ℕ) (size : ℕ) : Type 0 where
  pub sized : size ≡ length (listed g P q k)
  pub answers : new ≡ answered (listed g P q k) old
  pub area : Wiped xs ys 0

-- where the area of the verifications starts, and where that of the search does
abbrev pub visit_base : ℕ → ℕ
visit_base n = 2 * n

abbrev pub search_base : Network → ℕ
search_base g = queue_base (node_count g) (visit_base (node_count g)) + 2 * node_count g

-- c lockers can be added to the counts of the nodes that a verification has settled: they are nodes, and no two are one
pub record CanCount (n : ℕ) (xs : List ℕ) (b settled c : ℕ) : Type 0 where
  pub bound : n ≤ 65535
  pub low : queue_base n (visit_base n) ≤ b
  pub fits : b + n ≤ length xs
  pub few : settled ≤ n
  pub small : (u : ℕ) → u < n → get_or xs u 0 + c < 4294967296
  pub nodes : (i : ℕ) → i < settled → settled_in n xs (visit_base n) i < n
  pub distinct : (i j : ℕ) → i < settled → j < settled → settled_in n xs (visit_base n) i ≡ settled_in n xs (visit_base n) j → i ≡ j

-- A verification settled a node at label `near`; the search at label `far`, NONE where it has not, and has come to label l. Whether the verified point
-- is strictly nearer to the node than the site: a node that the search has not settled is no nearer to the site than l, and one that it has no farther.
-- Equal distances never count.
abbrev pub is_less : ℕ → ℕ → ℕ → Bool
is_less near far l = ltb near far && ltb near l

-- the count of u rises by c
pub record Rises (n : ℕ) (xs ys : List ℕ) (b l c u : ℕ) : Type 0 where
  pub more : get_or ys u 0 ≡ get_or xs u 0 + c
  pub less : is_less (label_in n xs (visit_base n) u) (label_in n xs b u) l ≡ true

pub record CountedNode (n : ℕ) (xs ys : List ℕ) (b l c u : ℕ) : Type 0 where
  pub size : length ys ≡ length xs
  pub words : (i : ℕ) → i ≢ u → get_or ys i 0 ≡ get_or xs i 0
  pub count : (get_or ys u 0 ≡ get_or xs u 0) ⊎ Rises n xs ys b l c u

pub record CountedAll (n : ℕ) (xs ys : List ℕ) (b settled l c : ℕ) : Type 0 where
  pub size : length ys ≡ length xs
  pub words : (i : ℕ) → n ≤ i → get_or ys i 0 ≡ get_or xs i 0
  pub counts : (u : ℕ) → u < n → (get_or ys u 0 ≡ get_or xs u 0) ⊎ (AmongSettled n xs (visit_base n) settled u × Rises n xs ys b l c u)

-- a node v to which the search comes: it is verified where it is a point
pub record CanDiscover (g : Network) (P : List ℕ) (q k : ℕ) (xs : List ℕ) (b v : ℕ) : Type 0 where
  pub accepted : Accepted g
  pub points : length P ≡ node_count g
  pub site : q < node_count g
  pub base : b ≡ search_base g
  pub fits : b + node_count g ≤ length xs
  pub inside : v < node_count g
  pub small : (u : ℕ) → u < node_count g → get_or xs u 0 + 255 < 4294967296
  pub blank : (j : ℕ) → visit_base (node_count g) ≤ j → j < b → get_or xs j 0 ≡ 0
  pub sound : get_or xs (node_count g + v) 0 ≢ 0 → is_listed g P q k v ≡ true

-- the count of u rises by the lockers of v: v is nearer to u than l, and than u's label where the search has settled u
pub record CountedBy (g : Network) (P xs ys : List ℕ) (b l v u : ℕ) : Type 0 where
  pub byte : lockers P v ≤ 255
  pub more : get_or ys u 0 ≡ get_or xs u 0 + lockers P v
  pub ahead : dist g v u < l
  pub behind : (m : ℕ) → LabelAt (node_count g) xs b u m → dist g v u < m

pub record Discovered (g : Network) (P : List ℕ) (q k : ℕ) (xs ys : List ℕ) (b v l : ℕ) : Type 0 where
  pub size : length ys ≡ length xs
  pub words : (i : ℕ) → b ≤ i → get_or ys i 0 ≡ get_or xs i 0
  pub blank : (j : ℕ) → visit_base (node_count g) ≤ j → j < b → get_or ys j 0 ≡ 0
  pub others : (p : ℕ) → p < node_count g → p ≢ v → get_or ys (node_count g + p) 0 ≡ get_or xs (node_count g + p) 0
  pub sound : get_or ys (node_count g + v) 0 ≢ 0 → is_listed g P q k v ≡ true
  pub told : is_listed g P q k v ≡ true → get_or ys (node_count g + v) 0 ≢ 0
  pub counts : (u : ℕ) → u < node_count g → (get_or ys u 0 ≡ get_or xs u 0) ⊎ CountedBy g P xs ys b l v u

-- an accepted network with a byte for each node, a site, and words that are all 0; then the found flags are those of the listed points
pub record CanExploreLazy (g : Network) (P xs : List ℕ) (b q : ℕ) : Type 0 where
  pub accepted : Accepted g
  pub points : length P ≡ node_count g
  pub site : q < node_count g
  pub base : b ≡ search_base g
  pub blank : Blank xs 0
  pub size : queue_base (node_count g) b + 2 * node_count g ≤ length xs

pub record LazyExplored (g : Network) (P : List ℕ) (q k : ℕ) (xs ys : List ℕ) : Type 0 where
  pub size : length ys ≡ length xs
  pub found : select (is_found (node_count g) ys) (node_count g) ≡ listed g P q k
