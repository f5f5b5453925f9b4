-- What lazy with extended pruning requires, and what its functions leave. The lent words are: found flags n | row ids n k | row words n k | the
-- second queue | the area of the inner expansions, from word `inner` on | the area of the outer expansion, from word `outer` on.
-- Assumes nothing.
use Rattle.std.specs.Prelude.{ℕ, ◌+◌, ◌*◌, ◌≤◌, ◌<◌, ◌≡◌, ◌≢◌, ◌⊎◌, true, List, length, get_or, take}
use Rattle.network.specs.Network.{Network, node_count}
use Rattle.network.specs.Accepted.{Accepted}
use Rattle.network.specs.Count.{select}
use Rattle.network.specs.Points.{marked, is_listed, listed}
use Rattle.expansion.specs.Area.{LabelAt, Blank}
use Rattle.searches.specs.Eager.{is_found}
use Rattle.lazy_searches.specs.Second.{second_base, Second, SecondSound, Closed}

-- the words of an expansion's area
abbrev pub area_size : Network → ℕ
area_size g = 4 * node_count g

-- an accepted network with a byte for each node, a site that is a node, words that are all 0 with room for the flags, the rows and two areas, and
-- room for the answers
pub record CanExtend (g : Network) (P xs old : List ℕ) (q k : ℕ) : Type 0 where
  pub accepted : Accepted g
  pub points : length P ≡ node_count g
  pub site : q < node_count g
  pub blank : Blank xs 0
  pub size : second_base (node_count g) k + 2 * area_size g ≤ length xs
  pub answers : node_count g ≤ length old

-- the same, with the areas' bases
pub record CanSettle (g : Network) (P xs : List ℕ) (inner outer q k : ℕ) : Type 0 where
  pub accepted : Accepted g
  pub points : length P ≡ node_count g
  pub site : q < node_count g
  pub blank : Blank xs 0
  pub rows : second_base (node_count g) k ≤ inner
  pub middle : inner + area_size g ≤ outer
  pub size : outer + area_size g ≤ length xs

-- the found flags are those of the listed points
pub record SettledFound (g : Network) (P : List ℕ) (q k : ℕ) (xs ys : List ℕ) : Type 0 where
  pub size : length ys ≡ length xs
  pub found : select (is_found 0 ys) (node_count g) ≡ listed g P q k

-- node u is settled, and k lockers stand in its row at distances below its label
pub record ClosedBehind (P : List ℕ) (n : ℕ) (xs : List ℕ) (outer k u : ℕ) : Type 0 where
  pub label : ℕ
  pub settled : LabelAt n xs outer u label
  pub closed : Closed P n xs k u label

-- an entry of v at label l, put in by u, is taken back: v's row has k lockers below l, or u's has k below its own label
abbrev pub TakenBack : List ℕ → ℕ → List ℕ → ℕ → ℕ → ℕ → ℕ → ℕ → Type 0
TakenBack P n xs outer k v l u = Closed P n xs k v l ⊎ ClosedBehind P n xs outer k u

-- the words before the outer area: node v can be verified, and come into its own row
pub record CanDiscoverEp (g : Network) (P xs : List ℕ) (inner k len v q : ℕ) : Type 0 where
  pub accepted : Accepted g
  pub points : length P ≡ node_count g
  pub site : q < node_count g
  pub inside : v < node_count g
  pub blank : Blank xs inner
  pub rows : second_base (node_count g) k ≤ inner
  pub size : inner + area_size g ≤ length xs
  pub second : Second g (take inner xs) k len

-- v's own flag alone may change, and is set where v is listed
pub record OwnFlag (g : Network) (P : List ℕ) (q k v : ℕ) (xs ys : List ℕ) : Type 0 where
  pub other : (p : ℕ) → p ≢ v → p < node_count g → get_or ys p 0 ≡ get_or xs p 0
  pub sound : get_or ys v 0 ≢ 0 → (get_or xs v 0 ≢ 0) ⊎ (is_listed g P q k v ≡ true)
  pub told : is_listed g P q k v ≡ true → get_or ys v 0 ≢ 0

-- v is verified: no word but its flag changes
pub record PointVerified (g : Network) (P : List ℕ) (q k v : ℕ) (xs ys : List ℕ) : Type 0 where
  pub size : length ys ≡ length xs
  pub flag : OwnFlag g P q k v xs ys
  pub rest : (i : ℕ) → node_count g ≤ i → get_or ys i 0 ≡ get_or xs i 0

-- v is verified where it is a point, and spreads from its own row then
pub record DiscoveredEp (g : Network) (P : List ℕ) (q k v inner : ℕ) (xs ys : List ℕ) (len r : ℕ) : Type 0 where
  pub size : length ys ≡ length xs
  pub flag : OwnFlag g P q k v xs ys
  pub blank : Blank ys inner
  pub second : Second g (take inner ys) k r
  pub sound :
      (M : List ℕ) → (marked P v ≡ true → marked M v ≡ true) → SecondSound g M (take inner xs) k len
      → SecondSound g M (take inner ys) k r
