-- What the table query requires and leaves. Document 01, 'The table'. The lent words are: verified flags n | found flags n | the area of the inner
-- expansions, 4 n | the area of the outer expansion, 4 n. A lent table is not tested: what holds of any is said apart from what holds of the table of P.
-- Assumes nothing.
use Rattle.std.specs.Prelude.{ℕ, ◌+◌, ◌-◌, ◌*◌, ◌≤◌, ◌<◌, ◌≡◌, ◌≢◌, ◌⊎◌, Bool, true, List, length, get_or}
use Rattle.network.specs.Network.{Network, node_count}
use Rattle.network.specs.Accepted.{Accepted}
use Rattle.network.specs.Walk.{Walk}
use Rattle.network.specs.Distance.{dist}
use Rattle.network.specs.Order.{Upto}
use Rattle.network.specs.Points.{marked, count_nearer, verified, is_listed, listed}
use Rattle.network.specs.Rows.{table_distances, IsTable}
use Rattle.network.specs.Answers.{answered, SomePoints}
use Rattle.expansion.specs.Area.{queue_base, Blank, Wiped}
use Rattle.expansion.specs.declared.verify.Site.TheVariants.{One}
use Rattle.expansion.specs.Visited.{CanVisit}
use Rattle.searches.specs.Flags.{flags_end, Flags, Grows, Looked}
use Rattle.searches.specs.Eager.{is_found}

-- where the outer area starts: the inner one starts behind the flags
abbrev pub query_outer_base : Network → ℕ
query_outer_base g = queue_base (node_count g) (flags_end g) + 2 * node_count g

-- only points have a found flag
abbrev pub Only : Network → List ℕ → List ℕ → Type 0
Only g P xs = (p : ℕ) → p < node_count g → get_or xs (node_count g + p) 0 ≢ 0 → marked P p ≡ true

-- an accepted network with a byte for each node, a site, 'k from 1 to K - 1, since a point's row spends one place on itself', and the distances of n
-- rows
pub record Asked (g : Network) (P dists : List ℕ) (q k K : ℕ) : Type 0 where
  pub accepted : Accepted g
  pub points : length P ≡ node_count g
  pub site : q < node_count g
  pub some : 1 ≤ k
  pub few : k < K
  pub sized : length dists ≡ node_count g * K

-- the words before the outer area
pub record QueryFront (g : Network) (P xs : List ℕ) : Type 0 where
  pub only : Only g P xs
  pub blank : Blank xs (flags_end g)
  pub size : query_outer_base g ≤ length xs

-- ys is xs with more flags, and the words behind them as they were
pub record Grown (g : Network) (P xs ys : List ℕ) : Type 0 where
  pub size : length ys ≡ length xs
  pub words : (i : ℕ) → flags_end g ≤ i → get_or ys i 0 ≡ get_or xs i 0
  pub only : Only g P ys
  pub grows : Grows g xs ys

-- the other points' distances stand behind p's own place. p is listed at once where its k-th other point is no nearer than a way to the site, of
-- the given sum; else the rule is tried
pub record CanDecide (g : Network) (P others xs : List ℕ) (p q k : ℕ) : Type 0 where
  pub visit : CanVisit g P xs (flags_end g) p (One q)
  pub some : 1 ≤ k
  pub few : k ≤ length others

pub record Decided (g : Network) (P others : List ℕ) (p q k sum : ℕ) (xs ys : List ℕ) (yes : Bool) : Type 0 where
  pub answer : ((sum ≤ get_or others (k - 1) 0) × (yes ≡ true)) ⊎ (yes ≡ verified g P p q k)
  pub area : Wiped xs ys (flags_end g)

-- a way of the given sum from p to the site, which is another node
pub record Way (g : Network) (p q sum : ℕ) : Type 0 where
  pub other : p ≢ q
  pub upto : Upto (dist g p q) sum

-- p, which is any word, is verified where it is a point; `sum` is that of a way from p to the site, where the table is right
pub record CanVerifyWord (g : Network) (P dists : List ℕ) (q k K : ℕ) (xs : List ℕ) : Type 0 where
  pub asked : Asked g P dists q k K
  pub front : QueryFront g P xs

pub record Told (g : Network) (P : List ℕ) (q k : ℕ) (ys : List ℕ) (p : ℕ) : Type 0 where
  pub flags : Flags g (is_listed g P q k) ys
  pub told : is_listed g P q k p ≡ true → get_or ys (node_count g + p) 0 ≢ 0

pub record WordVerified (g : Network) (P dists : List ℕ) (q k K : ℕ) (xs ys : List ℕ) (p sum : ℕ) : Type 0 where
  pub grown : Grown g P xs ys
  pub right : dists ≡ table_distances g P K → Way g p q sum → Flags g (is_listed g P q k) xs → Told g P q k ys p

-- the points of a row, its ids zs and its distances ws, that are nearer than l, cut after the first k
pub record CanVerifyRow (g : Network) (P dists : List ℕ) (q k K : ℕ) (xs zs ws : List ℕ) : Type 0 where
  pub verify : CanVerifyWord g P dists q k K xs
  pub ids_row : k ≤ length zs
  pub dists_row : k ≤ length ws

-- the first r places, and no more of the first k, hold less than l
pub record NearerPlaces (ws : List ℕ) (l k r : ℕ) : Type 0 where
  pub few : r ≤ k
  pub less : (i : ℕ) → i < r → get_or ws i 0 < l
  pub stop : r < k → l ≤ get_or ws r 0

pub record ToldAll (g : Network) (P : List ℕ) (q k : ℕ) (zs ys : List ℕ) (r : ℕ) : Type 0 where
  pub flags : Flags g (is_listed g P q k) ys
  pub told : (i : ℕ) → i < r → is_listed g P q k (get_or zs i 0) ≡ true → get_or ys (node_count g + get_or zs i 0) 0 ≢ 0

-- each place of the row that is nearer than l says the end of a way to the site
abbrev pub Ways : Network → ℕ → ℕ → List ℕ → List ℕ → ℕ → Type 0
Ways g q k zs ws l = (i : ℕ) → i < k → get_or ws i 0 < l → Way g (get_or zs i 0) q (l + get_or ws i 0)

pub record RowVerified (g : Network) (P dists : List ℕ) (q k K : ℕ) (xs ys zs ws : List ℕ) (l r : ℕ) : Type 0 where
  pub grown : Grown g P xs ys
  pub nearer : NearerPlaces ws l k r
  pub right : dists ≡ table_distances g P K → Ways g q k zs ws l → Flags g (is_listed g P q k) xs → ToldAll g P q k zs ys r

-- the label of v is its distance, where fewer than k lockers are nearer to it than the site
abbrev pub Exact : Network → List ℕ → ℕ → ℕ → ℕ → ℕ → Type 0
Exact g P q k v l = count_nearer g P v (dist g v q) < k → l ≡ dist g q v

-- node v is looked at from label l. On the table of P, where l is the sum of a walk from the site and exact, it is as if eager had looked at it
pub record CanLookByRow (g : Network) (P ids dists : List ℕ) (q k K : ℕ) (xs : List ℕ) (v : ℕ) : Type 0 where
  pub verify : CanVerifyWord g P dists q k K xs
  pub all_ids : length ids ≡ node_count g * K
  pub inside : v < node_count g

pub record LookedByRow (g : Network) (P ids dists : List ℕ) (q k K : ℕ) (xs ys : List ℕ) (v l r : ℕ) : Type 0 where
  pub grown : Grown g P xs ys
  pub right : IsTable g P K ids dists → Walk g q v l → Exact g P q k v l → Flags g (is_listed g P q k) xs → Looked g P (is_listed g P q k) k xs ys v l r

-- no flag is set, and all words are 0
pub record CanExploreQuery (g : Network) (P ids dists xs : List ℕ) (b q k K : ℕ) : Type 0 where
  pub asked : Asked g P dists q k K
  pub all_ids : length ids ≡ node_count g * K
  pub base : b ≡ query_outer_base g
  pub blank : Blank xs 0
  pub size : queue_base (node_count g) b + 2 * node_count g ≤ length xs

pub record QueryExplored (g : Network) (P ids dists : List ℕ) (q k K : ℕ) (xs ys : List ℕ) : Type 0 where
  pub size : length ys ≡ length xs
  pub only : Only g P ys
  pub right : IsTable g P K ids dists → (p : ℕ) → p < node_count g → is_found (node_count g) ys p ≡ is_listed g P q k p

pub record CanQuery (g : Network) (P ids dists xs old : List ℕ) (q k K : ℕ) : Type 0 where
  pub asked : Asked g P dists q k K
  pub all_ids : length ids ≡ node_count g * K
  pub blank : Blank xs 0
  pub size : queue_base (node_count g) (query_outer_base g) + 2 * node_count g ≤ length xs
  pub answers : node_count g ≤ length old

-- 'Table query (eager-M): the list', on the table of the points. All words are 0 again.
pub record QueryLeft (g : Network) (P ids dists : List ℕ) (q k K : ℕ) (xs ys old new : List ℕ) (size : ℕ) : Type 0 where
  pub some : SomePoints g P old new size
  pub answers : IsTable g P K ids dists → new ≡ answered (listed g P q k) old
  pub sized : IsTable g P K ids dists → size ≡ length (listed g P q k)
  pub area : Wiped xs ys 0
