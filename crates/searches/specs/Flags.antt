-- The words in front of the outer area, of eager and of a route's search: verified flags n | found flags n | visits n | found nodes n | the area of the
-- inner expansions, 4 n. What the functions over them require and leave. The flags of node p are the words p and n + p. A node of the route has 2 for its
-- verified flag (`is_stop`), so that it is never verified.
-- (No sentence of document 01: the answers of the searches are network's definitions.)
-- Assumes nothing.
use Rattle.std.specs.Prelude.{ℕ, ◌+◌, ◌*◌, ◌≤◌, ◌<◌, ◌≡◌, ◌≢◌, Bool, true, length, get_or}
use mathlib.Core.List.{List, Memᴰ}
use Rattle.network.specs.Network.{Network, node_count}
use Rattle.network.specs.Accepted.{Accepted}
use Rattle.network.specs.Points.{marked, is_listed}
use Rattle.network.specs.Routes.{is_received}
use Rattle.network.specs.Nearest.{nearest}
use Rattle.expansion.specs.Area.{queue_base, Blank}
use Rattle.expansion.specs.declared.verify.Site.{Site}
use Rattle.expansion.specs.declared.verify.Site.TheVariants.{One, Stops}
use Rattle.expansion.specs.Visited.{is_stop, stops_in, SiteInside}

-- where the flags end and the visits start, where the found nodes do, and where the inner expansions' area does
abbrev pub flags_end : Network → ℕ
flags_end g = 2 * node_count g

abbrev pub ids_base : Network → ℕ
ids_base g = 3 * node_count g

abbrev pub inner_base : Network → ℕ
inner_base g = 4 * node_count g

-- which points a site lists, a node or the route of the words xs
abbrev pub site_lists : Network → List ℕ → List ℕ → Site → ℕ → ℕ → Bool
site_lists g P xs (One q) k = is_listed g P q k
site_lists g P xs Stops k = is_received g P (stops_in (node_count g) xs) k

-- a point with a found flag is on the list L; one on the list that was verified has its found flag
pub record Flags (g : Network) (L : ℕ → Bool) (xs : List ℕ) : Type 0 where
  pub sound : (p : ℕ) → p < node_count g → get_or xs (node_count g + p) 0 ≢ 0 → L p ≡ true
  pub once : (p : ℕ) → p < node_count g → get_or xs p 0 ≢ 0 → L p ≡ true → get_or xs (node_count g + p) 0 ≢ 0

-- the found flags of xs are in ys too
abbrev pub Grows : Network → List ℕ → List ℕ → Type 0
Grows g xs ys = (p : ℕ) → p < node_count g → get_or xs (node_count g + p) 0 ≢ 0 → get_or ys (node_count g + p) 0 ≢ 0

-- an accepted network with a byte for each node, a site, the flags, and a blank area for the inner expansions: 4 n words
pub record EagerFront (g : Network) (P : List ℕ) (site : Site) (k : ℕ) (xs : List ℕ) : Type 0 where
  pub accepted : Accepted g
  pub points : length P ≡ node_count g
  pub inside : SiteInside (node_count g) (inner_base g) site
  pub flags : Flags g (site_lists g P xs site k) xs
  pub blank : Blank xs (inner_base g)
  pub size : queue_base (node_count g) (inner_base g) + 2 * node_count g ≤ length xs

-- a point that can be verified; and found nodes whose points can be, the first of them at the word where the found nodes start
pub record CanVerifyOnce (g : Network) (P : List ℕ) (site : Site) (k : ℕ) (xs : List ℕ) (p : ℕ) : Type 0 where
  pub front : EagerFront g P site k xs
  pub inside : p < node_count g
  pub mark : marked P p ≡ true

pub record CanVerifyAll (g : Network) (P : List ℕ) (site : Site) (k : ℕ) (xs : List ℕ) (found : ℕ) : Type 0 where
  pub front : EagerFront g P site k xs
  pub few : found ≤ node_count g
  pub inside : (i : ℕ) → i < found → get_or xs (ids_base g + i) 0 < node_count g
  pub mark : (i : ℕ) → i < found → marked P (get_or xs (ids_base g + i) 0) ≡ true

-- ys is xs with more flags, the nodes of the route and the words behind the flags as they were
pub record Flagged (g : Network) (L : ℕ → Bool) (xs ys : List ℕ) : Type 0 where
  pub size : length ys ≡ length xs
  pub words : (i : ℕ) → flags_end g ≤ i → get_or ys i 0 ≡ get_or xs i 0
  pub stops : (v : ℕ) → v < node_count g → is_stop ys v ≡ is_stop xs v
  pub flags : Flags g L ys
  pub grows : Grows g xs ys

-- p is verified; the points of the found nodes are
pub record VerifiedOnce (g : Network) (L : ℕ → Bool) (xs ys : List ℕ) (p : ℕ) : Type 0 where
  pub flagged : Flagged g L xs ys
  pub told : L p ≡ true → get_or ys (node_count g + p) 0 ≢ 0

pub record VerifiedAll (g : Network) (L : ℕ → Bool) (xs ys : List ℕ) (found : ℕ) : Type 0 where
  pub flagged : Flagged g L xs ys
  pub told : (i : ℕ) → i < found → L (get_or xs (ids_base g + i) 0) ≡ true → get_or ys (node_count g + get_or xs (ids_base g + i) 0) 0 ≢ 0

-- node v is looked at from label l: the words from the found nodes on are blank
pub record CanLook (g : Network) (P : List ℕ) (site : Site) (k : ℕ) (xs : List ℕ) (v : ℕ) : Type 0 where
  pub front : EagerFront g P site k xs
  pub blank : Blank xs (ids_base g)
  pub inside : v < node_count g

-- then each point of the list among the first k lockers that are nearer to v than l has its found flag. r is how many there are, cut at k. The visits stay.
pub record Looked (g : Network) (P : List ℕ) (L : ℕ → Bool) (k : ℕ) (xs ys : List ℕ) (v l r : ℕ) : Type 0 where
  pub size : length ys ≡ length xs
  pub stays : (i : ℕ) → flags_end g ≤ i → i < ids_base g → get_or ys i 0 ≡ get_or xs i 0
  pub blank : Blank ys (ids_base g)
  pub flags : Flags g L ys
  pub grows : Grows g xs ys
  pub count : r ≡ length (nearest g P v l k)
  pub told : (p d : ℕ) → Memᴰ (p, d) (nearest g P v l k) → L p ≡ true → get_or ys (node_count g + p) 0 ≢ 0

-- and the nodes of the route stay
pub record LookedAt (g : Network) (P : List ℕ) (L : ℕ → Bool) (k : ℕ) (xs ys : List ℕ) (v l r : ℕ) : Type 0 where
  pub looked : Looked g P L k xs ys v l r
  pub stops : (x : ℕ) → x < node_count g → is_stop ys x ≡ is_stop xs x
