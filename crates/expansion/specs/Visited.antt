-- What verify requires, counts and leaves.
-- Assumes nothing.
use Rattle.std.specs.Prelude.{ℕ, ◌+◌, ◌≤◌, ◌<◌, ◌≡◌, Bool, List, [], ◌∷◌, eqb, length, get_or}
use Rattle.network.specs.Network.{Network, node_count}
use Rattle.network.specs.Distance.{dist}
use Rattle.network.specs.Count.{select}
use Rattle.network.specs.Points.{verified}
use Rattle.network.specs.Routes.{verified_from}
use Rattle.expansion.specs.declared.verify.Site.{Site}
use Rattle.expansion.specs.declared.verify.Site.TheVariants.{One, Stops}
use Rattle.expansion.specs.declared.verify.VisitEnd.{VisitEnd}
use Rattle.expansion.specs.declared.verify.Tally.{Tally}
use Rattle.expansion.specs.Area.{LabelAt, Area, Kept, Wiped}
use Rattle.expansion.specs.Expand.{CanExpand}

-- a node of the route has 2 for its word; the nodes of the route
abbrev pub is_stop : List ℕ → ℕ → Bool
is_stop xs v = eqb (get_or xs v 0) 2

unfoldable pub stops_in : ℕ → List ℕ → List ℕ
stops_in n xs = select (is_stop xs) n

-- whether a node is the site, or one of its nodes; the nodes that the site is
abbrev pub is_site : List ℕ → Site → ℕ → Bool
is_site xs (One q) v = eqb v q
is_site xs Stops v = is_stop xs v

abbrev pub nodes_of_site : ℕ → List ℕ → Site → List ℕ
nodes_of_site n xs (One q) = q ∷ []
nodes_of_site n xs Stops = stops_in n xs

-- a route's words can be read; a site is a node, or the words of the route stand before the area
abbrev pub CanReadSite : List ℕ → Site → ℕ → Type 0
CanReadSite xs (One q) v = Unit {0}
CanReadSite xs Stops v = v < length xs

abbrev pub SiteInside : ℕ → ℕ → Site → Type 0
SiteInside n b (One q) = q < n
SiteInside n b Stops = n ≤ b

-- what verify answers: the rule of a site, with the distance to the route where the site is one
abbrev pub verified_at : Network → List ℕ → List ℕ → ℕ → Site → ℕ → Bool
verified_at g P xs p (One q) k = verified g P p q k
verified_at g P xs p Stops k = verified_from g P p (stops_in (node_count g) xs) k

-- an expansion from p can be made, the site is inside, and each node has a byte that says how many lockers it has
pub record CanVisit (g : Network) (P xs : List ℕ) (b p : ℕ) (site : Site) : Type 0 where
  pub expand : CanExpand g xs b p
  pub inside : SiteInside (node_count g) b site
  pub points : length P ≡ node_count g

-- the tally when the expansion comes to label l: above the present label, what stood at it stands below
pub record CameTo (t : Tally) (l : ℕ) (r : Tally) : Type 0 where
  pub same : l ≤ t.label → r ≡ t
  pub label : t.label < l → r.label ≡ l
  pub below : t.label < l → r.below ≡ t.below + t.level
  pub level : t.label < l → r.level ≡ 0

-- the answer by the rule, and the area: each label that it leaves is the distance from p
pub record Visited (g : Network) (P : List ℕ) (p : ℕ) (site : Site) (k : ℕ) (xs ys : List ℕ) (b : ℕ) (r : VisitEnd) : Type 0 where
  pub answer : r.yes ≡ verified_at g P xs p site k
  pub frame : Kept xs ys b
  pub area : Area (node_count g) ys b r.settled r.len
  pub exact : (v l : ℕ) → LabelAt (node_count g) ys b v l → l ≡ dist g p v

-- the answer by the rule, and the area blank
pub record VerifyLeft (g : Network) (P : List ℕ) (p : ℕ) (site : Site) (k : ℕ) (xs ys : List ℕ) (b : ℕ) (yes : Bool) : Type 0 where
  pub answer : yes ≡ verified_at g P xs p site k
  pub area : Wiped xs ys b
