-- Document 02, Ask 7, 'Routes': 'The input is a list of nodes, each joined by a road to the one after it.' Which lists are no routes, who is listed for one;
-- and as statements that the tests of 14 say so by arcs, and the Ask's own claim (`by_roads` and `one_search` of proofs/Routes.antt).
-- Assumes nothing.
use Rattle.std.specs.Prelude.{ℕ, suc, ◌≤◌, ◌<◌, ◌≡◌, Bool, true, false, not, ◌&&◌, ◌||◌, ◌↔◌, List, [], ◌∷◌, eqb, ltb, length, get_or}
use Rattle.network.specs.Network.{Network, Arc, node_count, neighbours_of}
use Rattle.network.specs.Distance.{NONE, dist_from}
use Rattle.network.specs.Count.{any, select}
use Rattle.network.specs.Points.{marked, others_nearer, is_listed, listed}

-- whether two nodes have a road
unfoldable pub has_road : Network → ℕ → ℕ → Bool
has_road g a b = any (λ j. eqb (get_or (neighbours_of g a) j 0) b) (length (neighbours_of g a))

-- of 14: 'two nodes in sequence have no road', behind node a; no road leads from a node to itself
unfoldable pub breaks_from : Network → ℕ → List ℕ → Bool
breaks_from g a [] = false
breaks_from g a (b ∷ bs) = not (has_road g a b) || breaks_from g b bs

-- 14: 'if the list is empty or two nodes in sequence have no road'
unfoldable pub bad_route : Network → List ℕ → Bool
bad_route g [] = true
bad_route g (a ∷ rest) = breaks_from g a rest

-- whether a node is one of a list: 'the points that stand on the route itself'
unfoldable pub on_route : List ℕ → ℕ → Bool
on_route [] p = false
on_route (r ∷ rs) p = eqb p r || on_route rs p

-- 'the union of what the single nodes receive': whether p is listed for some node of the route
unfoldable pub listed_for_any : Network → List ℕ → List ℕ → ℕ → ℕ → Bool
listed_for_any g P [] k p = false
listed_for_any g P (r ∷ rs) k p = is_listed g P r k p || listed_for_any g P rs k p

-- 'Listed is the union of what the single nodes receive, without the points that stand on the route itself.'
unfoldable pub is_touched : Network → List ℕ → List ℕ → ℕ → ℕ → Bool
is_touched g P R k p = not (on_route R p) && listed_for_any g P R k p

unfoldable pub touched : Network → List ℕ → List ℕ → ℕ → List ℕ
touched g P R k = select (is_touched g P R k) (node_count g)

-- ---- What one search from all nodes together finds: the rule of a site (`verified`, `is_listed`), with the distance to the nearest of several nodes. The
-- call's contract cites the union alone.
unfoldable pub verified_from : Network → List ℕ → ℕ → List ℕ → ℕ → Bool
verified_from g P p S k =
    let d = dist_from g S p in
    not (on_route S p) && (not (eqb d NONE) && ltb (others_nearer g P p d) k)

unfoldable pub is_received : Network → List ℕ → List ℕ → ℕ → ℕ → Bool
is_received g P S k p = marked P p && verified_from g P p S k

-- 'One search from all nodes together must equal that union for every route and k from 1 to 16, and agree with eager on a route of one node': on an accepted
-- network, for every list and every k
pub record OneSearch (g : Network) (P : List ℕ) (k : ℕ) : Type 0 where
  pub union : (R : List ℕ) (p : ℕ) → is_touched g P R k p ≡ is_received g P R k p
  pub list : (R : List ℕ) → touched g P R k ≡ select (is_received g P R k) (node_count g)
  pub one_node : (q : ℕ) → touched g P (q ∷ []) k ≡ listed g P q k

-- ---- What the tests of 14 say, by arcs.

-- 'Each road is two arcs of equal weight' (document 01)
pub record Road (g : Network) (a b : ℕ) : Type 0 where
  pub weight : ℕ
  pub there : Arc g a b weight
  pub back : Arc g b a weight

-- 'each joined by a road to the one after it', and not empty
pub record IsRoute (g : Network) (R : List ℕ) : Type 0 where
  pub some : 1 ≤ length R
  pub joined : (i : ℕ) → suc i < length R → Road g (get_or R i 0) (get_or R (suc i) 0)

-- On an accepted network two nodes have a road by the test exactly if they have one, either way round; and 14 is met exactly of a list that is no route. This
-- is so of all numbers and lists: where a number is n or more no arc leads from it, and 7 is tried first.
pub record ByRoads (g : Network) : Type 0 where
  pub road : (a b : ℕ) → (has_road g a b ≡ true) ↔ Road g a b
  pub both_ways : (a b : ℕ) → has_road g a b ≡ has_road g b a
  pub route : (R : List ℕ) → (bad_route g R ≡ false) ↔ IsRoute g R
