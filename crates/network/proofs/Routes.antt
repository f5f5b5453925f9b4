-- Routes. The union of what the nodes of a route receive is one rule with the distance to the route (`one_search`): the node that is nearest to p asks
-- least, as no fewer others are nearer to p than a node that is farther. A list of one node is a site; only which nodes a list has matters. And the tests of
-- 14 are about arcs (`by_roads`).
-- Assumes nothing.
use Prim.Native.Nat.{ℕ, zero, suc, ◌+◌, ◌-◌, ◌≤◌, ◌<◌}
use mathlib.Core.Path.{◌≡◌, refl, sym, ap, ◌∙◌}
use mathlib.Core.Bool.{Bool, true, false, not, ◌&&◌, false≢true}
use mathlib.Core.Logic.{◌≢◌, ◌↔◌, ⊎_elim}
use mathlib.Core.List.Memᴰ
use mathlib.Core.List.{List, [], ◌∷◌, Memᴰ}
use native.Mathlib.Decide.{dec_lt}
use native.Mathlib.Omega.{arith}
use lib.Dec.{eqb, ltb}
use lib.ListN.{length, get_or, drop, length-take, get_or-eq_default}
use borrow.Author.Tests.{ltb-true, lt-ltb, eqb-true, eqb-false, eq-eqb, ne_eqb, not-true, not-false}
use Rattle.network.specs.Network.{Network, Arc, node_count, part_of, neighbours_of, weights_of}
use Rattle.network.specs.Accepted.{Accepted}
use Rattle.network.specs.Distance.{NONE, dist, dist_from}
use Rattle.network.specs.Count.{select}
use Rattle.network.specs.Points.{marked, others_nearer, verified, is_listed, listed}
use Rattle.network.specs.Routes.{has_road, breaks_from, bad_route, on_route, listed_for_any, is_touched, touched, verified_from, is_received, OneSearch, Road, IsRoute, ByRoads}
use Rattle.network.proofs.Tests.{bool_cases, alike, and_parts, and_intro, or_parts, or_intro, or_cases, or_left, or_right, one_any, any_passes}
use Rattle.network.proofs.Counts.{select_same, selected, select_passed, member_at}
use Rattle.network.proofs.Ranges.{arc_at, arc_place}
use Rattle.network.proofs.NumberZero.{accepted_ranges}
use Rattle.network.proofs.Distances.{dist_symmetric}
use Rattle.network.proofs.DistancesFrom.{from_most, from_any, from_nearest, from_one, from_same}
use Rattle.network.proofs.Rank.{nearer_mono}

-- ---- Who is on a list.

pub on_member : (R : List ℕ) (v : ℕ) → (on_route R v ≡ true) ↔ Memᴰ v R
unfolding on_route
on_member [] v = (λ e. absurd (false≢true e), λ m. absurd (Memᴰ.not-nil m))
on_member (r ∷ rs) v = (
  λ e.
      ⊎_elim
      (λ a. Memᴰ.head (eqb-true v r a))
      (λ a. Memᴰ.tail ((on_member rs v).0 a))
      (or_cases (eqb v r) (on_route rs v) e),
  λ m.
      ⊎_elim
      (λ q. or_left (eqb v r) (on_route rs v) (eq-eqb v r q))
      (λ i. or_right (eqb v r) (on_route rs v) ((on_member rs v).1 i))
      (Memᴰ.cases_cons m),
)

-- the node at a place of a list is on it
pub on_place : (R : List ℕ) (i : ℕ) → i < length R → on_route R (get_or R i 0) ≡ true
on_place R i h = (on_member R (get_or R i 0)).1 (member_at 0 R i h)

pub on_selected : (t : ℕ → Bool) (n v : ℕ) → on_route (select t n) v ≡ (ltb v n && t v)
on_selected t n v =
    alike (on_route (select t n) v) (ltb v n && t v)
    (λ e. let a = select_passed t n v ((on_member (select t n) v).0 e) in and_intro (ltb v n) (t v) (lt-ltb v n a.0) a.1)
    (λ e. let a = and_parts (ltb v n) (t v) e in (on_member (select t n) v).1 (selected t n v (ltb-true v n a.0) a.1))

-- ---- The rule in its parts, and where it is the same: a list of one node, and lists of the same nodes.

pub record ReceivedParts (g : Network) (P S : List ℕ) (k p : ℕ) : Type 0 where
  pub mark : marked P p ≡ true
  pub off : on_route S p ≡ false
  pub reach : dist_from g S p ≢ NONE
  pub few : others_nearer g P p (dist_from g S p) < k

pub received_parts : (g : Network) (P S : List ℕ) (k p : ℕ) → (is_received g P S k p ≡ true) ↔ ReceivedParts g P S k p
unfolding is_received verified_from
received_parts g P S k p = (
  λ e.
      let a = and_parts (marked P p) _ e in
      let b = and_parts (not (on_route S p)) _ a.1 in
      let c = and_parts (not (eqb (dist_from g S p) NONE)) _ b.1 in
      record {
        mark = a.0;
        off = not-true (on_route S p) b.0;
        reach = eqb-false (dist_from g S p) NONE (not-true (eqb (dist_from g S p) NONE) c.0);
        few = ltb-true (others_nearer g P p (dist_from g S p)) k c.1;
      },
  λ h.
      rw (h.mark, h.off, ne_eqb (dist_from g S p) NONE h.reach) (lt-ltb (others_nearer g P p (dist_from g S p)) k h.few),
)

module _ (g : Network) (P : List ℕ) (p : ℕ) (R S : List ℕ) (k : ℕ) where
  pub verified_same : ((v : ℕ) → on_route R v ≡ on_route S v) → verified_from g P p R k ≡ verified_from g P p S k
  unfolding verified_from
  verified_same same =
      let d =
      from_same g R S p
      (λ x m. (on_member S x).0 (sym (same x) ∙ (on_member R x).1 m))
      (λ x m. (on_member R x).0 (same x ∙ (on_member S x).1 m)) in
      rw (same p, d)

  pub received_same : ((v : ℕ) → on_route R v ≡ on_route S v) → is_received g P R k p ≡ is_received g P S k p
  unfolding is_received
  received_same same = ap (◌&&◌ (marked P p)) (verified_same same)

-- the distance of a list of one node, from the site and to it
one_distance : {g : Network} → Accepted g → (p q : ℕ) → dist_from g (q ∷ []) p ≡ dist g p q
one_distance {g} ok p q =
    from_one g (q ∷ []) q p (Memᴰ.head refl) (λ x m. Memᴰ.eq_of_singleton m) ∙ dist_symmetric ok q p

one_on : (q p : ℕ) → on_route (q ∷ []) p ≡ eqb p q
unfolding on_route
one_on q p = ⊎_elim (λ e. rw e) (λ e. rw e) (bool_cases (eqb p q))

pub verified_one : {g : Network} → Accepted g → (P : List ℕ) (p q k : ℕ) → verified_from g P p (q ∷ []) k ≡ verified g P p q k
unfolding verified_from verified
verified_one ok P p q k = rw (one_on q p, one_distance ok p q)

pub received_one : {g : Network} → Accepted g → (P : List ℕ) (q k p : ℕ) → is_received g P (q ∷ []) k p ≡ is_listed g P q k p
unfolding is_received is_listed
received_one ok P q k p = ap (◌&&◌ (marked P p)) (verified_one ok P p q k)

-- ---- The union.

-- a node of the route that lists p
record ListsIt (g : Network) (P R : List ℕ) (k p : ℕ) : Type 0 where
  node : ℕ
  member : Memᴰ node R
  lists : is_listed g P node k p ≡ true

module _ (g : Network) (P : List ℕ) (k p : ℕ) where
  any_lists : (R : List ℕ) → listed_for_any g P R k p ≡ true → ListsIt g P R k p
  unfolding listed_for_any
  any_lists [] e = absurd (false≢true e)
  any_lists (r ∷ rs) e =
      ⊎_elim
      (λ a. record { node = r; member = Memᴰ.head refl; lists = a })
      (λ a. let l = any_lists rs a in record { node = l.node; member = Memᴰ.tail l.member; lists = l.lists })
      (or_cases (is_listed g P r k p) (listed_for_any g P rs k p) e)

  lists_any : (R : List ℕ) → ListsIt g P R k p → listed_for_any g P R k p ≡ true
  unfolding listed_for_any
  lists_any [] l = absurd (Memᴰ.not-nil l.member)
  lists_any (r ∷ rs) l =
      ⊎_elim
      (λ q. or_left (is_listed g P r k p) (listed_for_any g P rs k p) (ap (λ (x : ℕ). is_listed g P x k p) (sym q) ∙ l.lists))
      (λ i. or_right (is_listed g P r k p) (listed_for_any g P rs k p) (lists_any rs (record { node = l.node; member = i; lists = l.lists })))
      (Memᴰ.cases_cons l.member)

module _ {g : Network} (ok : Accepted g) (P R : List ℕ) (k p : ℕ) where
  -- what a node of the route lists the route receives, off the route: it is no farther
  listed_received : on_route R p ≡ false → ListsIt g P R k p → is_received g P R k p ≡ true
  listed_received off l =
      let a = (received_parts g P (l.node ∷ []) k p).0 (received_one ok P l.node k p ∙ l.lists) in
      let d = one_distance ok p l.node in
      let h : dist_from g R p ≤ dist_from g (l.node ∷ []) p = omega (arith, from_any g R l.node p l.member, d, dist_symmetric ok p l.node) in
      (received_parts g P R k p).1
      (record {
        mark = a.mark;
        off = off;
        reach = omega (arith, from_most g (l.node ∷ []) p);
        few = omega (arith, a.few, nearer_mono g P p (dist_from g R p) (dist_from g (l.node ∷ []) p) h);
      })

  -- what the route receives its nearest node lists
  received_listed : is_received g P R k p ≡ true → ListsIt g P R k p
  received_listed e =
      let a = (received_parts g P R k p).0 e in
      let r = from_nearest g R p a.reach in
      let d : dist_from g (r.source ∷ []) p ≡ dist_from g R p = omega (arith, one_distance ok p r.source, dist_symmetric ok p r.source, r.is) in
      record {
        node = r.source;
        member = r.member;
        lists =
            sym (received_one ok P r.source k p)
            ∙ (received_parts g P (r.source ∷ []) k p).1
            (record {
              mark = a.mark;
              off = one_off r.source r.member a.off;
              reach = omega (arith, a.reach);
              few = rw d a.few;
            });
      }
    where
      one_off : (q : ℕ) → Memᴰ q R → on_route R p ≡ false → on_route (q ∷ []) p ≡ false
      one_off q m off =
          one_on q p
          ∙ ne_eqb p q (λ e. false≢true (sym off ∙ (on_member R p).1 (rw e m)))

  union : is_touched g P R k p ≡ is_received g P R k p
  unfolding is_touched
  union =
      alike (is_touched g P R k p) (is_received g P R k p)
      (λ e.
      let a = and_parts (not (on_route R p)) _ e in
      listed_received (not-true (on_route R p) a.0) (any_lists g P k p R a.1))
      (λ e.
      and_intro (not (on_route R p)) _
      (ap not ((received_parts g P R k p).0 e).off)
      (lists_any g P k p R (received_listed e)))

list : {g : Network} → Accepted g → (P R : List ℕ) (k : ℕ) → touched g P R k ≡ select (is_received g P R k) (node_count g)
unfolding touched
list {g} ok P R k = select_same (is_touched g P R k) (is_received g P R k) (node_count g) (λ p l. union ok P R k p)

one_node : {g : Network} → Accepted g → (P : List ℕ) (k q : ℕ) → touched g P (q ∷ []) k ≡ listed g P q k
unfolding listed
one_node {g} ok P k q =
    list ok P (q ∷ []) k
    ∙ select_same (is_received g P (q ∷ []) k) (is_listed g P q k) (node_count g) (λ p l. received_one ok P q k p)

pub one_search : {g : Network} → Accepted g → (P : List ℕ) (k : ℕ) → OneSearch g P k
one_search ok P k = record { union = λ R p. union ok P R k p; list = λ R. list ok P R k; one_node = one_node ok P k }

-- ---- The tests of 14, by arcs.

-- a number that is n or more has no neighbours: past the last start there is 0
neighbours_inside : (g : Network) (a : ℕ) → 0 < length (neighbours_of g a) → a < node_count g
unfolding part_of
neighbours_inside g a h =
    let size = length-take (get_or g.starts (a + 1) 0 - get_or g.starts a 0) (drop (get_or g.starts a 0) g.neighbours) in
    elim (dec_lt a (node_count g)) [
      | yes l ↦ l
      | no n ↦ absurd (omega (arith, h, size, get_or-eq_default g.starts 0 {n = a + 1} (omega arith)))
    ]

module _ {g : Network} (ok : Accepted g) where
  module _ {a b : ℕ} where
    arc_road : {w : ℕ} → Arc g a b w → has_road g a b ≡ true
    unfolding has_road
    arc_road x =
        let p = arc_place (accepted_ranges ok) x in
        one_any (λ j. eqb (get_or (neighbours_of g a) j 0) b) (length (neighbours_of g a)) p.at p.low (eq-eqb (get_or (neighbours_of g a) p.at 0) b p.leads)

    has_road_lem : has_road g a b ≡ true → Road g a b
    unfolding has_road
    has_road_lem e =
        let p = any_passes (λ j. eqb (get_or (neighbours_of g a) j 0) b) (length (neighbours_of g a)) e in
        let h = neighbours_inside g a (omega (arith, p.low)) in
        let x : Arc g a b (get_or (weights_of g a) p.at 0) =
        rw (eqb-true (get_or (neighbours_of g a) p.at 0) b p.passes) at (arc_at (accepted_ranges ok) a h p.at p.low) in
        record { weight = get_or (weights_of g a) p.at 0; there = x; back = ok.returns x }

  both_ways : (a b : ℕ) → has_road g a b ≡ has_road g b a
  both_ways a b = alike (has_road g a b) (has_road g b a) (λ e. arc_road (has_road_lem e).back) (λ e. arc_road (has_road_lem e).back)

  -- behind node a no road is missing
  roads_behind : (a : ℕ) (bs : List ℕ) → breaks_from g a bs ≡ false → (i : ℕ) → i < length bs → Road g (get_or (a ∷ bs) i 0) (get_or bs i 0)
  unfolding breaks_from
  roads_behind a [] e i h = absurd (omega arith)
  roads_behind a (b ∷ bs) e zero h = has_road_lem (not-false (has_road g a b) (or_parts (not (has_road g a b)) (breaks_from g b bs) e).0)
  roads_behind a (b ∷ bs) e (suc i) h = roads_behind b bs (or_parts (not (has_road g a b)) (breaks_from g b bs) e).1 i (omega arith)

  behind_roads : (a : ℕ) (bs : List ℕ) → ((i : ℕ) → i < length bs → Road g (get_or (a ∷ bs) i 0) (get_or bs i 0)) → breaks_from g a bs ≡ false
  unfolding breaks_from
  behind_roads a [] h = refl
  behind_roads a (b ∷ bs) h =
      or_intro (not (has_road g a b)) (breaks_from g b bs)
      (ap not (arc_road (h 0 (omega arith)).there))
      (behind_roads b bs (λ i l. h (suc i) (omega arith)))

  route : (R : List ℕ) → (bad_route g R ≡ false) ↔ IsRoute g R
  unfolding bad_route
  route [] = (λ e. absurd (false≢true (sym e)), λ r. absurd (omega (arith, r.some)))
  route (a ∷ bs) = (
    λ e. record { some = omega arith; joined = λ i h. roads_behind a bs e i (omega arith) },
    λ r. behind_roads a bs (λ i h. r.joined i (omega arith)),
  )

pub by_roads : {g : Network} → Accepted g → ByRoads g
by_roads ok =
    record {
      road = λ a b. (λ e. has_road_lem ok e, λ r. arc_road ok r.there);
      both_ways = both_ways ok;
      route = route ok;
    }
