-- The visits: as many as the count says, the counted nodes in order by distance and node, and no other list is that.
-- Assumes nothing.
use Prim.Native.Nat.{ℕ, suc, ◌+◌, ◌≤◌, ◌<◌}
use mathlib.Core.Path.{◌≡◌, refl, sym, ap, ◌∙◌}
use mathlib.Core.Bool.{Bool, true, false, not}
use mathlib.Core.Logic.{◌≢◌, ◌↔◌, ⊎_elim}
use mathlib.Core.List.Memᴰ
use mathlib.Core.List.{List, [], ◌∷◌, map, Memᴰ}
use native.Mathlib.Decide.{dec_lt}
use native.Mathlib.Omega.{arith}
use lib.Dec.{eqb, ltb}
use lib.ListN.{length, get_or, length-map, get_or-map}
use borrow.Author.Tests.{eqb-false, not-true}
use Rattle.network.specs.Network.{Network, node_count}
use Rattle.network.specs.Accepted.{Accepted}
use Rattle.network.specs.Distance.{NONE, dist}
use Rattle.network.specs.Count.{bit, weighed}
use Rattle.network.specs.Points.{lockers, marked, is_nearer, is_expanded, expanded}
use Rattle.network.specs.Nearest.{key, by_distance}
use Rattle.network.specs.Order.{Nearer}
use Rattle.network.specs.Visits.{counted, visits, Earlier, AreVisits, visits_law}
use Rattle.network.proofs.Tests.{and_parts}
use Rattle.network.proofs.Counts.{bit_most, member_at}
use Rattle.network.proofs.Tabulate.{tabulate_at}
use Rattle.network.proofs.Totals.{total_same, total_bits, weighed_none}
use Rattle.network.proofs.Distances.{dist_symmetric, dist_at_most}
use Rattle.network.proofs.Ordered.{below, at_above, at_below}
use Rattle.network.proofs.Rank.{key_order, nearer_passes, passes_nearer, before_step}
use Rattle.network.proofs.Rows.{by_all, by_only, by_length, by_before, all_ordered}

bit_marks : (x : Bool) → ltb 0 (bit x) ≡ x
bit_marks true = refl
bit_marks false = refl

-- ---- Lists that rise strictly by a rank: two with the same members are equal.

RisesBy : (ℕ → ℕ) → List ℕ → Type 0
RisesBy r [] = Unit {0}
RisesBy r (x ∷ xs) = ((y : ℕ) → Memᴰ y xs → r x < r y) × RisesBy r xs

each_at : (xs : List ℕ) (Q : ℕ → Type 0) → ((j : ℕ) → j < length xs → Q (get_or xs j 0)) → (y : ℕ) → Memᴰ y xs → Q y
each_at [] Q h y m = absurd (Memᴰ.not-nil m)
each_at (x ∷ xs) Q h y m =
    ⊎_elim (λ e. rw e (h 0 (omega arith))) (λ t. each_at xs Q (λ j l. h (suc j) (omega arith)) y t) (Memᴰ.cases_cons m)

rises_by : (r : ℕ → ℕ) (xs : List ℕ) → ((i j : ℕ) → i < j → j < length xs → r (get_or xs i 0) < r (get_or xs j 0)) → RisesBy r xs
unfolding RisesBy
rises_by r [] h = tt
rises_by r (x ∷ xs) h = (
  each_at xs (λ y. r x < r y) (λ j l. h 0 (suc j) (omega arith) (omega arith)),
  rises_by r xs (λ i j a b. h (suc i) (suc j) (omega arith) (omega arith)),
)

same_members : (r : ℕ → ℕ) (xs ys : List ℕ) → RisesBy r xs → RisesBy r ys → ((m : ℕ) → Memᴰ m xs → Memᴰ m ys) → ((m : ℕ) → Memᴰ m ys → Memᴰ m xs) → xs ≡ ys
unfolding RisesBy
same_members r [] [] a b to from = refl
same_members r [] (y ∷ ys) a b to from = absurd (Memᴰ.not-nil (from y (Memᴰ.head refl)))
same_members r (x ∷ xs) [] a b to from = absurd (Memᴰ.not-nil (to x (Memᴰ.head refl)))
same_members r (x ∷ xs) (y ∷ ys) a b to from =
    let e : x ≡ y =
    ⊎_elim
    (λ e. e)
    (λ t.
    absurd
    (⊎_elim
    (λ s. omega (arith, b.0 x t, ap r s))
    (λ s. omega (arith, b.0 x t, a.0 y s))
    (Memᴰ.cases_cons (from y (Memᴰ.head refl)))))
    (Memᴰ.cases_cons (to x (Memᴰ.head refl))) in
    let q =
    same_members r xs ys a.1 b.1
    (λ m h. ⊎_elim (λ s. absurd (omega (arith, a.0 m h, ap r s, ap r e))) (λ t. t) (Memᴰ.cases_cons (to m (Memᴰ.tail h))))
    (λ m h. ⊎_elim (λ s. absurd (omega (arith, b.0 m h, ap r s, ap r e))) (λ t. t) (Memᴰ.cases_cons (from m (Memᴰ.tail h)))) in
    λ i. e i ∷ q i

-- the nodes of a list of pairs
member_of : (xs : List (ℕ × ℕ)) (m : ℕ) → Memᴰ m (map (λ x. x.0) xs) → (d : ℕ) × Memᴰ (m, d) xs
member_of [] m h = absurd (Memᴰ.not-nil h)
member_of (x ∷ xs) m h =
    ⊎_elim
    (λ (e : m ≡ x.0). (x.1, Memᴰ.head (λ i. (e i, x.1))))
    (λ t. let r = member_of xs m t in (r.0, Memᴰ.tail r.1))
    (Memᴰ.cases_cons h)

of_member : (xs : List (ℕ × ℕ)) (z : ℕ × ℕ) → Memᴰ z xs → Memᴰ z.0 (map (λ x. x.0) xs)
of_member [] z h = absurd (Memᴰ.not-nil h)
of_member (x ∷ xs) z h =
    ⊎_elim (λ e. Memᴰ.head (ap (λ (y : ℕ × ℕ). y.0) e)) (λ t. Memᴰ.tail (of_member xs z t)) (Memᴰ.cases_cons h)

-- ---- The counted nodes as points.

-- a counted node is a point of `counted` with one locker, the others have none
module _ (g : Network) (P : List ℕ) (q k : ℕ) where
  pub counted_lockers : (m : ℕ) → m < node_count g → lockers (counted g P q k) m ≡ bit (is_expanded g P q k m)
  counted_lockers m h = tabulate_at (λ x. bit (is_expanded g P q k x)) (node_count g) m h

  pub counted_marked : (m : ℕ) → m < node_count g → marked (counted g P q k) m ≡ is_expanded g P q k m
  counted_marked m h = ap (ltb 0) (counted_lockers m h) ∙ bit_marks (is_expanded g P q k m)

  -- the visits with their distances
  abbrev pub visit_pairs : List (ℕ × ℕ)
  visit_pairs = by_distance g (counted g P q k) q NONE (node_count g)

  pub visits_size : length (visits g P q k) ≡ length visit_pairs
  unfolding visits
  visits_size = length-map visit_pairs (λ x. x.0)

  pub visits_at : (i : ℕ) → get_or (visits g P q k) i 0 ≡ (get_or visit_pairs i (0, 0)).0
  unfolding visits
  visits_at i = get_or-map (λ (x : ℕ × ℕ). x.0) visit_pairs i (0, 0)

-- a counted node can be reached
reached : (g : Network) (P : List ℕ) (q k m : ℕ) → is_expanded g P q k m ≡ true → dist g m q ≢ NONE
unfolding is_expanded
reached g P q k m a = eqb-false (dist g m q) NONE (not-true (eqb (dist g m q) NONE) (and_parts (not (eqb (dist g m q) NONE)) _ a).0)

module _ {g : Network} (ok : Accepted g) (P : List ℕ) (q k : ℕ) where
  pub counted_nearer : (m : ℕ) → m < node_count g → is_expanded g P q k m ≡ true → Nearer g (counted g P q k) q NONE m
  counted_nearer m h a =
      record {
        inside = h;
        point = counted_marked g P q k m h ∙ a;
        less = omega (arith, reached g P q k m a, dist_symmetric ok q m, dist_at_most g q m);
      }

  pub nearer_counted : (m : ℕ) → Nearer g (counted g P q k) q NONE m → is_expanded g P q k m ≡ true
  nearer_counted m r = sym (counted_marked g P q k m r.inside) ∙ r.point

  -- the members, each with its distance
  pair_counted : (z : ℕ × ℕ) → Memᴰ z (visit_pairs g P q k) → Nearer g (counted g P q k) q NONE z.0 × (z.1 ≡ dist g q z.0)
  pair_counted z m =
      let r = by_only g (counted g P q k) q NONE (node_count g) z m in
      (passes_nearer r.low r.passes, r.far)

  count_weighed : (m : ℕ) → m < node_count g → weighed (is_nearer g (counted g P q k) q NONE m) (lockers (counted g P q k) m) ≡ bit (is_expanded g P q k m)
  count_weighed m h = by (is_expanded g P q k m) refl
    where
      by : (x : Bool) → is_expanded g P q k m ≡ x → weighed (is_nearer g (counted g P q k) q NONE m) (lockers (counted g P q k) m) ≡ bit (is_expanded g P q k m)
      by true a = rw (nearer_passes (counted_nearer m h a)) (counted_lockers g P q k m h)
      by false a = weighed_none (is_nearer g (counted g P q k) q NONE m) _ (λ b. counted_lockers g P q k m h ∙ ap bit a) ∙ ap bit (sym a)

  pub visits_count : length (visits g P q k) ≡ expanded g P q k
  unfolding expanded
  visits_count =
      visits_size g P q k
      ∙ by_length g (counted g P q k) q NONE (node_count g)
      ∙ total_same (λ m. bit (is_expanded g P q k m)) (λ m. weighed (is_nearer g (counted g P q k) q NONE m) (lockers (counted g P q k) m)) (node_count g) count_weighed
      ∙ total_bits (is_expanded g P q k) (node_count g)

  -- no two of them have one key: the node of a key has one locker
  pairs_rise : (i j : ℕ) → i < j → j < length (visit_pairs g P q k) → key (get_or (visit_pairs g P q k) i (0, 0)) < key (get_or (visit_pairs g P q k) j (0, 0))
  pairs_rise i j h l =
      let xs = visit_pairs g P q k in
      let o = all_ordered g (counted g P q k) q NONE in
      let y = get_or xs i (0, 0) in
      elim (dec_lt (key y) (key (get_or xs j (0, 0)))) [
        | yes a ↦ a
        | no n ↦
            let s = step y (member_at (0, 0) xs i (omega arith)) in
            elim (dec_lt i (below (key y) xs)) [
              | yes b ↦ absurd (omega (arith, at_above (key y) xs o i b))
              | no b ↦ absurd (omega (arith, at_below (suc (key y)) xs o j l (omega arith)))
            ]
      ]
    where
      step : (y : ℕ × ℕ) → Memᴰ y (visit_pairs g P q k) → below (suc (key y)) (visit_pairs g P q k) ≤ below (key y) (visit_pairs g P q k) + 1
      step y m =
          let M = counted g P q k in
          let r = pair_counted y m in
          let z : key (y.0, dist g q y.0) ≡ key y = omega (arith, r.1) in
          omega (
            arith,
            by_before g M q NONE (suc (key y)),
            by_before g M q NONE (key y),
            rw z at (before_step ok M q NONE y.0 r.0),
            counted_lockers g P q k y.0 r.0.inside,
            bit_most (is_expanded g P q k y.0),
          )

  visits_rise : (i j : ℕ) → i < j → j < length (visits g P q k) → Earlier g q (get_or (visits g P q k) i 0) (get_or (visits g P q k) j 0)
  visits_rise i j h l =
      let xs = visit_pairs g P q k in
      let b : j < length xs = omega (arith, visits_size g P q k) in
      let y = get_or xs i (0, 0) in
      let z = get_or xs j (0, 0) in
      let r = pair_counted y (member_at (0, 0) xs i (omega arith)) in
      let s = pair_counted z (member_at (0, 0) xs j b) in
      let o = (key_order y.0 y.1 z.0 z.1 (omega (arith, r.0.inside, ok.few)) (omega (arith, s.0.inside, ok.few))).0 (pairs_rise i j h b) in
      rw (visits_at g P q k i, visits_at g P q k j) (rw (r.1, s.1) at o)

  visits_members : (m : ℕ) → Memᴰ m (visits g P q k) ↔ ((m < node_count g) × (is_expanded g P q k m ≡ true))
  unfolding visits
  visits_members m = (
    λ h.
        let z = member_of (visit_pairs g P q k) m h in
        let r = pair_counted (m, z.0) z.1 in
        (r.0.inside, nearer_counted m r.0),
    λ h. of_member (visit_pairs g P q k) (m, dist g q m) (by_all g (counted g P q k) q NONE (node_count g) m h.0 (nearer_passes (counted_nearer m h.0 h.1))),
  )

  pub visits_are : AreVisits g P q k (visits g P q k)
  visits_are = record { members = visits_members; rises = visits_rise }

  -- the rank of a node, seen from q
  rank : ℕ → ℕ
  rank m = key (m, dist g q m)

  rises_rank : (xs : List ℕ) → AreVisits g P q k xs → RisesBy rank xs
  unfolding rank
  rises_rank xs v =
      rises_by rank xs
      (λ i j h l.
      (key_order (get_or xs i 0) _ (get_or xs j 0) _ (small i (omega arith)) (small j l)).1 (v.rises i j h l))
    where
      small : (j : ℕ) → j < length xs → get_or xs j 0 < 4294967296
      small j l = omega (arith, ((v.members (get_or xs j 0)).0 (member_at 0 xs j l)).0, ok.few)

  pub visits_only : (xs : List ℕ) → AreVisits g P q k xs → xs ≡ visits g P q k
  visits_only xs v =
      same_members rank xs (visits g P q k) (rises_rank xs v) (rises_rank (visits g P q k) visits_are)
      (λ m h. (visits_members m).1 ((v.members m).0 h))
      (λ m h. (v.members m).1 ((visits_members m).0 h))

pub visits_lawful : visits_law
visits_lawful g ok P q k = record { count = visits_count ok P q k; are = visits_are ok P q k; only = visits_only ok P q k }
