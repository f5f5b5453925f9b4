-- The first k lockers nearer to node i than e, and the row of node i: their members, order and length, how often a node stands there; a locker on i
-- stands first; nothing else in order has as many before each key.
-- Assumes nothing.
use Prim.Native.Nat.{ℕ, zero, suc, ◌+◌, ◌-◌, ◌≤◌, ◌<◌, min}
use mathlib.Core.Path.{◌≡◌, refl, sym, ap, ◌∙◌}
use mathlib.Core.Bool.{Bool, true, false, ◌&&◌}
use mathlib.Core.Logic.{◌≢◌, ◌↔◌, ⊎_elim}
use mathlib.Core.List.Memᴰ
use mathlib.Core.List.{List, ◌++◌, Memᴰ}
use native.Mathlib.Nat.{eq-or-lt_of_le, le_of_suc-le-suc}
use native.Mathlib.Decide.{dec_lt}
use native.Mathlib.Omega.{arith}
use lib.Dec.{ltb}
use lib.ListN.{length, take, replicate, length-take, length-append, length-replicate}
use borrow.Author.Tests.{ltb-true}
use Rattle.network.specs.Network.{Network, node_count}
use Rattle.network.specs.Accepted.{Accepted}
use Rattle.network.specs.Distance.{NONE, dist}
use Rattle.network.specs.Count.{total, sum_over, weighed}
use Rattle.network.specs.Points.{lockers, marked, is_nearer, count_nearer}
use Rattle.network.specs.Nearest.{key, by_distance, nearest}
use Rattle.network.specs.Order.{Ordered, is_before, before, Nearer, times}
use Rattle.network.specs.Rows.{pad, row}
use Rattle.network.proofs.Tests.{and_parts}
use Rattle.network.proofs.Distances.{dist_self, dist_zero}
use Rattle.network.proofs.Ordered.{Small, key_pair, Starts, starts, below, take_all_in, take_ordered, take_few, take_below, below_take, same_below, times_level, times_some}
use Rattle.network.proofs.Insert.{times_cases, times_new, times_old, times_ordered, times_below, times_length}
use Rattle.network.proofs.Rank.{Near, nearer_passes, passes_nearer, before_is, before_step}

-- what stands among the first k
pub record Entry (g : Network) (P : List ℕ) (i e k p d : ℕ) : Type 0 where
  pub near : Near g P i e k p
  pub far : d ≡ dist g i p

-- the points below n that are nearer to i than e
pub record Below (g : Network) (P : List ℕ) (i e n : ℕ) (z : ℕ × ℕ) : Type 0 where
  pub low : z.0 < n
  pub passes : is_nearer g P i e z.0 ≡ true
  pub far : z.1 ≡ dist g i z.0

module _ (g : Network) (P : List ℕ) (i e : ℕ) where
  pub by_length : (n : ℕ) → length (by_distance g P i e n) ≡ sum_over (is_nearer g P i e) (lockers P) n
  unfolding by_distance total
  by_length zero = refl
  by_length (suc n) = omega (arith, times_length (weighed (is_nearer g P i e n) (lockers P n)) (n, dist g i n) (by_distance g P i e n), by_length n)

  pub by_below : (k n : ℕ) → below k (by_distance g P i e n) ≡ sum_over (is_before g P i e k) (lockers P) n
  unfolding by_distance total is_before
  by_below k zero = refl
  by_below k (suc n) =
      omega (
        arith,
        times_below (weighed (is_nearer g P i e n) (lockers P n)) k (n, dist g i n) (by_distance g P i e n),
        by_below k n,
        both (is_nearer g P i e n) (ltb (key (n, dist g i n)) k) (lockers P n),
      )
    where
      both : (a b : Bool) (w : ℕ) → weighed b (weighed a w) ≡ weighed (a && b) w
      both true true w = refl
      both true false w = refl
      both false true w = refl
      both false false w = refl

  pub by_all : (n p : ℕ) → p < n → is_nearer g P i e p ≡ true → Memᴰ (p, dist g i p) (by_distance g P i e n)
  unfolding by_distance is_nearer
  by_all zero p h a = absurd (omega arith)
  by_all (suc n) p h a =
      ⊎_elim
      (λ (q : p ≡ n).
      rw q
      (times_new (weighed (is_nearer g P i e n) (lockers P n)) (n, dist g i n) (by_distance g P i e n)
      (rw (← q, a) (ltb-true 0 (lockers P p) (and_parts (marked P p) _ a).0))))
      (λ l. times_old (weighed (is_nearer g P i e n) (lockers P n)) (n, dist g i n) (by_distance g P i e n) _ (by_all n p l a))
      (eq-or-lt_of_le (le_of_suc-le-suc h))

  pub by_only : (n : ℕ) (z : ℕ × ℕ) → Memᴰ z (by_distance g P i e n) → Below g P i e n z
  unfolding by_distance
  by_only zero z m = absurd (Memᴰ.not-nil m)
  by_only (suc n) z m =
      ⊎_elim
      (λ q.
      record {
        low = omega (arith, ap (λ (x : ℕ × ℕ). x.0) q.0);
        passes = ap (λ (x : ℕ × ℕ). is_nearer g P i e x.0) q.0 ∙ some (is_nearer g P i e n) (lockers P n) q.1;
        far = cc q.0;
      })
      (λ t. let r = by_only n z t in record { low = omega arith; passes = r.passes; far = r.far })
      (times_cases (weighed (is_nearer g P i e n) (lockers P n)) (n, dist g i n) (by_distance g P i e n) z m)
    where
      some : (b : Bool) (w : ℕ) → 1 ≤ weighed b w → b ≡ true
      some true w h = refl
      some false w h = absurd (omega arith)

  by_ordered : (n : ℕ) → Ordered (by_distance g P i e n)
  unfolding by_distance
  by_ordered zero = tt
  by_ordered (suc n) = times_ordered (weighed (is_nearer g P i e n) (lockers P n)) (n, dist g i n) (by_distance g P i e n) (by_ordered n)

pub padding : (n : ℕ) (x z : ℕ × ℕ) → Memᴰ z (replicate n x) → z ≡ x
padding zero x z m = absurd (Memᴰ.not-nil m)
padding (suc n) x z m = ⊎_elim (λ q. q) (λ t. padding n x z t) (Memᴰ.cases_cons m)

take_starts : (k : ℕ) (z : ℕ × ℕ) (xs : List (ℕ × ℕ)) → 1 ≤ k → Starts z xs → Starts z (take k xs)
take_starts zero z xs h s = absurd (omega arith)
take_starts (suc k) z xs h s = record { rest = take k s.rest; first = rw s.first }

pub all_ordered : (g : Network) (P : List ℕ) (i e : ℕ) → Ordered (by_distance g P i e (node_count g))
all_ordered g P i e = by_ordered g P i e (node_count g)

pub by_before : (g : Network) (P : List ℕ) (i e k : ℕ) → below k (by_distance g P i e (node_count g)) ≡ before g P i e k
by_before g P i e k = by_below g P i e k (node_count g) ∙ sym (before_is g P i e k)

pub all_small : {g : Network} → Accepted g → (P : List ℕ) (i e : ℕ) → Small (by_distance g P i e (node_count g))
all_small {g} ok P i e y m = omega (arith, (by_only g P i e (node_count g) y m).low, ok.few)

-- how many there are
pub nearest_length : (g : Network) (P : List ℕ) (i e k : ℕ) → length (nearest g P i e k) ≡ min k (count_nearer g P i e)
unfolding nearest count_nearer
nearest_length g P i e k = rw (length-take, by_length g P i e (node_count g))

pub row_length : (g : Network) (P : List ℕ) (K i : ℕ) → length (row g P K i) ≡ K
unfolding row
row_length g P K i = simp (length-append, length-replicate, nearest_length) (omega arith)

module _ {g : Network} (ok : Accepted g) (P : List ℕ) (i e k : ℕ) where
  pub nearest_ordered : Ordered (nearest g P i e k)
  unfolding nearest
  nearest_ordered = take_ordered k (by_distance g P i e (node_count g)) (all_ordered g P i e)

  pub nearest_small : Small (nearest g P i e k)
  unfolding nearest
  nearest_small y m = all_small ok P i e y (take_all_in k (by_distance g P i e (node_count g)) y m)

  -- how many come before a key
  pub nearest_below : (l : ℕ) → below l (nearest g P i e k) ≡ min k (before g P i e l)
  unfolding nearest before
  nearest_below l =
      take_few k l (by_distance g P i e (node_count g)) (all_ordered g P i e) ∙ ap (min k) (by_below g P i e l (node_count g))

  -- the members are the points near i, with their distances
  pub near_listed : (p : ℕ) → Near g P i e k p → Memᴰ (p, dist g i p) (nearest g P i e k)
  unfolding nearest before
  near_listed p r =
      below_take k (by_distance g P i e (node_count g)) (p, dist g i p) (all_ordered g P i e)
      (λ y m q.
      let w = all_small ok P i e y m in
      key_pair y (p, dist g i p) w (omega (arith, r.nearer.inside, ok.few)) q)
      (by_all g P i e (node_count g) p r.nearer.inside (nearer_passes r.nearer))
      (rw (by_below g P i e (key (p, dist g i p)) (node_count g)) r.few)

  pub listed_near : (p d : ℕ) → Memᴰ (p, d) (nearest g P i e k) → Entry g P i e k p d
  unfolding nearest before
  listed_near p d m =
      let r = by_only g P i e (node_count g) (p, d) (take_all_in k (by_distance g P i e (node_count g)) (p, d) m) in
      record {
        near = record {
          nearer = passes_nearer r.low r.passes;
          few =
              rw (← (by_below g P i e (key (p, dist g i p)) (node_count g)), ← r.far)
              (take_below k (by_distance g P i e (node_count g)) (p, d) (all_ordered g P i e) m);
        };
        far = r.far;
      }

  pub entry_listed : (p d : ℕ) → Entry g P i e k p d → Memᴰ (p, d) (nearest g P i e k)
  entry_listed p d r = rw r.far (near_listed p r.near)

  -- a list in order with as many before each key is the answer
  pub nearest_unique : (xs : List (ℕ × ℕ)) → Ordered xs → Small xs → ((l : ℕ) → below l xs ≡ min k (before g P i e l)) → xs ≡ nearest g P i e k
  nearest_unique xs r s h = same_below xs (nearest g P i e k) r nearest_ordered s nearest_small (λ l. h l ∙ sym (nearest_below l))

  -- how often a node stands there: with all its lockers, or as many as there is room for behind what comes before it
  pub nearest_times : (p : ℕ) → Nearer g P i e p
      → times p (nearest g P i e k) + min k (before g P i e (key (p, dist g i p))) ≡ min k (before g P i e (key (p, dist g i p)) + lockers P p)
  nearest_times p r =
      let l = key (p, dist g i p) in
      omega (
        arith,
        times_level p l (nearest g P i e k) level,
        nearest_below l,
        nearest_below (suc l),
        before_step ok P i e p r,
      )
    where
      level : (y : ℕ × ℕ) → Memᴰ y (nearest g P i e k)
          → (y.0 ≡ p → key y ≡ key (p, dist g i p)) × (key y ≡ key (p, dist g i p) → y.0 ≡ p)
      level y m =
          let f = listed_near y.0 y.1 m in (
            λ q. omega (arith, q, f.far, ap (dist g i) q),
            λ q. ap (λ (x : ℕ × ℕ). x.0) (key_pair y (p, dist g i p) (nearest_small y m) (omega (arith, r.inside, ok.few)) q),
          )

  pub nearest_no_more : (p : ℕ) → times p (nearest g P i e k) ≤ lockers P p
  nearest_no_more p =
      elim (dec_lt 0 (times p (nearest g P i e k))) [
        | no n ↦ omega arith
        | yes h ↦
            ⊎_elim
            (λ (z : times p (nearest g P i e k) ≡ 0). absurd (omega arith))
            (λ c. let r = listed_near p c.far c.mem in omega (arith, nearest_times p r.near.nearer))
            (times_some p (nearest g P i e k))
      ]

  -- a point on i stands first
  pub nearest_source : 1 ≤ k → 1 ≤ e → i < node_count g → marked P i ≡ true → Starts (i, 0) (nearest g P i e k)
  unfolding nearest
  nearest_source some far h a =
      take_starts k (i, 0) (by_distance g P i e (node_count g)) some
      (starts (i, 0) (by_distance g P i e (node_count g)) (all_ordered g P i e) listed least)
    where
      self : Nearer g P i e i
      self = record { inside = h; point = a; less = omega (arith, dist_self ok i) }

      listed : Memᴰ (i, 0) (by_distance g P i e (node_count g))
      listed = rw (dist_self ok i) at (by_all g P i e (node_count g) i h (nearer_passes self))

      least : (y : ℕ × ℕ) → Memᴰ y (by_distance g P i e (node_count g)) → key y ≤ key (i, 0) → y ≡ (i, 0)
      least y m l =
          let r = by_only g P i e (node_count g) y m in
          let z : y.1 ≡ 0 = omega (arith, ok.few) in
          let q : i ≡ y.0 = dist_zero ok i y.0 (omega (arith, r.far)) in
          λ j. (sym q j, z j)

-- the row of i: its entries, without the padding, are the K nearest points that can be reached
module _ {g : Network} (ok : Accepted g) (P : List ℕ) (K i : ℕ) where
  pub row_unique : (xs : List (ℕ × ℕ)) → Ordered xs → Small xs → ((l : ℕ) → below l xs ≡ min K (before g P i NONE l)) → pad K xs ≡ row g P K i
  unfolding row
  row_unique xs r s h = rw (nearest_unique ok P i NONE K xs r s h)

  pub row_members : (p d : ℕ) → p ≢ NONE → Memᴰ (p, d) (row g P K i) ↔ Entry g P i NONE K p d
  unfolding row
  row_members p d n = (
    λ m.
        ⊎_elim
        (λ l. listed_near ok P i NONE K p d l)
        (λ r. absurd (n (ap (λ (x : ℕ × ℕ). x.0) (padding (K - length (nearest g P i NONE K)) (NONE, NONE) (p, d) r))))
        (Memᴰ.append_cases (nearest g P i NONE K) m),
    λ r. Memᴰ.append_left _ (entry_listed ok P i NONE K p d r),
  )

  pub row_source : 1 ≤ K → i < node_count g → marked P i ≡ true → Starts (i, 0) (row g P K i)
  unfolding row
  row_source some h a =
      let s = nearest_source ok P i NONE K some (omega arith) h a in
      let fill : List (ℕ × ℕ) = replicate (K - length (nearest g P i NONE K)) (NONE, NONE) in
      record { rest = s.rest ++ fill; first = ap (λ l. l ++ fill) s.first }
