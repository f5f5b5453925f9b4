-- One more locker at a node: the rows that have a place for it change, by its entry put in at its place, and no others do.
-- Assumes nothing.
use Prim.Native.Nat.{ℕ, zero, suc, ◌≤◌, ◌<◌}
use mathlib.Core.Path.{◌≡◌, refl, sym, ap, ◌∙◌}
use mathlib.Core.Bool.{Bool, true, false, ◌&&◌}
use mathlib.Core.Logic.{◌≢◌, ◌↔◌, ⊎_elim}
use mathlib.Core.List.{List}
use native.Mathlib.Decide.{ℕ_discrete, dec_lt}
use native.Mathlib.Omega.{arith}
use native.Mathlib.Nat.{eq-or-lt_of_le, le_of_suc-le-suc}
use lib.Dec.{ltb}
use lib.ListN.{length, get_or, take, set}
use lib.Seq.{get_or-set_same, get_or-set_other}
use borrow.Author.Tests.{lt-ltb, le-ltb}
use Rattle.network.specs.Network.{Network, node_count}
use Rattle.network.specs.Accepted.{Accepted}
use Rattle.network.specs.Distance.{NONE, dist}
use Rattle.network.specs.Count.{weighed}
use Rattle.network.specs.Points.{lockers, is_nearer}
use Rattle.network.specs.Nearest.{key, insert, insert_times, by_distance, nearest}
use Rattle.network.specs.Order.{before}
use Rattle.network.specs.Rows.{pad, row}
use Rattle.network.proofs.Counts.{bit_lt}
use Rattle.network.proofs.Distances.{dist_at_most}
use Rattle.network.proofs.Ordered.{below}
use Rattle.network.proofs.Insert.{insert_below, times_more, times_swap, take_insert, take_insert_near, take_insert_far}
use Rattle.network.proofs.Rank.{key_other}
use Rattle.network.proofs.Rows.{by_below, all_ordered, nearest_below}
use Rattle.rows.specs.Update.{Added, Gains}
use Rattle.rows.specs.Flat.{unpadded}
use Rattle.rows.proofs.Flat.{filled_row}

-- what a node weighs among those nearer than e: its lockers, or nothing
module _ (g : Network) (P : List ℕ) (i e y : ℕ) where
  weighs : dist g i y < e → weighed (is_nearer g P i e y) (lockers P y) ≡ lockers P y
  unfolding is_nearer
  weighs h =
      elim (dec_lt 0 (lockers P y)) [
        | yes l ↦ rw (lt-ltb 0 (lockers P y) l, lt-ltb (dist g i y) e h)
        | no n ↦ by (ltb 0 (lockers P y) && ltb (dist g i y) e) (omega arith)
      ]
    where
      by : (b : Bool) → lockers P y ≡ 0 → weighed b (lockers P y) ≡ lockers P y
      by true z = refl
      by false z = sym z

  weighs_none : e ≤ dist g i y → weighed (is_nearer g P i e y) (lockers P y) ≡ 0
  unfolding is_nearer
  weighs_none h = rw (le-ltb (dist g i y) e h) (by (ltb 0 (lockers P y)))
    where
      by : (b : Bool) → weighed (b && false) (lockers P y) ≡ 0
      by true = refl
      by false = refl

module _ (g : Network) {P P' : List ℕ} {x : ℕ} (a : Added P P' x) (i e : ℕ) where
  same_weight : (y : ℕ) → y ≢ x → weighed (is_nearer g P' i e y) (lockers P' y) ≡ weighed (is_nearer g P i e y) (lockers P y)
  unfolding is_nearer
  same_weight y n = rw (a.others y n)

  one_more : dist g i x < e → weighed (is_nearer g P' i e x) (lockers P' x) ≡ suc (weighed (is_nearer g P i e x) (lockers P x))
  one_more h = weighs g P' i e x h ∙ a.one ∙ ap suc (sym (weighs g P i e x h))

  -- all that i reaches: below x, with x and above it; and where x is not reached
  by_same : (n : ℕ) → n ≤ x → by_distance g P' i e n ≡ by_distance g P i e n
  unfolding by_distance
  by_same zero h = refl
  by_same (suc n) h = rw (same_weight n (omega arith), by_same n (omega arith))

  by_far : e ≤ dist g i x → (n : ℕ) → by_distance g P' i e n ≡ by_distance g P i e n
  unfolding by_distance
  by_far h zero = refl
  by_far h (suc n) =
      elim (ℕ_discrete n x) [
        | yes q ↦ rw (q, weighs_none g P' i e x h, weighs_none g P i e x h) (ap (insert_times 0 (x, dist g i x)) (by_same x (omega arith)))
        | no m ↦ rw (same_weight n m, by_far h n)
      ]

  by_more : dist g i x < e → (n : ℕ) → x < n → n ≤ 4294967296 → by_distance g P' i e n ≡ insert (x, dist g i x) (by_distance g P i e n)
  unfolding by_distance
  by_more h zero l f = absurd (omega arith)
  by_more h (suc n) l f =
      ⊎_elim
      (λ (q : x ≡ n).
      rw (← q, one_more h, by_same x (omega arith))
      (times_more (weighed (is_nearer g P i e x) (lockers P x)) (x, dist g i x) (by_distance g P i e x)))
      (λ m.
      rw (same_weight n (omega arith), by_more h n m (omega arith))
      (times_swap (weighed (is_nearer g P i e n) (lockers P n)) (x, dist g i x) (n, dist g i n) (by_distance g P i e n)
      (key_other (x, dist g i x) (n, dist g i n) (omega arith) (omega arith) (omega arith))))
      (eq-or-lt_of_le (le_of_suc-le-suc l))

module _ {g : Network} (ok : Accepted g) {P P' : List ℕ} {x : ℕ} (low : x < node_count g) (a : Added P P' x) (K i : ℕ) where
  by_added : dist g i x < NONE → by_distance g P' i NONE (node_count g) ≡ insert (x, dist g i x) (by_distance g P i NONE (node_count g))
  by_added h = by_more g a i NONE h (node_count g) low (omega (arith, ok.few))

  -- the row of a node that reaches x: its entry is put in at its place, and what is behind K falls out
  pub nearest_added : dist g i x ≢ NONE → nearest g P' i NONE K ≡ take K (insert (x, dist g i x) (nearest g P i NONE K))
  unfolding nearest
  nearest_added n =
      ap (take K) (by_added (omega (arith, n, dist_at_most g i x))) ∙ take_insert K (x, dist g i x) (by_distance g P i NONE (node_count g))

  pub row_added : dist g i x ≢ NONE → row g P' K i ≡ pad K (take K (insert (x, dist g i x) (nearest g P i NONE K)))
  unfolding row
  row_added n = rw (nearest_added n)

  -- where there is a place for it, the others of the row are the nearest without it
  pub nearest_removed : Gains g P (suc K) i x → nearest g P' i NONE (suc K) ≡ insert (x, dist g i x) (nearest g P i NONE K)
  unfolding nearest before
  nearest_removed r =
      ap (take (suc K)) (by_added r.reach)
      ∙ take_insert_near K (x, dist g i x) (by_distance g P i NONE (node_count g))
      (omega (arith, by_below g P i NONE (suc (key (x, dist g i x))) (node_count g), r.room))

  -- where there is none, the row stays
  pub nearest_kept : (Gains g P K i x → ⊥) → nearest g P' i NONE K ≡ nearest g P i NONE K
  unfolding nearest before
  nearest_kept n =
      elim (dec_lt (dist g i x) NONE) [
        | no f ↦ ap (take K) (by_far g a i NONE (omega arith) (node_count g))
        | yes h ↦
            let k = suc (key (x, dist g i x)) in
            let l : K ≤ below k (by_distance g P i NONE (node_count g)) =
            elim (dec_lt (before g P i NONE k) K) [
              | yes r ↦ absurd (n (record { reach = h; room = r }))
              | no r ↦ omega (arith, by_below g P i NONE k (node_count g))
            ] in
            ap (take K) (by_added h) ∙ take_insert_far K (x, dist g i x) (by_distance g P i NONE (node_count g)) (all_ordered g P i NONE) l
      ]

  pub row_kept : (Gains g P K i x → ⊥) → row g P' K i ≡ row g P K i
  unfolding row
  row_kept n = rw (nearest_kept n)

  pub gains_or_not : Dec (Gains g P K i x)
  gains_or_not =
      elim (dec_lt (dist g i x) NONE) [
        | yes h ↦
            elim (dec_lt (before g P i NONE (suc (key (x, dist g i x)))) K) [
              | yes l ↦ yes (record { reach = h; room = l })
              | no q ↦ no (λ r. q r.room)
            ]
        | no f ↦ no (λ r. f r.reach)
      ]

  -- one more comes before what is behind it
  before_added : (k : ℕ) → dist g i x < NONE → key (x, dist g i x) < k → before g P' i NONE k ≡ suc (before g P i NONE k)
  unfolding before
  before_added k h l =
      omega (
        arith,
        by_below g P' i NONE k (node_count g),
        by_below g P i NONE k (node_count g),
        ap (below k) (by_added h),
        insert_below k (x, dist g i x) (by_distance g P i NONE (node_count g)),
        bit_lt (key (x, dist g i x)) k l,
      )

  -- so a row changes exactly where there is a place for one more
  pub changed_gains : (row g P K i ≢ row g P' K i) ↔ Gains g P K i x
  changed_gains = (
    λ n. elim gains_or_not [ yes r ↦ r | no q ↦ absurd (n (sym (row_kept q))) ],
    λ r e.
        let k = suc (key (x, dist g i x)) in
        let q = sym (filled_row ok P K i) ∙ ap unpadded e ∙ filled_row ok P' K i in
        omega (
          arith,
          r.room,
          ap (below k) q,
          nearest_below ok P i NONE K k,
          nearest_below ok P' i NONE K k,
          before_added k r.reach (omega arith),
        ),
  )

-- one locker more at x, and one fewer
pub set_added : (P : List ℕ) (x : ℕ) → x < length P → Added P (set P x (suc (get_or P x 0))) x
set_added P x h =
    record { one = get_or-set_same P x (suc (get_or P x 0)) 0 h; others = λ y q. get_or-set_other P x y (suc (get_or P x 0)) 0 q }

pub set_removed : (P : List ℕ) (x b : ℕ) → x < length P → get_or P x 0 ≡ suc b → Added (set P x b) P x
set_removed P x b h e =
    record { one = e ∙ ap suc (sym (get_or-set_same P x b 0 h)); others = λ y q. sym (get_or-set_other P x y b 0 q) }
