-- Rows of k places: no two places meet; a place that is written; the farthest place; and the sum over all places.
-- Assumes nothing.
use Prim.Native.Nat.{ℕ, zero, suc, ◌+◌, ◌*◌, ◌≤◌, ◌<◌}
use mathlib.Core.Path.{◌≡◌, refl, ap, ◌∙◌}
use mathlib.Core.Bool.{Bool, true, false}
use mathlib.Core.Logic.{◌≢◌}
use mathlib.Core.List.{List}
use Rattle.std.specs.Prelude.{Option, Some}
use native.Mathlib.Decide.{ℕ_discrete, dec_lt}
use native.Mathlib.Omega.{arith}
use lib.ListN.{length, get_or, drop}
use Rattle.std.proofs.lemmas.List.{length-take}
use lib.Dec.{ltb}
use borrow.Author.Tests.{lt-ltb, le-ltb}
use Rattle.network.specs.Distance.{NONE}
use Rattle.network.specs.Count.{total, weighed, sum_over}
use Rattle.network.specs.Points.{lockers}
use Rattle.network.proofs.Lends.{row_fits, mid_at}
use Rattle.network.proofs.Totals.{total_same, total_next, total_upto, total_more}
use Rattle.expansion.specs.Expand.{word_distance}
use Rattle.expansion.proofs.Settled.{word_some}
use Rattle.lazy_searches.specs.Second.{row_distance, words_base, row_ids, row_words, id_at, word_at, is_below, Closed}

-- rows do not meet
pub same_place : (k u i v j : ℕ) → i < k → j < k → u * k + i ≡ v * k + j → (u ≡ v) × (i ≡ j)
same_place k u i v j h l e =
    elim (dec_lt u v) [
      | yes m ↦ absurd (omega (arith, row_fits u v k m))
      | no m ↦
          elim (dec_lt v u) [
            | yes o ↦ absurd (omega (arith, row_fits v u k o))
            | no o ↦ let s : u ≡ v = omega arith in (s, omega (arith, ap (λ (x : ℕ). x * k) s))
          ]
    ]

-- the distance of a word: that of a place that is taken; only such a place is below l
pub word_suc : (d : ℕ) → row_distance (suc d) ≡ d
word_suc d = let e : suc d ≡ suc (0 + d) = omega arith in ap row_distance e ∙ word_some 0 d

pub word_below : (w l : ℕ) → l ≤ NONE → row_distance w < l → w ≢ 0
unfolding word_distance
word_below zero l m h e = omega arith
word_below (suc w) l m h e = omega arith

-- the places before j: `place` is the farthest of those that are farther than d, and p is at none
pub record Looking (ids words : List ℕ) (p d : ℕ) (place : Option ℕ) (most j : ℕ) : Type 0 where
  pub from : d ≤ most
  pub noted : (r : ℕ) → place ≡ Some r → (r < length words) × (d < row_distance (get_or words r 0))
  pub absent : (i : ℕ) → i < j → get_or words i 0 ≢ 0 → get_or ids i 0 ≢ p

module _ {ids words : List ℕ} {p d : ℕ} {place : Option ℕ} {most j : ℕ} (l : Looking ids words p d place most j) (h : j < length words)
    (other : get_or words j 0 ≢ 0 → get_or ids j 0 ≢ p) where
  absent_more : (i : ℕ) → i < j + 1 → get_or words i 0 ≢ 0 → get_or ids i 0 ≢ p
  absent_more i m = elim (ℕ_discrete i j) [ yes e ↦ rw e other | no n ↦ l.absent i (omega arith) ]

  pub looking_farther : {far : ℕ} → far ≡ row_distance (get_or words j 0) → most < far → Looking ids words p d (Some j) far (j + 1)
  looking_farther e m =
      record { from = omega (arith, l.from); noted = λ r q. let s : r ≡ j = cc in rw s (omega arith, omega (arith, l.from)); absent = absent_more }

  pub looking_on : Looking ids words p d place most (j + 1)
  looking_on = record { from = l.from; noted = l.noted; absent = absent_more }

-- a sum with one term that is less
pub total_less : (f h : ℕ → ℕ) (v n : ℕ) → v < n → h v < f v → ((x : ℕ) → x < n → x ≢ v → h x ≡ f x) → total h n < total f n
total_less f h v n l a e =
    omega (
      arith,
      total_more h f v 1 n l
          (λ x i. elim (ℕ_discrete x v) [ yes s ↦ rw s (omega arith) | no m ↦ omega (arith, e x i m) ])
          (omega arith),
    )

-- the tally is that of the lockers at the first j places of a row with distances below l
pub record Tallied (P ids words : List ℕ) (l j tally : ℕ) : Type 0 where
  pub is : tally ≡ sum_over (λ i. ltb (row_distance (get_or words i 0)) l) (λ i. lockers P (get_or ids i 0)) j

module _ {P ids words : List ℕ} {l : ℕ} where
  pub tallied_none : Tallied P ids words l 0 0
  unfolding total
  tallied_none = record { is = refl }

  module _ {j tally : ℕ} (t : Tallied P ids words l j tally) where
    next : (x : Bool) → ltb (row_distance (get_or words j 0)) l ≡ x → Tallied P ids words l (j + 1) (tally + weighed x (lockers P (get_or ids j 0)))
    next x e =
        record {
          is =
              omega (
                arith,
                t.is,
                total_next (λ i. weighed (ltb (row_distance (get_or words i 0)) l) (lockers P (get_or ids i 0))) j,
                ap (λ t. weighed t (lockers P (get_or ids j 0))) e,
              );
        }

    module _ {far : ℕ} (e : far ≡ row_distance (get_or words j 0)) where
      pub tallied_more : far < l → Tallied P ids words l (j + 1) (tally + lockers P (get_or ids j 0))
      tallied_more h = next true (lt-ltb (row_distance (get_or words j 0)) l (omega arith))

      pub tallied_same : l ≤ far → Tallied P ids words l (j + 1) tally
      tallied_same h = record { is = omega (arith, (next false (le-ltb (row_distance (get_or words j 0)) l (omega arith))).is) }

-- enough lockers stand in node u's row
pub tallied_closed : {P ids words xs : List ℕ} {n k u l j tally : ℕ} → Tallied P ids words l j tally → ids ≡ row_ids n k xs u → words ≡ row_words n k xs u
    → j ≤ length words → k ≤ tally → Closed P n xs k u l
tallied_closed {P} {ids} {words} {xs} {n} {k} {u} {l} {j} t p q h full =
    let low : j ≤ k = omega (arith, ap length q, length-take k (drop (words_base n k + u * k) xs)) in
    record {
      enough =
          omega (
            arith,
            t.is,
            full,
            total_same (λ i. weighed (is_below n k xs u l i) (lockers P (id_at n k xs u i))) (λ i. weighed (ltb (row_distance (get_or words i 0)) l) (lockers P (get_or ids i 0))) j
                (λ i m.
                let a : get_or ids i 0 ≡ id_at n k xs u i = rw p (mid_at (n + u * k) k xs i (omega arith)) in
                let b : get_or words i 0 ≡ word_at n k xs u i = rw q (mid_at (words_base n k + u * k) k xs i (omega arith)) in
                rw (a, b) refl),
            total_upto (λ i. weighed (is_below n k xs u l i) (lockers P (id_at n k xs u i))) j k low,
          );
    }
