-- The list of settled nodes of an area: each of them has a label, and no two are one, as there are no more places than labels.
-- Assumes nothing.
use Prim.Native.Nat.{ℕ, zero, suc, ◌+◌, ◌≤◌, ◌<◌}
use mathlib.Core.Path.{◌≡◌, refl, sym, ap, ◌∙◌}
use mathlib.Core.Bool.{Bool, true, false, not, false≢true}
use mathlib.Core.Logic.{◌≢◌}
use mathlib.Core.List.{List}
use native.Mathlib.Decide.{ℕ_discrete, dec_lt}
use native.Mathlib.Omega.{arith}
use lib.ListN.{get_or}
use borrow.Author.Tests.{leb-false, not-true}
use Rattle.network.specs.Count.{count, bit}
use Rattle.network.proofs.Counts.{count_none, count_all, count_but, without, without_other, count_without, without_not}
use Rattle.expansion.specs.Area.{unsettled, Area}

-- v stands at a place below m that passes p
record PlacedAmong (f : ℕ → ℕ) (p : ℕ → Bool) (m v : ℕ) : Type 0 where
  place : ℕ
  low : place < m
  passes : p place ≡ true
  is : f place ≡ v

not_last : {x m : ℕ} → x < suc m → x ≢ m → x < m
not_last h n = omega arith

-- where each number below n that passes t has a place that passes p, no more numbers pass t than places pass p
placed_most : (f : ℕ → ℕ) (p : ℕ → Bool) (n m : ℕ) (t : ℕ → Bool) → ((v : ℕ) → v < n → t v ≡ true → PlacedAmong f p m v) → count t n ≤ count p m
unfolding count
placed_most f p n zero t h =
    omega (arith, count_none t n (λ v l a. omega (arith, (h v l a).low)))
placed_most f p n (suc m) t h = by (λ u. placed_most f p n m u) (p m) refl
  where
    fewer : (v : ℕ) → v < n → without t (f m) v ≡ true → PlacedAmong f p m v
    fewer v l a =
        let ne = without_not t (f m) v a in
        let s = h v l (sym (without_other t (f m) v ne) ∙ a) in
        record { place = s.place; low = not_last s.low (λ e. ne (sym s.is ∙ ap f e)); passes = s.passes; is = s.is }

    by : ((u : ℕ → Bool) → ((v : ℕ) → v < n → u v ≡ true → PlacedAmong f p m v) → count u n ≤ count p m) → (x : Bool) → p m ≡ x → count t n ≤ count p m + bit (p m)
    by ih true e =
        rw e (omega (arith, ih (without t (f m)) fewer, count_but t (without t (f m)) (f m) n (λ x ne a. without_other t (f m) x ne ∙ a)))
    by ih false e =
        rw e
        (omega (
          arith,
          ih t
              (λ v l a.
              let s = h v l a in
              record { place = s.place; low = not_last s.low (λ q. false≢true (sym e ∙ ap p (sym q) ∙ s.passes)); passes = s.passes; is = s.is }),
        ))

module _ {n : ℕ} {xs : List ℕ} {b settled len : ℕ} (a : Area n xs b settled len) where
  abbrev labelled : ℕ → Bool
  labelled v = not (unsettled n xs b v)

  -- as many nodes are labelled as are settled
  both : (m : ℕ) → count labelled m + count (unsettled n xs b) m ≡ m
  unfolding count
  both zero = refl
  both (suc m) = omega (arith, both m, bits (unsettled n xs b m))
    where
      bits : (x : Bool) → bit (not x) + bit x ≡ 1
      bits true = refl
      bits false = refl

  -- no place can be spared
  needed : (i : ℕ) → i < settled → ((v : ℕ) → v < n → n < get_or xs (b + v) 0 → PlacedAmong (λ j. get_or xs (b + n + j) 0) (without (λ _. true) i) settled v) → ⊥
  needed i h all =
      omega (
        arith,
        placed_most (λ j. get_or xs (b + n + j) 0) (without (λ _. true) i) n settled labelled
            (λ v l e. all v l (leb-false (get_or xs (b + v) 0) n (not-true (unsettled n xs b v) e))),
        count_without (λ _. true) i settled h refl,
        count_all settled,
        both n,
        a.counted,
      )

  other : (i j : ℕ) → j ≢ i → without (λ _. true) i j ≡ true
  other i j ne = without_other (λ _. true) i j ne

  pub place_labelled : (i : ℕ) → i < settled → n < get_or xs (b + get_or xs (b + n + i) 0) 0
  place_labelled i h =
      elim (dec_lt n (get_or xs (b + get_or xs (b + n + i) 0) 0)) [ yes y ↦ y | no z ↦ absurd (unlabelled z) ]
    where
      unlabelled : (n < get_or xs (b + get_or xs (b + n + i) 0) 0 → ⊥) → ⊥
      unlabelled z = needed i h
          (λ v l w.
          let s = a.labelled v l w in
          record {
            place = s.place;
            low = s.low;
            passes = other i s.place (λ e. z (rw (sym s.is ∙ ap (λ (y : ℕ). get_or xs (b + n + y) 0) e) at w));
            is = s.is;
          })

  pub places_distinct : (i j : ℕ) → i < settled → j < settled → get_or xs (b + n + i) 0 ≡ get_or xs (b + n + j) 0 → i ≡ j
  places_distinct i j h k e =
      elim (ℕ_discrete i j) [
        | yes q ↦ q
        | no ne ↦
            absurd
            (needed j k
            (λ v l w.
            let s = a.labelled v l w in
            elim (ℕ_discrete s.place j) [
              | yes q ↦ record { place = i; low = h; passes = other j i ne; is = e ∙ ap (λ (y : ℕ). get_or xs (b + n + y) 0) (sym q) ∙ s.is }
              | no m ↦ record { place = s.place; low = s.low; passes = other j s.place m; is = s.is }
            ]))
      ]
