-- A node is appended to a row that lacks it and has a free place, behind all that it holds: once for each of its lockers, or as often as there is
-- room for. The row stays sorted. So a build's offer is one entry of the queue, however many lockers its node has.
-- Assumes nothing.
use Prim.Native.Nat.{ℕ, zero, suc, ◌+◌, ◌-◌, ◌≤◌, ◌<◌, min}
use mathlib.Core.Path.{◌≡◌, refl, sym, ap, ◌∙◌}
use mathlib.Core.Logic.{◌≢◌, ⊎_elim}
use mathlib.Core.List.Memᴰ
use mathlib.Core.List.{List, [], ◌∷◌, ◌++◌, Memᴰ}
use native.Mathlib.Decide.{ℕ_discrete}
use native.Mathlib.Omega.{arith}
use lib.ListN.{length, replicate, length-append, length-replicate}
use borrow.Author.Tests.{eq-eqb, ne_eqb}
use Rattle.network.specs.Points.{lockers}
use Rattle.network.specs.Nearest.{key}
use Rattle.network.specs.Order.{Ordered, times}
use Rattle.network.proofs.Ordered.{times_none}
use Rattle.network.proofs.Rows.{padding}
use Rattle.rows.specs.Exact.{Full, Sorted}

times_append : (q : ℕ) (xs ys : List (ℕ × ℕ)) → times q (xs ++ ys) ≡ times q xs + times q ys
times_append q [] ys = omega arith
times_append q (x ∷ xs) ys = omega (arith, times_append q xs ys)

times_like : (n p d : ℕ) → times p (replicate n (p, d)) ≡ n
times_like zero p d = refl
times_like (suc n) p d = rw (eq-eqb p p refl) (omega (arith, times_like n p d))

times_unlike : (n p d q : ℕ) → p ≢ q → times q (replicate n (p, d)) ≡ 0
times_unlike zero p d q m = refl
times_unlike (suc n) p d q m = rw (ne_eqb p q m) (omega (arith, times_unlike n p d q m))

like_ordered : (n : ℕ) (x : ℕ × ℕ) → Ordered (replicate n x)
like_ordered zero x = tt
like_ordered (suc n) x = (λ y m. omega (arith, ap key (padding n x y m)), like_ordered n x)

append_ordered : (xs ys : List (ℕ × ℕ)) → Ordered xs → Ordered ys → ((x y : ℕ × ℕ) → Memᴰ x xs → Memᴰ y ys → key x ≤ key y) → Ordered (xs ++ ys)
append_ordered [] ys r s h = s
append_ordered (x ∷ xs) ys r s h = (
  λ y m. ⊎_elim (λ a. r.0 y a) (λ b. h x y (Memᴰ.head refl) b) (Memᴰ.append_cases xs m),
  append_ordered xs ys r.1 s (λ z y a b. h z y (Memᴰ.tail a) b),
)

module _ {P : List ℕ} {K : ℕ} {xs : List (ℕ × ℕ)} (s : Sorted P K xs) (p d : ℕ) (free : length xs < K) (lacks : (e : ℕ) → Memᴰ (p, e) xs → ⊥)
    (last : (y : ℕ × ℕ) → Memᴰ y xs → key y ≤ key (p, d)) where
  -- how often there is room for it
  abbrev pub room : ℕ
  room = min (lockers P p) (K - length xs)

  abbrev pub appended : List (ℕ × ℕ)
  appended = xs ++ replicate room (p, d)

  long : length appended ≡ length xs + room
  long = simp (length-append, length-replicate)

  new_is : (y : ℕ × ℕ) → Memᴰ y (replicate room (p, d)) → y ≡ (p, d)
  new_is y m = padding room (p, d) y m

  own_times : times p appended ≡ room
  own_times = omega (arith, times_append p xs (replicate room (p, d)), times_none p xs lacks, times_like room p d)

  other_times : (q : ℕ) → p ≢ q → times q appended ≡ times q xs
  other_times q n = omega (arith, times_append q xs (replicate room (p, d)), times_unlike room p d q n)

  named : (q a b : ℕ) → Memᴰ {A = ℕ × ℕ} (q, b) (replicate room (p, d)) → Memᴰ (q, a) xs → Memᴰ (p, a) xs
  named q a b v u = let e : q ≡ p = ap (λ (x : ℕ × ℕ). x.0) (new_is (q, b) v) in rw e at u

  one_distance : (q a b : ℕ) → Memᴰ (q, a) appended → Memᴰ (q, b) appended → a ≡ b
  one_distance q a b m n =
      ⊎_elim
      (λ (u : Memᴰ (q, a) xs).
      ⊎_elim
      (λ (v : Memᴰ (q, b) xs). s.once q a b u v)
      (λ (v : Memᴰ {A = ℕ × ℕ} (q, b) (replicate room (p, d))). absurd (lacks a (named q a b v u)))
      (Memᴰ.append_cases xs n))
      (λ (u : Memᴰ {A = ℕ × ℕ} (q, a) (replicate room (p, d))).
      ⊎_elim
      (λ (v : Memᴰ (q, b) xs). absurd (lacks b (named q b a u v)))
      (λ (v : Memᴰ {A = ℕ × ℕ} (q, b) (replicate room (p, d))). ap (λ (x : ℕ × ℕ). x.1) (new_is (q, a) u ∙ sym (new_is (q, b) v)))
      (Memᴰ.append_cases xs n))
      (Memᴰ.append_cases xs m)

  no_more : (q : ℕ) → times q appended ≤ lockers P q
  no_more q =
      elim (ℕ_discrete p q) [
        | yes e ↦ rw (← e) (omega (arith, own_times))
        | no n ↦ omega (arith, other_times q n, s.most q)
      ]

  ends : (y : ℕ × ℕ) → Memᴰ y appended → key y ≤ key (p, d)
  ends y m = ⊎_elim (λ a. last y a) (λ b. omega (arith, ap key (new_is y b))) (Memᴰ.append_cases xs m)

  whole_own : times p appended < lockers P p → Full K appended p d
  whole_own l = record { filled = omega (arith, long, own_times); ends = ends }

  whole : (q a : ℕ) → Memᴰ (q, a) appended → times q appended < lockers P q → Full K appended q a
  whole q a m l =
      ⊎_elim
      (λ u.
      elim (ℕ_discrete p q) [
        | yes e ↦ absurd (lacks a (rw (← e) at u))
        | no n ↦ absurd (omega (arith, free, (s.whole q a u (omega (arith, other_times q n, l))).filled))
      ])
      (λ u.
      let e = ap (λ (x : ℕ × ℕ). x.0) (new_is (q, a) u) in
      let f = ap (λ (x : ℕ × ℕ). x.1) (new_is (q, a) u) in
      rw (e, f) (whole_own (rw e at l)))
      (Memᴰ.append_cases xs m)

  pub appended_sorted : Sorted P K appended
  appended_sorted =
      record {
        ordered =
            append_ordered xs (replicate room (p, d)) s.ordered (like_ordered room (p, d))
            (λ x y a b. omega (arith, last x a, ap key (new_is y b)));
        short = omega (arith, long);
        once = one_distance;
        most = no_more;
        whole = whole;
      }
