-- A run of one word in a list (`with_run`): its words, the fill that writes it, a run in a part that was lent, and the entries of a row that ends with one.
-- Assumes nothing.
use Prim.Native.Nat.{ℕ, zero, suc, ◌+◌, ◌-◌, ◌≤◌, ◌<◌}
use mathlib.Core.Path.{◌≡◌, refl, sym, ap, ◌∙◌}
use mathlib.Core.Logic.{◌⊎◌, inl, inr, ⊎_elim}
use mathlib.Core.List.{List, [], ◌∷◌, ◌++◌}
use native.Mathlib.Decide.{ℕ_discrete, dec_lt}
use native.Mathlib.Nat.{zero-add, suc-add}
use native.Mathlib.Omega.{arith}
use lib.ListN.{length, get_or, set, take, replicate, length-set, length-replicate}
use Rattle.std.proofs.lemmas.List.{get_or-replicate}
use lib.Seq.{ext_get_or, get_or-set_same, get_or-set_other, set-append_left, length-take-le}
use borrow.Rule.Slice.PartMut.{mid_of, put_mid, post_of, mid_len, put_same}
use Rattle.network.proofs.Lends.{returned}
use Rattle.rows.specs.Flat.{place, places}
use Rattle.table.specs.Build.{with_run}

module _ (xs : List ℕ) (at v : ℕ) where
  pub run_length : (n : ℕ) → length (with_run xs at n v) ≡ length xs
  unfolding with_run
  run_length zero = refl
  run_length (suc n) = length-set (with_run xs at n v) (at + n) v ∙ run_length n

  -- a word of the run, and a word before or behind it
  pub run_in : (n j : ℕ) → at + n ≤ length xs → at ≤ j → j < at + n → get_or (with_run xs at n v) j 0 ≡ v
  unfolding with_run
  run_in zero j f l h = absurd (omega arith)
  run_in (suc n) j f l h =
      elim (ℕ_discrete j (at + n)) [
        | yes e ↦ ap (λ (i : ℕ). get_or (set (with_run xs at n v) (at + n) v) i 0) e ∙ get_or-set_same (with_run xs at n v) (at + n) v 0 (omega (arith, run_length n))
        | no m ↦ get_or-set_other (with_run xs at n v) (at + n) j v 0 m ∙ run_in n j (omega arith) l (omega arith)
      ]

  pub run_out : (n j : ℕ) → (j < at) ⊎ (at + n ≤ j) → get_or (with_run xs at n v) j 0 ≡ get_or xs j 0
  unfolding with_run
  run_out zero j h = refl
  run_out (suc n) j h =
      get_or-set_other (with_run xs at n v) (at + n) j v 0 (λ e. ⊎_elim (λ a. omega arith) (λ a. omega arith) h)
      ∙ run_out n j (⊎_elim (λ a. inl a) (λ a. inr (omega arith)) h)

  -- as `fill` writes it, up to e
  pub run_filled : (e : ℕ) → at ≤ e → e ≤ length xs → put_mid at (e - at) xs (replicate (e - at) v) ≡ with_run xs at (e - at) v
  run_filled e low fits =
      let n = e - at in
      let r = returned at e xs (replicate n v) low fits (length-replicate n v ∙ sym (mid_len at e xs fits)) in
      ext_get_or 0 (put_mid at n xs (replicate n v)) (with_run xs at n v) (r.size ∙ sym (run_length n))
      (λ j l.
      elim (dec_lt j at) [
        | yes h ↦ r.before j h ∙ sym (run_out n j (inl h))
        | no h ↦
            elim (dec_lt j e) [
              | yes m ↦
                  let q : at + (j - at) ≡ j = omega arith in
                  rw q at (r.part (j - at) (omega arith)) ∙ get_or-replicate n (j - at) v 0 (omega arith) ∙ sym (run_in n j (omega arith) (omega arith) (omega arith))
              | no m ↦ r.after j (omega arith) ∙ sym (run_out n j (inr (omega arith)))
            ]
      ])

-- a write behind the first list
set_behind : (xs ys : List ℕ) (j v : ℕ) → set (xs ++ ys) (length xs + j) v ≡ xs ++ set ys j v
set_behind [] ys j v = ap (λ (i : ℕ). set ys i v) (zero-add j)
set_behind (x ∷ xs) ys j v = rw (suc-add (length xs) j) (ap (λ (l : List ℕ). x ∷ l) (set_behind xs ys j v))

-- a run in the part from a up to e is one in the whole
module _ (a e : ℕ) (xs : List ℕ) (low : a ≤ e) (fits : e ≤ length xs) where
  put_set : (zs : List ℕ) (j v : ℕ) → j < length zs → put_mid a (e - a) xs (set zs j v) ≡ set (put_mid a (e - a) xs zs) (a + j) v
  put_set zs j v h =
      ap (λ (l : List ℕ). take a xs ++ l) (sym (set-append_left zs (post_of a (e - a) xs) j v h))
      ∙ sym (set_behind (take a xs) (zs ++ post_of a (e - a) xs) j v)
      ∙ ap (λ (i : ℕ). set (put_mid a (e - a) xs zs) (i + j) v) (length-take-le a xs (omega arith))

  pub put_run : (j n v : ℕ) → j + n ≤ e - a → put_mid a (e - a) xs (with_run (mid_of a (e - a) xs) j n v) ≡ with_run xs (a + j) n v
  unfolding with_run
  put_run j zero v h = put_same a (e - a) xs
  put_run j (suc n) v h =
      let q : a + (j + n) ≡ a + j + n = omega arith in
      put_set (with_run (mid_of a (e - a) xs) j n v) (j + n) v (omega (arith, run_length (mid_of a (e - a) xs) j v n, mid_len a e xs fits))
      ∙ ap (λ (i : ℕ). set (put_mid a (e - a) xs (with_run (mid_of a (e - a) xs) j n v)) i v) q
      ∙ ap (λ (l : List ℕ). set l (a + j + n) v) (put_run j n v (omega arith))

-- places that are all the same, and places that end with such
module _ (ids dists : List ℕ) (x : ℕ × ℕ) where
  places_like : (at n : ℕ) → ((j : ℕ) → j < n → place ids dists (at + j) ≡ x) → places ids dists at n ≡ replicate n x
  unfolding places
  places_like at zero h = refl
  places_like at (suc n) h =
      let q : at + 0 ≡ at = omega arith in
      rw (ap (place ids dists) (sym q) ∙ h 0 (omega arith), places_like (suc at) n (λ j l. next j (h (suc j) (omega arith))))
    where
      next : (j : ℕ) → place ids dists (at + suc j) ≡ x → place ids dists (suc at + j) ≡ x
      next j e = let q : suc at + j ≡ at + suc j = omega arith in ap (place ids dists) q ∙ e

  pub places_run : (at k n : ℕ) → ((j : ℕ) → k ≤ j → j < k + n → place ids dists (at + j) ≡ x) → places ids dists at (k + n) ≡ places ids dists at k ++ replicate n x
  unfolding places
  places_run at zero n h = rw (zero-add n) (places_like at n (λ j l. h j (omega arith) (omega arith)))
  places_run at (suc k) n h =
      rw (suc-add k n) (ap (λ (l : List (ℕ × ℕ)). place ids dists at ∷ l) (places_run (suc at) k n (λ j l m. next j (h (suc j) (omega arith) (omega arith)))))
    where
      next : (j : ℕ) → place ids dists (at + suc j) ≡ x → place ids dists (suc at + j) ≡ x
      next j e = let q : suc at + j ≡ at + suc j = omega arith in ap (place ids dists) q ∙ e
