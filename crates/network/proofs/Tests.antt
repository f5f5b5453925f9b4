-- Laws of tests: one passes or does not, `&&` and `||` in their parts, and a test of every number below n. `tests` turns what a branch of the code
-- tested into the Bool of a definition's test.
-- Assumes nothing.
use Prim.Native.Nat.{ℕ, zero, suc, ◌+◌, ◌≤◌, ◌<◌}
use mathlib.Core.Path.{◌≡◌, refl, sym, ap, ◌∙◌}
use mathlib.Core.Bool.{Bool, true, false, ◌&&◌, ◌||◌, false≢true, true≢false}
use mathlib.Core.Logic.{◌⊎◌, inl, inr, ⊎_elim}
use native.Mathlib.Nat.{eq-or-lt_of_le, le_of_suc-le-suc}
use native.Mathlib.Numerals.{add-one}
use native.Mathlib.Omega.{arith}
use borrow.Author.Tests.{lt-ltb, le-ltb, le-leb, lt-leb, eq-eqb, ne_eqb}
use Rattle.network.specs.Count.{any}

pub ruleset tests = (lt-ltb, le-ltb, le-leb, lt-leb, eq-eqb, ne_eqb)

pub bool_cases : (b : Bool) → (b ≡ true) ⊎ (b ≡ false)
bool_cases true = inl refl
bool_cases false = inr refl

-- two tests that pass together are one
pub alike : (x y : Bool) → (x ≡ true → y ≡ true) → (y ≡ true → x ≡ true) → x ≡ y
alike true y h k = sym (h refl)
alike false true h k = k refl
alike false false h k = refl

pub and_parts : (x y : Bool) → (x && y) ≡ true → (x ≡ true) × (y ≡ true)
and_parts true y e = (refl, e)
and_parts false y e = absurd (false≢true e)

pub and_intro : (x y : Bool) → x ≡ true → y ≡ true → (x && y) ≡ true
and_intro x y p q = rw (p, q)

pub and_left : (x y : Bool) → x ≡ false → (x && y) ≡ false
and_left x y p = rw p

pub and_right : (x y : Bool) → y ≡ false → (x && y) ≡ false
and_right true y p = p
and_right false y p = refl

pub or_parts : (x y : Bool) → (x || y) ≡ false → (x ≡ false) × (y ≡ false)
or_parts true y e = absurd (true≢false e)
or_parts false y e = (refl, e)

pub or_intro : (x y : Bool) → x ≡ false → y ≡ false → (x || y) ≡ false
or_intro x y p q = rw (p, q)

pub or_cases : (x y : Bool) → (x || y) ≡ true → (x ≡ true) ⊎ (y ≡ true)
or_cases true y e = inl refl
or_cases false y e = inr e

pub or_left : (x y : Bool) → x ≡ true → (x || y) ≡ true
or_left x y p = rw p

pub or_right : (x y : Bool) → y ≡ true → (x || y) ≡ true
or_right true y p = refl
or_right false y p = p

-- `any`: none passes, one passes, and one more number is tried
module _ (t : ℕ → Bool) where
  pub any_none : (n x : ℕ) → any t n ≡ false → x < n → t x ≡ false
  unfolding any
  any_none zero x e h = absurd (omega arith)
  any_none (suc n) x e h =
      let r = or_parts (any t n) (t n) e in
      ⊎_elim (λ q. ap t q ∙ r.1) (λ l. any_none n x r.0 l) (eq-or-lt_of_le (le_of_suc-le-suc h))

  pub none_any : (n : ℕ) → ((x : ℕ) → x < n → t x ≡ false) → any t n ≡ false
  unfolding any
  none_any zero h = refl
  none_any (suc n) h = or_intro (any t n) (t n) (none_any n (λ x l. h x (omega arith))) (h n (omega arith))

  pub one_any : (n x : ℕ) → x < n → t x ≡ true → any t n ≡ true
  unfolding any
  one_any zero x h e = absurd (omega arith)
  one_any (suc n) x h e =
      ⊎_elim
      (λ q. or_right (any t n) (t n) (rw q at e))
      (λ l. or_left (any t n) (t n) (one_any n x l e))
      (eq-or-lt_of_le (le_of_suc-le-suc h))

  pub any_start : any t 0 ≡ false
  unfolding any
  any_start = refl

  pub any_more : (n : ℕ) → any t n ≡ false → t n ≡ false → any t (n + 1) ≡ false
  unfolding any
  any_more n p q = rw add-one (or_intro (any t n) (t n) p q)

  -- what a loop that tries one number after the other has found: i passes; none has passed, and i is the last
  pub found : (n i : ℕ) → i < n → t i ≡ true → true ≡ any t n
  found n i l e = sym (one_any n i l e)

  pub not_found : (n i : ℕ) → i ≤ n → n ≤ i → any t i ≡ false → false ≡ any t n
  not_found n i h l e = let q : i ≡ n = omega arith in sym (rw q at e)

  -- the number that passes
  pub record Passes (n : ℕ) : Type 0 where
    pub at : ℕ
    pub low : at < n
    pub passes : t at ≡ true

  pub any_passes : (n : ℕ) → any t n ≡ true → Passes n
  unfolding any
  any_passes zero e = absurd (false≢true e)
  any_passes (suc n) e =
      ⊎_elim
      (λ p. let r = any_passes n p in record { at = r.at; low = omega arith; passes = r.passes })
      (λ p. record { at = n; low = omega arith; passes = p })
      (or_cases (any t n) (t n) e)
