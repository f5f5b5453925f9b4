-- Laws of `count` and `select`: who passes one test and who passes another, and the list of those who pass.
-- Assumes nothing.
use Prim.Native.Nat.{ℕ, zero, suc, ◌+◌, ◌≤◌, ◌<◌}
use mathlib.Core.Path.{◌≡◌, refl, sym, ap, ◌∙◌}
use mathlib.Core.Bool.{Bool, true, false, not, ◌&&◌, false≢true}
use mathlib.Core.Logic.{◌≢◌, ⊎_elim}
use mathlib.Core.List.Memᴰ
use mathlib.Core.List.{List, [], ◌∷◌, ◌++◌, Memᴰ, append-nil}
use native.Mathlib.Nat.{eq-or-lt_of_le, le_of_suc-le-suc}
use native.Mathlib.Decide.{ℕ_discrete, dec_lt}
use native.Mathlib.Omega.{arith}
use lib.Dec.{eqb, ltb}
use lib.ListN.{length, get_or, length-append, get_or-append}
use lib.Seq.{get_or_at}
use borrow.Author.Tests.{eq-eqb, ne_eqb, lt-ltb, le-ltb}
use Rattle.network.specs.Count.{count, bit, select, if_any}
use Rattle.network.specs.Answers.{Ascending}

pub bit_mono : (x y : Bool) → (x ≡ true → y ≡ true) → bit x ≤ bit y
bit_mono true y h = rw (h refl) (omega arith)
bit_mono false y h = omega arith

pub bit_most : (b : Bool) → bit b ≤ 1
bit_most true = omega arith
bit_most false = omega arith

pub bit_lt : (a b : ℕ) → a < b → bit (ltb a b) ≡ 1
bit_lt a b h = rw (lt-ltb a b h)

pub bit_ge : (a b : ℕ) → b ≤ a → bit (ltb a b) ≡ 0
bit_ge a b h = rw (le-ltb a b h)

-- who passes one test, below n, passes another: there are no fewer of those; the same pass both; all pass; no more than all; none does
pub count_mono : (t u : ℕ → Bool) (n : ℕ) → ((x : ℕ) → x < n → t x ≡ true → u x ≡ true) → count t n ≤ count u n
unfolding count
count_mono t u zero h = omega arith
count_mono t u (suc n) h =
    omega (arith, count_mono t u n (λ x l. h x (omega arith)), bit_mono (t n) (u n) (h n (omega arith)))

pub count_same : (t u : ℕ → Bool) (n : ℕ) → ((x : ℕ) → x < n → u x ≡ t x) → count u n ≡ count t n
unfolding count
count_same t u zero h = refl
count_same t u (suc n) h = rw (h n (omega arith), count_same t u n (λ x l. h x (omega arith)))

pub count_all : (n : ℕ) → count (λ _. true) n ≡ n
unfolding count
count_all zero = refl
count_all (suc n) = omega (arith, count_all n)

pub count_few : (t : ℕ → Bool) (n : ℕ) → count t n ≤ n
count_few t n = omega (arith, count_mono t (λ _. true) n (λ x l e. refl), count_all n)

pub count_none : (t : ℕ → Bool) (n : ℕ) → ((x : ℕ) → x < n → t x ≡ true → ⊥) → count t n ≡ 0
unfolding count
count_none t zero h = refl
count_none t (suc n) h = omega (arith, count_none t n (λ x l. h x (omega arith)), bit_mono (t n) false (λ a. absurd (h n (omega arith) a)))

-- a count grows, and stays where no more pass
pub count_up : (t : ℕ → Bool) (m n : ℕ) → m ≤ n → count t m ≤ count t n
unfolding count
count_up t m zero h = let q : m ≡ 0 = omega arith in rw q (omega arith)
count_up t m (suc n) h = ⊎_elim (λ (q : m ≡ suc n). rw q (omega arith)) (λ l. omega (arith, count_up t m n (le_of_suc-le-suc l))) (eq-or-lt_of_le h)

pub count_still : (t : ℕ → Bool) (m n : ℕ) → m ≤ n → ((x : ℕ) → m ≤ x → x < n → t x ≡ false) → count t n ≡ count t m
unfolding count
count_still t m zero h f = let q : m ≡ 0 = omega arith in rw q
count_still t m (suc n) h f =
    ⊎_elim
    (λ (q : m ≡ suc n). rw q)
    (λ l. rw (f n (le_of_suc-le-suc l) (omega arith)) (omega (arith, count_still t m n (le_of_suc-le-suc l) (λ x a b. f x a (omega arith)))))
    (eq-or-lt_of_le h)

-- v passes the second test alone
pub count_more : (t u : ℕ → Bool) (v n : ℕ) → v < n → t v ≡ false → u v ≡ true → ((x : ℕ) → x ≢ v → u x ≡ t x) → count u n ≡ suc (count t n)
unfolding count
count_more t u v zero l a b h = absurd (omega arith)
count_more t u v (suc n) l a b h =
    elim (ℕ_discrete n v) [
      | yes e ↦ rw (e, a, b) (omega (arith, count_same t u v (λ x i. h x (omega arith))))
      | no m ↦ rw (h n m) (omega (arith, count_more t u v n (omega arith) a b h))
    ]

-- who is not p, and passes one test, passes another
pub count_but : (t u : ℕ → Bool) (p n : ℕ) → ((x : ℕ) → x ≢ p → t x ≡ true → u x ≡ true) → count t n ≤ suc (count u n)
unfolding count
count_but t u p zero h = omega arith
count_but t u p (suc n) h =
    elim (ℕ_discrete n p) [
      | yes e ↦ omega (arith, count_mono t u n (λ x l. h x (omega arith)), bit_most (t n))
      | no m ↦ omega (arith, count_but t u p n h, bit_mono (t n) (u n) (h n m))
    ]

-- the same test, but for a
pub without : (ℕ → Bool) → ℕ → ℕ → Bool
without t a x = not (eqb x a) && t x

pub without_other : (t : ℕ → Bool) (a x : ℕ) → x ≢ a → without t a x ≡ t x
unfolding without
without_other t a x n = rw (ne_eqb x a n)

pub without_self : (t : ℕ → Bool) (a : ℕ) → without t a a ≡ false
unfolding without
without_self t a = rw (eq-eqb a a refl)

pub without_not : (t : ℕ → Bool) (a x : ℕ) → without t a x ≡ true → x ≢ a
without_not t a x h e = false≢true (sym (without_self t a) ∙ ap (without t a) (sym e) ∙ h)

pub count_without : (t : ℕ → Bool) (a n : ℕ) → a < n → t a ≡ true → suc (count (without t a) n) ≡ count t n
count_without t a n h f = sym (count_more (without t a) t a n h (without_self t a) f (λ x m. sym (without_other t a x m)))

-- tests that agree below n select the same
pub select_same : (t u : ℕ → Bool) (n : ℕ) → ((x : ℕ) → x < n → t x ≡ u x) → select t n ≡ select u n
unfolding select
select_same t u zero e = refl
select_same t u (suc n) e = rw (select_same t u n (λ x l. e x (omega arith)), e n (omega arith))

-- members of `select`
pub selected : (t : ℕ → Bool) (n x : ℕ) → x < n → t x ≡ true → Memᴰ x (select t n)
unfolding select
selected t zero x h e = absurd (omega arith)
selected t (suc n) x h e =
    ⊎_elim
    (λ q. Memᴰ.append_right (select t n) (rw (← q, e) (Memᴰ.head refl)))
    (λ l. Memᴰ.append_left (if_any (t n) n) (selected t n x l e))
    (eq-or-lt_of_le (le_of_suc-le-suc h))

any_mem : (b : Bool) (x y : ℕ) → Memᴰ x (if_any b y) → (x ≡ y) × (b ≡ true)
any_mem true x y m = (Memᴰ.eq_of_singleton m, refl)
any_mem false x y m = absurd (Memᴰ.not-nil m)

pub select_passed : (t : ℕ → Bool) (n x : ℕ) → Memᴰ x (select t n) → (x < n) × (t x ≡ true)
unfolding select
select_passed t zero x m = absurd (Memᴰ.not-nil m)
select_passed t (suc n) x m =
    ⊎_elim
    (λ l. let r = select_passed t n x l in (omega arith, r.1))
    (λ l. let r = any_mem (t n) x n l in (omega arith, ap t r.0 ∙ r.1))
    (Memᴰ.append_cases (select t n) m)

-- a place of a list holds a member
pub member_at : {A : Type 0} (z : A) (xs : List A) (j : ℕ) → j < length xs → Memᴰ (get_or xs j z) xs
member_at z [] j h = absurd (omega arith)
member_at z (x ∷ xs) zero h = Memᴰ.head refl
member_at z (x ∷ xs) (suc j) h = Memᴰ.tail (member_at z xs j (omega arith))

-- and it is the same, whatever stands for a place behind the last
pub get_or_either : {A : Type 0} (y z : A) (xs : List A) (j : ℕ) → j < length xs → get_or xs j y ≡ get_or xs j z
get_or_either y z [] j h = absurd (omega arith)
get_or_either y z (x ∷ xs) zero h = refl
get_or_either y z (x ∷ xs) (suc j) h = get_or_either y z xs j (omega arith)

-- a rising list with one more behind all, and where a test says so
one_more : (xs : List ℕ) (n : ℕ) → Ascending xs → ((x : ℕ) → Memᴰ x xs → x < n) → Ascending (xs ++ n ∷ [])
one_more xs n a low = record { next = rises }
  where
    rises : (j : ℕ) → suc j < length (xs ++ n ∷ []) → get_or (xs ++ n ∷ []) j 0 < get_or (xs ++ n ∷ []) (suc j) 0
    rises j h =
        let b : suc j < length xs + 1 = simp length-append at h in
        elim (dec_lt (suc j) (length xs)) [
          | yes l ↦ rw (get_or-append xs (n ∷ []) 0 j (omega arith), get_or-append xs (n ∷ []) 0 (suc j) l) (a.next j l)
          | no l ↦
              rw (get_or-append xs (n ∷ []) 0 j (omega arith), get_or_at xs n [] 0 (suc j) (omega arith)) (low (get_or xs j 0) (member_at 0 xs j (omega arith)))
        ]

if_ascending : (b : Bool) (xs : List ℕ) (n : ℕ) → Ascending xs → ((x : ℕ) → Memᴰ x xs → x < n) → Ascending (xs ++ if_any b n)
if_ascending true xs n a low = one_more xs n a low
if_ascending false xs n a low = rw append-nil a

-- document 01: 'Lists are ascending by node.'
pub select_ascending : (t : ℕ → Bool) (n : ℕ) → Ascending (select t n)
unfolding select
select_ascending t zero = record { next = λ j h. absurd (omega arith) }
select_ascending t (suc n) = if_ascending (t n) (select t n) n (select_ascending t n) (λ x m. (select_passed t n x m).0)
