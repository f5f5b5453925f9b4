-- One more entry in an ordered list, and so many more: its members, its order, how many are below k.
-- Assumes nothing.
use Prim.Native.Nat.{ℕ, zero, suc, ◌+◌, ◌≤◌, ◌<◌}
use mathlib.Core.Path.{◌≡◌, refl, sym, ap, ◌∙◌}
use mathlib.Core.Bool.{Bool, true, false}
use mathlib.Core.Logic.{◌≢◌, ◌⊎◌, inl, inr, ⊎_elim}
use mathlib.Core.List.Memᴰ
use mathlib.Core.List.{List, [], ◌∷◌, Memᴰ}
use native.Mathlib.Decide.{dec_le, dec_lt}
use native.Mathlib.Omega.{arith}
use lib.Dec.{ltb}
use lib.ListN.{length, take}
use lib.Seq.{take-nil, take-take}
use borrow.Author.Tests.{le-leb, lt-leb}
use Rattle.network.specs.Count.{bit, weighed}
use Rattle.network.specs.Nearest.{key, insert, insert_times}
use Rattle.network.specs.Order.{Ordered}
use Rattle.network.proofs.Counts.{bit_lt}
use Rattle.network.proofs.Ordered.{AllIn, first_least, below, none_below}

-- the clauses of `insert`
pub insert_behind : (x y : ℕ × ℕ) (ys : List (ℕ × ℕ)) → key y ≤ key x → insert x (y ∷ ys) ≡ y ∷ insert x ys
unfolding insert
insert_behind x y ys h = rw (le-leb (key y) (key x) h, insert)

pub insert_before : (x y : ℕ × ℕ) (ys : List (ℕ × ℕ)) → key x < key y → insert x (y ∷ ys) ≡ x ∷ y ∷ ys
unfolding insert
insert_before x y ys h = rw (lt-leb (key y) (key x) h, insert)

pub insert_nil : (x : ℕ × ℕ) → insert x [] ≡ x ∷ []
unfolding insert
insert_nil x = refl

-- its members are the new one and the old ones
pub insert_cases : (x : ℕ × ℕ) (ys : List (ℕ × ℕ)) (z : ℕ × ℕ) → Memᴰ z (insert x ys) → (z ≡ x) ⊎ Memᴰ z ys
insert_cases x [] z m = inl (Memᴰ.eq_of_singleton (rw insert_nil at m))
insert_cases x (y ∷ ys) z m =
    elim (dec_le (key y) (key x)) [
      | yes h ↦
          ⊎_elim
          (λ e. inr (Memᴰ.head e))
          (λ t. ⊎_elim (λ e. inl e) (λ l. inr (Memᴰ.tail l)) (insert_cases x ys z t))
          (Memᴰ.cases_cons (rw (insert_behind x y ys h) at m))
      | no n ↦ Memᴰ.cases_cons (rw (insert_before x y ys (omega arith)) at m)
    ]

pub insert_new : (x : ℕ × ℕ) (ys : List (ℕ × ℕ)) → Memᴰ x (insert x ys)
insert_new x [] = rw insert_nil (Memᴰ.head refl)
insert_new x (y ∷ ys) =
    elim (dec_le (key y) (key x)) [
      | yes h ↦ rw (insert_behind x y ys h) (Memᴰ.tail (insert_new x ys))
      | no n ↦ rw (insert_before x y ys (omega arith)) (Memᴰ.head refl)
    ]

pub insert_old : (x : ℕ × ℕ) (ys : List (ℕ × ℕ)) → AllIn ys (insert x ys)
insert_old x [] z m = absurd (Memᴰ.not-nil m)
insert_old x (y ∷ ys) z m =
    elim (dec_le (key y) (key x)) [
      | yes h ↦
          rw (insert_behind x y ys h)
          (⊎_elim (λ e. Memᴰ.head e) (λ t. Memᴰ.tail (insert_old x ys z t)) (Memᴰ.cases_cons m))
      | no n ↦ rw (insert_before x y ys (omega arith)) (Memᴰ.tail m)
    ]

pub insert_ordered : (x : ℕ × ℕ) (ys : List (ℕ × ℕ)) → Ordered ys → Ordered (insert x ys)
insert_ordered x [] r = rw insert_nil (λ y m. absurd (Memᴰ.not-nil m), tt)
insert_ordered x (y ∷ ys) r =
    elim (dec_le (key y) (key x)) [
      | yes l ↦
          rw (insert_behind x y ys l)
          (λ z m. ⊎_elim (λ e. omega (arith, ap key e)) (λ t. r.0 z t) (insert_cases x ys z m), insert_ordered x ys r.1)
      | no n ↦ rw (insert_before x y ys (omega arith)) (λ z m. omega (arith, first_least {x = y} {xs = ys} r m), r)
    ]

pub insert_below : (k : ℕ) (x : ℕ × ℕ) (ys : List (ℕ × ℕ)) → below k (insert x ys) ≡ below k ys + bit (ltb (key x) k)
insert_below k x [] = rw insert_nil
insert_below k x (y ∷ ys) =
    elim (dec_le (key y) (key x)) [
      | yes h ↦ rw (insert_behind x y ys h) (omega (arith, insert_below k x ys))
      | no n ↦ rw (insert_before x y ys (omega arith))
    ]

pub insert_length : (x : ℕ × ℕ) (ys : List (ℕ × ℕ)) → length (insert x ys) ≡ suc (length ys)
insert_length x [] = rw insert_nil
insert_length x (y ∷ ys) =
    elim (dec_le (key y) (key x)) [
      | yes h ↦ rw (insert_behind x y ys h) (ap suc (insert_length x ys))
      | no n ↦ rw (insert_before x y ys (omega arith))
    ]

-- the first K need no more than the first K
take_cons : (K : ℕ) (y : ℕ × ℕ) (ys : List (ℕ × ℕ)) → take K (y ∷ ys) ≡ take K (y ∷ take K ys)
take_cons zero y ys = refl
take_cons (suc K) y ys = rw (take-take K (suc K) ys (omega arith))

pub take_insert : (K : ℕ) (x : ℕ × ℕ) (ys : List (ℕ × ℕ)) → take K (insert x ys) ≡ take K (insert x (take K ys))
take_insert zero x ys = refl
take_insert (suc K) x [] = refl
take_insert (suc K) x (y ∷ ys) =
    elim (dec_le (key y) (key x)) [
      | yes h ↦ rw (insert_behind x y ys h, insert_behind x y (take K ys) h) (ap (λ l. y ∷ l) (take_insert K x ys))
      | no n ↦
          let h : key x < key y = omega arith in
          rw (insert_before x y ys h, insert_before x y (take K ys) h) (ap (λ l. x ∷ l) (take_cons K y ys))
    ]

-- what has at most K at or before it is put in front of no more than K
pub take_insert_near : (K : ℕ) (x : ℕ × ℕ) (ys : List (ℕ × ℕ)) → below (suc (key x)) ys ≤ K → take (suc K) (insert x ys) ≡ insert x (take K ys)
take_insert_near K x [] l = rw (insert_nil, take-nil K, insert_nil)
take_insert_near zero x (y ∷ ys) l =
    elim (dec_le (key y) (key x)) [
      | yes b ↦ absurd (omega (arith, bit_lt (key y) (suc (key x)) (omega arith)))
      | no n ↦ rw (insert_before x y ys (omega arith), insert_nil)
    ]
take_insert_near (suc K) x (y ∷ ys) l =
    elim (dec_le (key y) (key x)) [
      | yes b ↦
          rw (insert_behind x y ys b, insert_behind x y (take K ys) b)
          (ap (λ r. y ∷ r) (take_insert_near K x ys (omega (arith, bit_lt (key y) (suc (key x)) (omega arith)))))
      | no n ↦
          let c : key x < key y = omega arith in
          rw (insert_before x y ys c, insert_before x y (take K ys) c)
    ]

-- what has K at or before it falls out
pub take_insert_far : (K : ℕ) (x : ℕ × ℕ) (ys : List (ℕ × ℕ)) → Ordered ys → K ≤ below (suc (key x)) ys → take K (insert x ys) ≡ take K ys
take_insert_far zero x ys r l = refl
take_insert_far (suc K) x [] r l = absurd (omega arith)
take_insert_far (suc K) x (y ∷ ys) r l =
    elim (dec_le (key y) (key x)) [
      | yes b ↦
          rw (insert_behind x y ys b) (ap (λ r. y ∷ r) (take_insert_far K x ys r.1 (omega (arith, bit_lt (key y) (suc (key x)) (omega arith)))))
      | no n ↦
          absurd
          (omega (
            arith,
            none_below (suc (key x)) (y ∷ ys) (λ z m. omega (arith, first_least {x = y} {xs = ys} r m)),
          ))
    ]

-- the order of putting in does not matter
lesser_first : (x y : ℕ × ℕ) (ys : List (ℕ × ℕ)) → key x < key y → insert x (insert y ys) ≡ insert y (insert x ys)
lesser_first x y [] l = rw (insert_nil, insert_nil, insert_before x y [] l, insert_behind y x [] (omega arith), insert_nil)
lesser_first x y (z ∷ zs) l =
    elim (dec_le (key z) (key x)) [
      | yes a ↦
          rw (insert_behind y z zs (omega arith), insert_behind x z (insert y zs) a, insert_behind x z zs a, insert_behind y z (insert x zs) (omega arith))
          (ap (λ r. z ∷ r) (lesser_first x y zs l))
      | no a ↦
          elim (dec_le (key z) (key y)) [
            | yes b ↦
                rw (insert_behind y z zs b, insert_before x z (insert y zs) (omega arith), insert_before x z zs (omega arith), insert_behind y x (z ∷ zs) (omega arith), insert_behind y z zs b)
            | no b ↦
                rw (insert_before y z zs (omega arith), insert_before x y (z ∷ zs) l, insert_before x z zs (omega arith), insert_behind y x (z ∷ zs) (omega arith), insert_before y z zs (omega arith))
          ]
    ]

pub insert_swap : (x y : ℕ × ℕ) (ys : List (ℕ × ℕ)) → key x ≢ key y → insert x (insert y ys) ≡ insert y (insert x ys)
insert_swap x y ys n =
    elim (dec_lt (key x) (key y)) [
      | yes l ↦ lesser_first x y ys l
      | no m ↦ sym (lesser_first y x ys (omega (arith, n)))
    ]

-- the same for so many
pub times_none : (x : ℕ × ℕ) (ys : List (ℕ × ℕ)) → insert_times 0 x ys ≡ ys
unfolding insert_times
times_none x ys = refl

pub times_more : (c : ℕ) (x : ℕ × ℕ) (ys : List (ℕ × ℕ)) → insert_times (suc c) x ys ≡ insert x (insert_times c x ys)
unfolding insert_times
times_more c x ys = refl

pub times_cases : (c : ℕ) (x : ℕ × ℕ) (ys : List (ℕ × ℕ)) (z : ℕ × ℕ) → Memᴰ z (insert_times c x ys) → ((z ≡ x) × (1 ≤ c)) ⊎ Memᴰ z ys
unfolding insert_times
times_cases zero x ys z m = inr m
times_cases (suc c) x ys z m =
    ⊎_elim
    (λ e. inl (e, omega arith))
    (λ t. ⊎_elim (λ e. inl (e.0, omega arith)) (λ l. inr l) (times_cases c x ys z t))
    (insert_cases x (insert_times c x ys) z m)

pub times_new : (c : ℕ) (x : ℕ × ℕ) (ys : List (ℕ × ℕ)) → 1 ≤ c → Memᴰ x (insert_times c x ys)
unfolding insert_times
times_new zero x ys h = absurd (omega arith)
times_new (suc c) x ys h = insert_new x (insert_times c x ys)

pub times_old : (c : ℕ) (x : ℕ × ℕ) (ys : List (ℕ × ℕ)) → AllIn ys (insert_times c x ys)
unfolding insert_times
times_old zero x ys z m = m
times_old (suc c) x ys z m = insert_old x (insert_times c x ys) z (times_old c x ys z m)

pub times_ordered : (c : ℕ) (x : ℕ × ℕ) (ys : List (ℕ × ℕ)) → Ordered ys → Ordered (insert_times c x ys)
unfolding insert_times
times_ordered zero x ys r = r
times_ordered (suc c) x ys r = insert_ordered x (insert_times c x ys) (times_ordered c x ys r)

pub times_below : (c k : ℕ) (x : ℕ × ℕ) (ys : List (ℕ × ℕ)) → below k (insert_times c x ys) ≡ below k ys + weighed (ltb (key x) k) c
unfolding insert_times
times_below zero k x ys = by (ltb (key x) k)
  where
    by : (b : Bool) → below k ys ≡ below k ys + weighed b 0
    by true = omega arith
    by false = omega arith
times_below (suc c) k x ys = insert_below k x (insert_times c x ys) ∙ ap (λ n. n + bit (ltb (key x) k)) (times_below c k x ys) ∙ by (ltb (key x) k)
  where
    by : (b : Bool) → below k ys + weighed b c + bit b ≡ below k ys + weighed b (suc c)
    by true = omega arith
    by false = omega arith

pub times_length : (c : ℕ) (x : ℕ × ℕ) (ys : List (ℕ × ℕ)) → length (insert_times c x ys) ≡ length ys + c
unfolding insert_times
times_length zero x ys = omega arith
times_length (suc c) x ys = omega (arith, insert_length x (insert_times c x ys), times_length c x ys)

pub times_swap : (c : ℕ) (x y : ℕ × ℕ) (ys : List (ℕ × ℕ)) → key x ≢ key y → insert_times c y (insert x ys) ≡ insert x (insert_times c y ys)
unfolding insert_times
times_swap zero x y ys n = refl
times_swap (suc c) x y ys n = ap (insert y) (times_swap c x y ys n) ∙ sym (insert_swap x y (insert_times c y ys) n)
