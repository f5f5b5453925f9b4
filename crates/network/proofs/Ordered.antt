-- Lists of (node, distance) in order by key, in which a pair may stand several times. Such a list is known by how many come before each key (`below`):
-- two with the same of these are equal, and the first K have at most K of them.
-- Assumes nothing.
use Prim.Native.Nat.{ℕ, zero, suc, ◌+◌, ◌≤◌, ◌<◌, min}
use mathlib.Core.Path.{◌≡◌, refl, sym, ap}
use mathlib.Core.Bool.{Bool, true, false, ◌&&◌}
use mathlib.Core.Logic.{◌≢◌, ◌⊎◌, inl, inr, ⊎_elim}
use mathlib.Core.List.Memᴰ
use mathlib.Core.List.{List, [], ◌∷◌, Memᴰ}
use native.Mathlib.Decide.{ℕ_discrete, dec_lt}
use native.Mathlib.Omega.{arith}
use lib.Dec.{eqb, ltb}
use lib.ListN.{length, take, get_or}
use borrow.Author.Tests.{eq-eqb, ne_eqb}
use Rattle.network.specs.Count.{bit, total}
use Rattle.network.specs.Nearest.{key}
use Rattle.network.specs.Order.{AtLeast, Ordered, times}
use Rattle.network.proofs.Counts.{bit_lt, bit_ge, bit_most, bit_mono, member_at}
use Rattle.network.proofs.Totals.{total_none, total_split, total_single}

abbrev pub AllIn : List (ℕ × ℕ) → List (ℕ × ℕ) → Type 0
AllIn xs ys = (z : ℕ × ℕ) → Memᴰ z xs → Memᴰ z ys

-- nodes are below 4,294,967,296: then a key tells its pair
abbrev pub Small : List (ℕ × ℕ) → Type 0
Small xs = (y : ℕ × ℕ) → Memᴰ y xs → y.0 < 4294967296

pub key_pair : (x y : ℕ × ℕ) → x.0 < 4294967296 → y.0 < 4294967296 → key x ≡ key y → x ≡ y
key_pair x y h l e =
    let d : x.1 ≡ y.1 =
    elim (dec_lt x.1 y.1) [ yes a ↦ absurd (omega arith) | no b ↦ elim (dec_lt y.1 x.1) [ yes a ↦ absurd (omega arith) | no c ↦ omega arith ] ] in
    let p : x.0 ≡ y.0 = omega arith in
    λ k. (p k, d k)

-- the first is the least
pub first_least : {x z : ℕ × ℕ} {xs : List (ℕ × ℕ)} → Ordered (x ∷ xs) → Memᴰ z (x ∷ xs) → key x ≤ key z
first_least {z} r m = ⊎_elim (λ e. omega (arith, ap key e)) (λ t. r.0 z t) (Memᴰ.cases_cons m)

-- what stands at a later place is no less
pub ordered_at : (z : ℕ × ℕ) (xs : List (ℕ × ℕ)) → Ordered xs → (i j : ℕ) → i ≤ j → j < length xs → key (get_or xs i z) ≤ key (get_or xs j z)
ordered_at z [] r i j h l = absurd (omega arith)
ordered_at z (x ∷ xs) r zero zero h l = omega arith
ordered_at z (x ∷ xs) r (suc i) zero h l = absurd (omega arith)
ordered_at z (x ∷ xs) r zero (suc j) h l = r.0 (get_or xs j z) (member_at z xs j (omega arith))
ordered_at z (x ∷ xs) r (suc i) (suc j) h l = ordered_at z xs r.1 i j (omega arith) (omega arith)

-- a member that none comes before stands first
pub record Starts (z : ℕ × ℕ) (xs : List (ℕ × ℕ)) : Type 0 where
  pub rest : List (ℕ × ℕ)
  pub first : xs ≡ z ∷ rest

pub starts : (z : ℕ × ℕ) (xs : List (ℕ × ℕ)) → Ordered xs → Memᴰ z xs → ((y : ℕ × ℕ) → Memᴰ y xs → key y ≤ key z → y ≡ z) → Starts z xs
starts z [] r m h = absurd (Memᴰ.not-nil m)
starts z (x ∷ xs) r m h =
    let e : x ≡ z = h x (Memᴰ.head refl) (first_least r m) in
    record { rest = xs; first = rw e }

-- how many are below k
abbrev pub below : ℕ → List (ℕ × ℕ) → ℕ
below k [] = 0
below k (x ∷ xs) = below k xs + bit (ltb (key x) k)

pub none_below : (k : ℕ) (xs : List (ℕ × ℕ)) → AtLeast k xs → below k xs ≡ 0
none_below k [] h = refl
none_below k (x ∷ xs) h =
    let b = bit_ge (key x) k (h x (Memᴰ.head refl)) in
    omega (arith, none_below k xs (λ y m. h y (Memᴰ.tail m)))

pub all_below : (k : ℕ) (xs : List (ℕ × ℕ)) → ((y : ℕ × ℕ) → Memᴰ y xs → key y < k) → below k xs ≡ length xs
all_below k [] h = refl
all_below k (x ∷ xs) h =
    let b = bit_lt (key x) k (h x (Memᴰ.head refl)) in
    omega (arith, all_below k xs (λ y m. h y (Memᴰ.tail m)))

pub below_most : (k : ℕ) (xs : List (ℕ × ℕ)) → below k xs ≤ length xs
below_most k [] = omega arith
below_most k (x ∷ xs) = omega (arith, below_most k xs, bit_most (ltb (key x) k))

bit_up : (a k l : ℕ) → k ≤ l → bit (ltb a k) ≤ bit (ltb a l)
bit_up a k l h =
    elim (dec_lt a k) [
      | yes y ↦ omega (arith, bit_lt a k y, bit_lt a l (omega arith))
      | no n ↦ omega (arith, bit_ge a k (omega arith))
    ]

pub below_up : (k l : ℕ) (xs : List (ℕ × ℕ)) → k ≤ l → below k xs ≤ below l xs
below_up k l [] h = omega arith
below_up k l (x ∷ xs) h = omega (arith, below_up k l xs h, bit_up (key x) k l h)

-- all are below, where as many are as there are
pub below_all : (k : ℕ) (xs : List (ℕ × ℕ)) → length xs ≤ below k xs → (y : ℕ × ℕ) → Memᴰ y xs → key y < k
below_all k [] h y m = absurd (Memᴰ.not-nil m)
below_all k (x ∷ xs) h y m =
    let f = below_most k xs in
    let g = bit_most (ltb (key x) k) in
    ⊎_elim
    (λ e.
    elim (dec_lt (key x) k) [
      | yes l ↦ omega (arith, ap key e)
      | no n ↦ absurd (omega (arith, bit_ge (key x) k (omega arith)))
    ])
    (λ t. below_all k xs (omega arith) y t)
    (Memᴰ.cases_cons m)

-- the places before `below k` hold what is below k, and those from there on what is not
pub at_above : (k : ℕ) (xs : List (ℕ × ℕ)) → Ordered xs → (j : ℕ) → j < below k xs → key (get_or xs j (0, 0)) < k
at_above k [] r j h = absurd (omega arith)
at_above k (x ∷ xs) r j h =
    elim (dec_lt (key x) k) [
      | yes l ↦ by j (λ i m. at_above k xs r.1 i m) h (ap (λ n. below k xs + n) (bit_lt (key x) k l)) l
      | no n ↦
          absurd
          (omega (arith, bit_ge (key x) k (omega arith), none_below k xs (λ y m. omega (arith, r.0 y m))))
    ]
  where
    by : (j : ℕ) → ((i : ℕ) → i < below k xs → key (get_or xs i (0, 0)) < k) → j < below k (x ∷ xs) → below k (x ∷ xs) ≡ below k xs + 1 → key x < k
        → key (get_or (x ∷ xs) j (0, 0)) < k
    by zero ih h e l = l
    by (suc j) ih h e l = ih j (omega arith)

pub at_below : (k : ℕ) (xs : List (ℕ × ℕ)) → Ordered xs → (j : ℕ) → j < length xs → below k xs ≤ j → k ≤ key (get_or xs j (0, 0))
at_below k [] r j l h = absurd (omega arith)
at_below k (x ∷ xs) r zero l h =
    elim (dec_lt (key x) k) [
      | yes m ↦ absurd (omega (arith, bit_lt (key x) k m))
      | no n ↦ omega arith
    ]
at_below k (x ∷ xs) r (suc j) l h =
    elim (dec_lt (key x) k) [
      | yes m ↦ at_below k xs r.1 j (omega arith) (omega (arith, bit_lt (key x) k m))
      | no n ↦ omega (arith, r.0 (get_or xs j (0, 0)) (member_at (0, 0) xs j (omega arith)))
    ]

-- a place is not behind its own key
pub place_own : (xs : List (ℕ × ℕ)) → Ordered xs → (j : ℕ) → j < length xs → j < below (suc (key (get_or xs j (0, 0)))) xs
place_own xs r j l =
    elim (dec_lt j (below (suc (key (get_or xs j (0, 0)))) xs)) [
      | yes h ↦ h
      | no n ↦ absurd (omega (arith, at_below (suc (key (get_or xs j (0, 0)))) xs r j l (omega arith)))
    ]

-- the first K
pub take_all_in : (K : ℕ) (xs : List (ℕ × ℕ)) → AllIn (take K xs) xs
take_all_in zero xs z m = absurd (Memᴰ.not-nil m)
take_all_in (suc K) [] z m = m
take_all_in (suc K) (x ∷ xs) z m = ⊎_elim (λ e. Memᴰ.head e) (λ t. Memᴰ.tail (take_all_in K xs z t)) (Memᴰ.cases_cons m)

pub take_ordered : (K : ℕ) (xs : List (ℕ × ℕ)) → Ordered xs → Ordered (take K xs)
take_ordered zero xs r = tt
take_ordered (suc K) [] r = tt
take_ordered (suc K) (x ∷ xs) r = (λ y m. r.0 y (take_all_in K xs y m), take_ordered K xs r.1)

pub take_few : (K k : ℕ) (xs : List (ℕ × ℕ)) → Ordered xs → below k (take K xs) ≡ min K (below k xs)
take_few zero k xs r = omega arith
take_few (suc K) k [] r = omega arith
take_few (suc K) k (x ∷ xs) r =
    elim (dec_lt (key x) k) [
      | yes l ↦ omega (arith, bit_lt (key x) k l, take_few K k xs r.1)
      | no n ↦
          omega (
            arith,
            bit_ge (key x) k (omega arith),
            none_below k xs (λ y m. omega (arith, r.0 y m)),
            none_below k (take K xs) (λ y m. omega (arith, r.0 y (take_all_in K xs y m))),
          )
    ]

pub take_below : (K : ℕ) (xs : List (ℕ × ℕ)) (z : ℕ × ℕ) → Ordered xs → Memᴰ z (take K xs) → below (key z) xs < K
take_below zero xs z r m = absurd (Memᴰ.not-nil m)
take_below (suc K) [] z r m = absurd (Memᴰ.not-nil m)
take_below (suc K) (x ∷ xs) z r m =
    let b = bit_most (ltb (key x) (key z)) in
    ⊎_elim
    (λ e. omega (arith, bit_ge (key x) (key z) (omega (arith, ap key e)), none_below (key z) xs (λ y n. omega (arith, r.0 y n, ap key e))))
    (λ t. omega (arith, take_below K xs z r.1 t))
    (Memᴰ.cases_cons m)

-- z stands among the first K, where fewer than K come before it, and it alone has its key
pub below_take : (K : ℕ) (xs : List (ℕ × ℕ)) (z : ℕ × ℕ) → Ordered xs → ((y : ℕ × ℕ) → Memᴰ y xs → key y ≡ key z → y ≡ z) → Memᴰ z xs
    → below (key z) xs < K → Memᴰ z (take K xs)
below_take zero xs z r s m h = absurd (omega arith)
below_take (suc K) [] z r s m h = absurd (Memᴰ.not-nil m)
below_take (suc K) (x ∷ xs) z r s m h =
    ⊎_elim
    (λ e. Memᴰ.head e)
    (λ t.
    elim (dec_lt (key x) (key z)) [
      | yes l ↦ Memᴰ.tail (below_take K xs z r.1 (λ y n. s y (Memᴰ.tail n)) t (omega (arith, bit_lt (key x) (key z) l)))
      | no l ↦ Memᴰ.head (sym (s x (Memᴰ.head refl) (omega (arith, r.0 z t))))
    ])
    (Memᴰ.cases_cons m)

-- a list is known by how many come before each key
first_not_above : (x y : ℕ × ℕ) (xs ys : List (ℕ × ℕ)) → Ordered (y ∷ ys) → ((k : ℕ) → below k (x ∷ xs) ≡ below k (y ∷ ys)) → key y ≤ key x
first_not_above x y xs ys r h =
    elim (dec_lt (key x) (key y)) [
      | yes l ↦
          absurd
          (omega (
            arith,
            h (suc (key x)),
            bit_lt (key x) (suc (key x)) (omega arith),
            none_below (suc (key x)) (y ∷ ys) (λ z m. omega (arith, first_least r m)),
          ))
      | no n ↦ omega arith
    ]

pub same_below : (xs ys : List (ℕ × ℕ)) → Ordered xs → Ordered ys → Small xs → Small ys → ((k : ℕ) → below k xs ≡ below k ys) → xs ≡ ys
same_below [] [] r s a b h = refl
same_below [] (y ∷ ys) r s a b h = absurd (omega (arith, h (suc (key y)), bit_lt (key y) (suc (key y)) (omega arith)))
same_below (x ∷ xs) [] r s a b h = absurd (omega (arith, h (suc (key x)), bit_lt (key x) (suc (key x)) (omega arith)))
same_below (x ∷ xs) (y ∷ ys) r s a b h =
    let c = first_not_above x y xs ys s h in
    let d = first_not_above y x ys xs r (λ k. sym (h k)) in
    let e : x ≡ y = key_pair x y (a x (Memᴰ.head refl)) (b y (Memᴰ.head refl)) (omega arith) in
    let q = same_below xs ys r.1 s.1 (λ z m. a z (Memᴰ.tail m)) (λ z m. b z (Memᴰ.tail m)) (λ k. omega (arith, h k, ap (λ z. bit (ltb (key z) k)) e)) in
    λ k. e k ∷ q k

-- how often node p stands below k; together they are all that are below k
abbrev pub copies : ℕ → ℕ → List (ℕ × ℕ) → ℕ
copies k p [] = 0
copies k p (x ∷ xs) = copies k p xs + bit (eqb x.0 p && ltb (key x) k)

pub sum_copies : (k n : ℕ) (xs : List (ℕ × ℕ)) → ((y : ℕ × ℕ) → Memᴰ y xs → y.0 < n) → total (λ p. copies k p xs) n ≡ below k xs
sum_copies k n [] h = total_none (λ p. 0) n (λ x l. refl)
sum_copies k n (x ∷ xs) h =
    omega (
      arith,
      total_split (λ p. copies k p (x ∷ xs)) (λ p. copies k p xs) (λ p. bit (eqb x.0 p && ltb (key x) k)) n (λ p l. refl),
      sum_copies k n xs (λ y m. h y (Memᴰ.tail m)),
      total_single (λ p. bit (eqb x.0 p && ltb (key x) k)) x.0 n (h x (Memᴰ.head refl)) other,
      own,
    )
  where
    other : (p : ℕ) → p ≢ x.0 → bit (eqb x.0 p && ltb (key x) k) ≡ 0
    other p m = rw (ne_eqb x.0 p (λ e. m (sym e)))

    own : bit (eqb x.0 x.0 && ltb (key x) k) ≡ bit (ltb (key x) k)
    own = rw (eq-eqb x.0 x.0 refl)

pub copies_most : (k p : ℕ) (xs : List (ℕ × ℕ)) → copies k p xs ≤ times p xs
copies_most k p [] = omega arith
copies_most k p (x ∷ xs) = omega (arith, copies_most k p xs, bit_mono (eqb x.0 p && ltb (key x) k) (eqb x.0 p) (λ e. left (eqb x.0 p) (ltb (key x) k) e))
  where
    left : (a b : Bool) → (a && b) ≡ true → a ≡ true
    left true b e = refl
    left false b e = e

-- where each entry of p is below k, all of them are
pub copies_all : (k p : ℕ) (xs : List (ℕ × ℕ)) → ((d : ℕ) → Memᴰ (p, d) xs → key (p, d) < k) → copies k p xs ≡ times p xs
copies_all k p [] h = refl
copies_all k p (x ∷ xs) h =
    let r = copies_all k p xs (λ d m. h d (Memᴰ.tail m)) in
    elim (ℕ_discrete x.0 p) [
      | yes e ↦
          let l = h x.1 (Memᴰ.head (λ j. (sym e j, x.1))) in
          rw (eq-eqb x.0 p e) (omega (arith, bit_lt (key x) k (omega (arith, e, l))))
      | no n ↦ rw (ne_eqb x.0 p n) (omega arith)
    ]

-- an entry that a count counts
pub record Copy (k p : ℕ) (xs : List (ℕ × ℕ)) : Type 0 where
  pub far : ℕ
  pub mem : Memᴰ (p, far) xs
  pub low : key (p, far) < k

pub copies_some : (k p : ℕ) (xs : List (ℕ × ℕ)) → (copies k p xs ≡ 0) ⊎ Copy k p xs
copies_some k p [] = inl refl
copies_some k p (x ∷ xs) =
    ⊎_elim
    (λ (z : copies k p xs ≡ 0).
    elim (ℕ_discrete x.0 p) [
      | yes e ↦
          elim (dec_lt (key x) k) [
            | yes l ↦ inr (record { far = x.1; mem = Memᴰ.head (λ j. (sym e j, x.1)); low = omega (arith, e, l) })
            | no n ↦ inl (rw (eq-eqb x.0 p e) (omega (arith, bit_ge (key x) k (omega arith))))
          ]
      | no n ↦ inl (rw (ne_eqb x.0 p n) (omega arith))
    ])
    (λ c. inr (record { far = c.far; mem = Memᴰ.tail c.mem; low = c.low }))
    (copies_some k p xs)

pub record Occurs (p : ℕ) (xs : List (ℕ × ℕ)) : Type 0 where
  pub far : ℕ
  pub mem : Memᴰ (p, far) xs

pub times_some : (p : ℕ) (xs : List (ℕ × ℕ)) → (times p xs ≡ 0) ⊎ Occurs p xs
times_some p [] = inl refl
times_some p (x ∷ xs) =
    ⊎_elim
    (λ (z : times p xs ≡ 0).
    elim (ℕ_discrete x.0 p) [
      | yes e ↦ inr (record { far = x.1; mem = Memᴰ.head (λ j. (sym e j, x.1)) })
      | no n ↦ inl (rw (ne_eqb x.0 p n) (omega arith))
    ])
    (λ c. inr (record { far = c.far; mem = Memᴰ.tail c.mem }))
    (times_some p xs)

pub times_none : (p : ℕ) (xs : List (ℕ × ℕ)) → ((d : ℕ) → Memᴰ (p, d) xs → ⊥) → times p xs ≡ 0
times_none p [] h = refl
times_none p (x ∷ xs) h =
    let n : x.0 ≢ p = λ e. h x.1 (Memᴰ.head (λ j. (sym e j, x.1))) in
    rw (ne_eqb x.0 p n) (omega (arith, times_none p xs (λ d m. h d (Memᴰ.tail m))))

-- the entries of p are those of one key
pub times_level : (p k : ℕ) (xs : List (ℕ × ℕ)) → ((y : ℕ × ℕ) → Memᴰ y xs → (y.0 ≡ p → key y ≡ k) × (key y ≡ k → y.0 ≡ p))
    → times p xs + below k xs ≡ below (suc k) xs
times_level p k [] h = refl
times_level p k (x ∷ xs) h =
    let r = times_level p k xs (λ y m. h y (Memᴰ.tail m)) in
    let q = h x (Memᴰ.head refl) in
    elim (ℕ_discrete x.0 p) [
      | yes e ↦
          let l = q.0 e in
          rw (eq-eqb x.0 p e) (omega (arith, bit_ge (key x) k (omega arith), bit_lt (key x) (suc k) (omega arith)))
      | no n ↦
          let o : key x ≢ k = λ e. n (q.1 e) in
          rw (ne_eqb x.0 p n)
          (elim (dec_lt (key x) k) [
            | yes l ↦ omega (arith, bit_lt (key x) k l, bit_lt (key x) (suc k) (omega arith))
            | no m ↦ omega (arith, bit_ge (key x) k (omega arith), bit_ge (key x) (suc k) (omega arith))
          ])
    ]
