-- Laws of `total` and `sum_over`: weights that are no more, the same, none, a sum of two, a multiple, or differ at one number alone; the weights of pairs,
-- in either order; and the weights of different numbers.
-- Assumes nothing.
use Prim.Native.Nat.{ℕ, zero, suc, ◌+◌, ◌*◌, ◌≤◌, ◌<◌}
use mathlib.Core.Path.{◌≡◌, refl, sym, ap, ◌∙◌}
use mathlib.Core.Bool.{Bool, true, false}
use mathlib.Core.Logic.{◌≢◌, ⊎_elim}
use native.Mathlib.Nat.{mul-add}
use native.Mathlib.Decide.{ℕ_discrete}
use native.Mathlib.Numerals.{add-one}
use native.Mathlib.Omega.{arith}
use Rattle.network.specs.Count.{bit, count, total, weighed, sum_over}
use Rattle.network.proofs.Tests.{bool_cases}
use Rattle.network.proofs.Counts.{without, without_other, without_self}

pub total_le : (v w : ℕ → ℕ) (n : ℕ) → ((x : ℕ) → x < n → v x ≤ w x) → total v n ≤ total w n
unfolding total
total_le v w zero h = omega arith
total_le v w (suc n) h = omega (arith, total_le v w n (λ x l. h x (omega arith)), h n (omega arith))

pub total_same : (v w : ℕ → ℕ) (n : ℕ) → ((x : ℕ) → x < n → w x ≡ v x) → total w n ≡ total v n
unfolding total
total_same v w zero h = refl
total_same v w (suc n) h = omega (arith, total_same v w n (λ x l. h x (omega arith)), h n (omega arith))

pub total_none : (w : ℕ → ℕ) (n : ℕ) → ((x : ℕ) → x < n → w x ≡ 0) → total w n ≡ 0
unfolding total
total_none w zero h = refl
total_none w (suc n) h = omega (arith, total_none w n (λ x l. h x (omega arith)), h n (omega arith))

-- as many as pass, where each weighs 1
pub total_bits : (t : ℕ → Bool) (n : ℕ) → total (λ x. bit (t x)) n ≡ count t n
unfolding total count
total_bits t zero = refl
total_bits t (suc n) = omega (arith, total_bits t n)

-- each weighs what two others do together
pub total_split : (u v w : ℕ → ℕ) (n : ℕ) → ((x : ℕ) → x < n → u x ≡ v x + w x) → total u n ≡ total v n + total w n
unfolding total
total_split u v w zero h = refl
total_split u v w (suc n) h = omega (arith, total_split u v w n (λ x l. h x (omega arith)), h n (omega arith))

-- each weighs a multiple of another
pub total_times : (c : ℕ) (w : ℕ → ℕ) (n : ℕ) → total (λ x. c * w x) n ≡ c * total w n
unfolding total
total_times c w zero = omega arith
total_times c w (suc n) = omega (arith, total_times c w n, mul-add c (total w n) (w n))

-- what pairs weigh is added up in either order
pub total_order : (f : ℕ → ℕ → ℕ) (m n : ℕ) → total (λ x. total (f x) n) m ≡ total (λ y. total (λ x. f x y) m) n
unfolding total
total_order f zero n = sym (total_none (λ _. 0) n (λ y l. refl))
total_order f (suc m) n = omega (arith, total_order f m n, total_split (λ y. total (λ x. f x y) (suc m)) (λ y. total (λ x. f x y) m) (f m) n (λ y l. refl))

-- one number more, and as many as there are
pub total_next : (w : ℕ → ℕ) (n : ℕ) → total w (n + 1) ≡ total w n + w n
unfolding total
total_next w n = ap (total w) (add-one n)

pub total_upto : (w : ℕ → ℕ) (i n : ℕ) → i ≤ n → total w i ≤ total w n
unfolding total
total_upto w i zero h = omega (arith, ap (total w) (le_zero i h))
  where
    le_zero : (i : ℕ) → i ≤ 0 → i ≡ 0
    le_zero i h = omega arith
total_upto w i (suc n) h =
    elim (ℕ_discrete i (suc n)) [
      | yes e ↦ rw e (omega arith)
      | no m ↦ omega (arith, total_upto w i n (omega arith))
    ]

-- weights that differ at v alone
pub total_at : (t u : ℕ → ℕ) (v n : ℕ) → v < n → ((x : ℕ) → x < n → x ≢ v → u x ≡ t x) → total u n + t v ≡ total t n + u v
unfolding total
total_at t u v zero l h = absurd (omega arith)
total_at t u v (suc n) l h =
    elim (ℕ_discrete n v) [
      | yes e ↦ rw e (omega (arith, total_same t u v (λ x i. h x (omega arith) (λ q. omega arith))))
      | no m ↦ omega (arith, total_at t u v n (omega arith) (λ x i. h x (omega arith)), h n (omega arith) m)
    ]

-- weights that are no less, and more at v
pub total_more : (a b : ℕ → ℕ) (v c n : ℕ) → v < n → ((x : ℕ) → x < n → a x ≤ b x) → a v + c ≤ b v → total a n + c ≤ total b n
unfolding total
total_more a b v c zero l h m = absurd (omega arith)
total_more a b v c (suc n) l h m =
    elim (ℕ_discrete n v) [
      | yes e ↦ rw e (omega (arith, total_le a b v (λ x i. h x (omega arith)), m))
      | no o ↦ omega (arith, total_more a b v c n (omega arith) (λ x i. h x (omega arith)) m, h n (omega arith))
    ]

-- one number alone weighs something
pub total_single : (w : ℕ → ℕ) (v n : ℕ) → v < n → ((x : ℕ) → x ≢ v → w x ≡ 0) → total w n ≡ w v
total_single w v n l h =
    omega (arith, total_at (λ _. 0) w v n l (λ x i m. h x m), total_none (λ _. 0) n (λ x i. refl))

-- those that pass a test
pub weighed_le : (x y : Bool) (v w : ℕ) → (x ≡ true → (y ≡ true) × (v ≤ w)) → weighed x v ≤ weighed y w
weighed_le true y v w h = rw (h refl).0 (h refl).1
weighed_le false y v w h = omega arith

pub weighed_most : (x : Bool) (w : ℕ) → weighed x w ≤ w
weighed_most true w = omega arith
weighed_most false w = omega arith

pub weighed_bit : (x : Bool) (w : ℕ) → w * bit x ≡ weighed x w
weighed_bit true w = omega arith
weighed_bit false w = omega arith

pub weighed_none : (x : Bool) (w : ℕ) → (x ≡ true → w ≡ 0) → weighed x w ≡ 0
weighed_none true w h = h refl
weighed_none false w h = refl

pub sum_le : (t u : ℕ → Bool) (v w : ℕ → ℕ) (n : ℕ) → ((x : ℕ) → x < n → t x ≡ true → (u x ≡ true) × (v x ≤ w x)) → sum_over t v n ≤ sum_over u w n
sum_le t u v w n h =
    total_le (λ x. weighed (t x) (v x)) (λ x. weighed (u x) (w x)) n (λ x l. weighed_le (t x) (u x) (v x) (w x) (h x l))

pub sum_mono : (t u : ℕ → Bool) (w : ℕ → ℕ) (n : ℕ) → ((x : ℕ) → x < n → t x ≡ true → u x ≡ true) → sum_over t w n ≤ sum_over u w n
sum_mono t u w n h = sum_le t u w w n (λ x l a. (h x l a, omega arith))

pub sum_none : (t : ℕ → Bool) (w : ℕ → ℕ) (n : ℕ) → ((x : ℕ) → x < n → t x ≡ true → w x ≡ 0) → sum_over t w n ≡ 0
sum_none t w n h = total_none (λ x. weighed (t x) (w x)) n (λ x l. weighed_none (t x) (w x) (h x l))

-- all but one that passes
sum_without : (t : ℕ → Bool) (w : ℕ → ℕ) (a n : ℕ) → a < n → t a ≡ true → sum_over (without t a) w n + w a ≡ sum_over t w n
sum_without t w a n h e =
    omega (
      arith,
      total_at (λ x. weighed (t x) (w x)) (λ x. weighed (without t a x) (w x)) a n h (λ x i m. ap (λ b. weighed b (w x)) (without_other t a x m)),
      ap (λ b. weighed b (w a)) (without_self t a),
      ap (λ b. weighed b (w a)) e,
    )

-- different numbers below n that pass: together they weigh no more than all
pub sum_different : (s t : ℕ → Bool) (f w : ℕ → ℕ) (n k : ℕ) → ((j : ℕ) → j < k → s j ≡ true → (f j < n) × (t (f j) ≡ true))
    → ((i j : ℕ) → i < k → j < k → s i ≡ true → s j ≡ true → f i ≡ f j → i ≡ j) → sum_over s (λ j. w (f j)) k ≤ sum_over t w n
unfolding total
sum_different s t f w n zero pass other = omega arith
sum_different s t f w n (suc k) pass other =
    ⊎_elim
    (λ e.
    omega (
      arith,
      ap (λ b. weighed b (w (f k))) e,
      sum_without t w (f k) n (pass k (omega arith) e).0 (pass k (omega arith) e).1,
      sum_different s (without t (f k)) f w n k
          (λ j h a. (
            (pass j (omega arith) a).0,
            without_other t (f k) (f j) (λ q. omega (arith, other j k (omega arith) (omega arith) a e q)) ∙ (pass j (omega arith) a).1,
          ))
          (λ i j h l. other i j (omega arith) (omega arith)),
    ))
    (λ e.
    omega (
      arith,
      ap (λ b. weighed b (w (f k))) e,
      sum_different s t f w n k (λ j h. pass j (omega arith)) (λ i j h l. other i j (omega arith) (omega arith)),
    ))
    (bool_cases (s k))
