-- At one locker a node at most, a node weighs what it counts.
-- Assumes nothing.
use Prim.Native.Nat.{ℕ, zero, suc, ◌-◌, ◌≤◌}
use mathlib.Core.Path.{◌≡◌, refl}
use mathlib.Core.Bool.{Bool, true, false, not, ◌&&◌}
use mathlib.Core.List.{List}
use native.Mathlib.Omega.{arith}
use lib.Dec.{eqb, ltb}
use Rattle.network.specs.Network.{Network, node_count}
use Rattle.network.specs.Distance.{dist}
use Rattle.network.specs.Count.{bit, count, total, weighed}
use Rattle.network.specs.Points.{lockers, is_nearer, count_nearer, others_nearer}
use Rattle.network.specs.Nearest.{insert_times, by_distance}
use Rattle.network.specs.Single.{Single, is_other, insert_if, AsBefore}

-- each weight is 1 where the test passes, and 0 elsewhere
sum_count : (t : ℕ → Bool) (w : ℕ → ℕ) (n : ℕ) → ((x : ℕ) → w x ≡ bit (t x)) → total w n ≡ count t n
unfolding total count
sum_count t w zero h = refl
sum_count t w (suc n) h = rw (sum_count t w n h, h n)

-- a byte of 0 or 1, by cases
byte : (w : ℕ) → w ≤ 1 → (b : Bool) → weighed (ltb 0 w && b) w ≡ bit (ltb 0 w && b)
byte zero h b = refl
byte (suc zero) h true = refl
byte (suc zero) h false = refl
byte (suc (suc w)) h b = absurd (omega arith)

other : (w : ℕ) → w ≤ 1 → (b own : Bool) → weighed (ltb 0 w && b) (w - bit own) ≡ bit (not own && (ltb 0 w && b))
other zero h b true = refl
other zero h b false = refl
other (suc zero) h true true = refl
other (suc zero) h true false = refl
other (suc zero) h false true = refl
other (suc zero) h false false = refl
other (suc (suc w)) h b own = absurd (omega arith)

one : (w : ℕ) → w ≤ 1 → ltb 0 w ≡ eqb w 1
one zero h = refl
one (suc zero) h = refl
one (suc (suc w)) h = absurd (omega arith)

times : (w : ℕ) → w ≤ 1 → (b : Bool) (x : ℕ × ℕ) (ys : List (ℕ × ℕ)) → insert_times (weighed (ltb 0 w && b) w) x ys ≡ insert_if (ltb 0 w && b) x ys
unfolding insert_times
times zero h b x ys = refl
times (suc zero) h true x ys = refl
times (suc zero) h false x ys = refl
times (suc (suc w)) h b x ys = absurd (omega arith)

pub single : (g : Network) (P : List ℕ) → Single P → AsBefore g P
unfolding is_nearer count_nearer others_nearer by_distance
single g P s =
    record {
      mark = λ p. one (lockers P p) (s p);
      nearer =
          λ m e.
          sum_count (is_nearer g P m e) (λ x. weighed (is_nearer g P m e x) (lockers P x)) (node_count g) (λ x. byte (lockers P x) (s x) (ltb (dist g m x) e));
      others =
          λ p e.
          sum_count (is_other g P p e) (λ x. weighed (is_nearer g P p e x) (lockers P x - bit (eqb x p))) (node_count g)
          (λ x. other (lockers P x) (s x) (ltb (dist g p x) e) (eqb x p));
      ordered = λ i e n. times (lockers P n) (s n) (ltb (dist g i n) e) (n, dist g i n) (by_distance g P i e n);
    }
