-- The arcs of the nodes that pass a test: how many they are when a node passes no more, and no more than all. Remove's queue has room by them.
-- Assumes nothing.
use Prim.Native.Nat.{ℕ, zero, suc, ◌+◌, ◌≤◌, ◌<◌}
use mathlib.Core.Path.{◌≡◌, refl}
use mathlib.Core.Bool.{Bool, true, false}
use mathlib.Core.Logic.{◌≢◌, ⊎_elim}
use native.Mathlib.Decide.{ℕ_discrete}
use native.Mathlib.Omega.{arith}
use Rattle.network.specs.Network.{Network, node_count, arc_count, start_of}
use Rattle.network.specs.Accepted.{Accepted}
use Rattle.network.proofs.Tests.{bool_cases}
use Rattle.table.specs.Room.{degree, arcs_left}

pub left_same : (g : Network) (t u : ℕ → Bool) (n : ℕ) → ((x : ℕ) → x < n → u x ≡ t x) → arcs_left g u n ≡ arcs_left g t n
unfolding arcs_left
left_same g t u zero h = refl
left_same g t u (suc n) h = rw (h n (omega arith), left_same g t u n (λ x l. h x (omega arith)))

-- v alone passes no more
pub left_less : (g : Network) (t u : ℕ → Bool) (v n : ℕ) → v < n → t v ≡ true → u v ≡ false → ((x : ℕ) → x < n → x ≢ v → u x ≡ t x) → arcs_left g u n + degree g v ≡ arcs_left g t n
unfolding arcs_left
left_less g t u v zero l a b h = absurd (omega arith)
left_less g t u v (suc n) l a b h =
    elim (ℕ_discrete n v) [
      | yes e ↦ rw (e, a, b) (omega (arith, left_same g t u v (λ x i. h x (omega arith) (omega arith))))
      | no m ↦ rw (h n (omega arith) m) (omega (arith, left_less g t u v n (omega arith) a b (λ x i. h x (omega arith))))
    ]

-- no more are left than there are
module _ {g : Network} (ok : Accepted g) (t : ℕ → Bool) where
  left_below : (n : ℕ) → n ≤ node_count g → arcs_left g t n ≤ start_of g n
  unfolding arcs_left
  left_below zero h = omega arith
  left_below (suc n) h =
      ⊎_elim
      (λ e. rw e (omega (arith, left_below n (omega arith), ok.rising n (omega arith))))
      (λ e. rw e (omega (arith, left_below n (omega arith), ok.rising n (omega arith))))
      (bool_cases (t n))

  pub left_most : arcs_left g t (node_count g) ≤ arc_count g
  left_most = omega (arith, left_below (node_count g) (omega arith), ok.ends)
