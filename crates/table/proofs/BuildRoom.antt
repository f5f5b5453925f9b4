-- What the queue of build has room for: its entries, with the arcs of each node once for each free place of its row, are no more than the nodes and K
-- times the arcs.
-- Assumes nothing.
use Prim.Native.Nat.{ℕ, zero, suc, ◌+◌, ◌-◌, ◌*◌, ◌≤◌, ◌<◌}
use mathlib.Core.Path.{◌≡◌, refl, ap, ◌∙◌}
use mathlib.Core.Logic.{◌≢◌}
use mathlib.Core.List.{List}
use native.Mathlib.Decide.{ℕ_discrete}
use native.Mathlib.Nat.{mul-zero, mul-suc, mul-add, mul_comm, mul-le-mul_left}
use native.Mathlib.Omega.{arith}
use lib.ListN.{get_or}
use Rattle.network.specs.Network.{Network, node_count, arc_count, start_of}
use Rattle.network.specs.Accepted.{Accepted}
use Rattle.table.specs.Room.{degree}

-- the arcs of the nodes below n, each once for each free place of its node's row, where the word of a node is the size of its row
unfoldable pub free_arcs : Network → ℕ → List ℕ → ℕ → ℕ
free_arcs g K xs zero = 0
free_arcs g K xs (suc n) = free_arcs g K xs n + degree g n * (K - get_or xs n 0)

module _ (g : Network) (K : ℕ) (xs ys : List ℕ) where
  pub free_same : (n : ℕ) → ((x : ℕ) → x < n → get_or ys x 0 ≡ get_or xs x 0) → free_arcs g K ys n ≡ free_arcs g K xs n
  unfolding free_arcs
  free_same zero h = refl
  free_same (suc n) h = rw (h n (omega arith), free_same n (λ x l. h x (omega arith)))

  -- the row of v takes one entry or more
  pub free_less : (v n : ℕ) → v < n → get_or xs v 0 < get_or ys v 0 → get_or ys v 0 ≤ K → ((x : ℕ) → x < n → x ≢ v → get_or ys x 0 ≡ get_or xs x 0)
      → free_arcs g K ys n + degree g v ≤ free_arcs g K xs n
  unfolding free_arcs
  free_less v zero l a e h = absurd (omega arith)
  free_less v (suc n) l a e h =
      elim (ℕ_discrete n v) [
        | yes q ↦
            let s : suc (K - get_or ys n 0) ≤ K - get_or xs n 0 = omega (arith, ap (λ (x : ℕ). get_or xs x 0) q, ap (λ (x : ℕ). get_or ys x 0) q) in
            omega (
              arith,
              free_same n (λ x i. h x (omega arith) (omega arith)),
              ap (degree g) q,
              mul-le-mul_left (degree g n) s,
              mul-suc (degree g n) (K - get_or ys n 0),
            )
        | no m ↦
            omega (
              arith,
              free_less v n (omega arith) a e (λ x i. h x (omega arith)),
              ap (λ (x : ℕ). degree g n * (K - x)) (h n (omega arith) m),
            )
      ]

-- at first all rows are empty
module _ {g : Network} (ok : Accepted g) (K : ℕ) (xs : List ℕ) (empty : (x : ℕ) → x < node_count g → get_or xs x 0 ≡ 0) where
  free_below : (n : ℕ) → n ≤ node_count g → free_arcs g K xs n ≡ K * start_of g n
  unfolding free_arcs
  free_below zero h = sym_zero
    where
      sym_zero : 0 ≡ K * start_of g 0
      sym_zero = omega (arith, ap (λ (x : ℕ). K * x) ok.starts_zero, mul-zero K)
  free_below (suc n) h =
      let z : K - get_or xs n 0 ≡ K = omega (arith, empty n (omega arith)) in
      let s : start_of g n + degree g n ≡ start_of g (suc n) = omega (arith, ok.rising n (omega arith)) in
      omega (
        arith,
        free_below n (omega arith),
        ap (λ (x : ℕ). degree g n * x) z,
        mul_comm (degree g n) K,
        mul-add K (start_of g n) (degree g n),
        ap (λ (x : ℕ). K * x) s,
      )

  pub free_all : free_arcs g K xs (node_count g) ≡ K * arc_count g
  free_all = free_below (node_count g) (omega arith) ∙ ap (λ (x : ℕ). K * x) ok.ends
