-- S is enough for the words that each call's work uses.
-- Assumes nothing.
use Prim.Native.Nat.{ℕ, ◌+◌, ◌*◌, ◌≤◌}
use native.Mathlib.Nat.{mul-le-mul_left, mul-le-mul_right}
use native.Mathlib.Omega.{arith}
use Rattle.network.specs.Network.{Network, node_count, arc_count}
use Rattle.network.specs.Scratch.{scratch_words}

-- m is at least 1
pub words_enough : (g : Network) (m : ℕ) → 1 ≤ m → 16 * node_count g + 8 * (arc_count g + node_count g) ≤ scratch_words g m
words_enough g m h = omega (arith, mul-le-mul_left (8 * (arc_count g + node_count g)) h)

-- nearest: 3 k + 4 n
pub words_for_search : (g : Network) (k : ℕ) → 1 ≤ k → 1 ≤ node_count g → 3 * k + 4 * node_count g ≤ scratch_words g k
words_for_search g k h some =
    let low : 8 ≤ 8 * (arc_count g + node_count g) = omega arith in
    omega (arith, words_enough g k h, mul-le-mul_right k low)

-- lazy and lazy-EP: 12 n + 2 k (n + A)
pub words_for_lazy : (g : Network) (k : ℕ) → 12 * node_count g + 2 * k * (node_count g + arc_count g) ≤ scratch_words g k
words_for_lazy g k = omega arith

-- build: n + 2 (n + K A)
pub words_for_build : (g : Network) (K : ℕ) → node_count g + 2 * (node_count g + K * arc_count g) ≤ scratch_words g K
words_for_build g K = omega arith
