-- Document 01, Nearest: 'the points p with d(node, p) < e, e any 32-bit number, by distance then node, cut after the first k'; Ask 8: 'Rows and the
-- nearest call repeat a node for each locker'.
-- Assumes nothing.
use Rattle.std.specs.Prelude.{ℕ, zero, suc, ◌+◌, ◌*◌, true, false, List, [], ◌∷◌, leb, take}
use Rattle.network.specs.Network.{Network, node_count}
use Rattle.network.specs.Count.{weighed}
use Rattle.network.specs.Distance.{dist}
use Rattle.network.specs.Points.{lockers, is_nearer}

-- 'by distance then node': pairs of a node and its distance are ordered by one number, as nodes are below 4,294,967,296 (`key_order`)
abbrev pub key : ℕ × ℕ → ℕ
key x = x.1 * 4294967296 + x.0

-- x in its place among what is in order, behind what has its key; once, and c times
unfoldable pub insert : ℕ × ℕ → List (ℕ × ℕ) → List (ℕ × ℕ)
insert x [] = x ∷ []
insert x (y ∷ ys) = elim (leb (key y) (key x)) [ true ↦ y ∷ insert x ys | false ↦ x ∷ y ∷ ys ]

unfoldable pub insert_times : ℕ → ℕ × ℕ → List (ℕ × ℕ) → List (ℕ × ℕ)
insert_times zero x ys = ys
insert_times (suc c) x ys = insert x (insert_times c x ys)

-- the lockers on nodes below n that are nearer to i than e, in order, each as its node with the distance
unfoldable pub by_distance : Network → List ℕ → ℕ → ℕ → ℕ → List (ℕ × ℕ)
by_distance g P i e zero = []
by_distance g P i e (suc n) = insert_times (weighed (is_nearer g P i e n) (lockers P n)) (n, dist g i n) (by_distance g P i e n)

unfoldable pub nearest : Network → List ℕ → ℕ → ℕ → ℕ → List (ℕ × ℕ)
nearest g P i e k = take k (by_distance g P i e (node_count g))
