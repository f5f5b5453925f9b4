-- Document 01: 'd(a, b) is the smallest sum of weights over all walks from a to b; d(a, a) = 0; without a walk b can't be reached.'
-- The distance is computed as the smallest sum over walks of at most n arcs; `Least` says that it is the smallest over all.
-- Assumes nothing.
use Rattle.std.specs.Prelude.{ℕ, zero, suc, ◌+◌, ◌-◌, ◌*◌, ◌≤◌, min, ◌≡◌, ◌≢◌, true, false, List, [], ◌∷◌, eqb}
use Rattle.network.specs.Network.{Network, node_count, arcs_of}
use Rattle.network.specs.Walk.{Walk}
use Rattle.network.specs.Count.{tabulate}

-- 'NONE = 4,294,967,295 [..] stands for "can't be reached" or "empty place".'
abbrev pub NONE : ℕ
NONE = 4294967295

-- 'Every distance is at most 4,294,770,690.'
abbrev pub LONGEST : ℕ
LONGEST = 4294770690

-- w and then v, where v may be NONE
unfoldable pub plus : ℕ → ℕ → ℕ
plus w v = elim (eqb v NONE) [ true ↦ NONE | false ↦ w + v ]

-- the least over the arcs (c, w) of w and then f c
unfoldable pub least_over : (ℕ → ℕ) → List (ℕ × ℕ) → ℕ
least_over f [] = NONE
least_over f (p ∷ ps) = min (plus p.1 (f p.0)) (least_over f ps)

-- the smallest sum over the walks from a to b of at most j arcs
unfoldable pub within : Network → ℕ → ℕ → ℕ → ℕ
within g zero a b = elim (eqb a b) [ true ↦ 0 | false ↦ NONE ]
within g (suc j) a b = elim (eqb a b) [ true ↦ 0 | false ↦ least_over (λ c. within g j c b) (arcs_of g a) ]

-- d(a, b), NONE where b can't be reached
unfoldable pub dist : Network → ℕ → ℕ → ℕ
dist g a b = within g (node_count g) a b

-- 'Distances from a node: n entries, NONE where none.'
unfoldable pub distances_from : Network → ℕ → List ℕ
distances_from g a = tabulate (dist g a) (node_count g)

-- the distance of the node of a list that is nearest to v, NONE where none can be reached
unfoldable pub dist_from : Network → List ℕ → ℕ → ℕ
dist_from g [] v = NONE
dist_from g (s ∷ ss) v = min (dist g s v) (dist_from g ss v)

-- What the distance is, on an accepted network (the theorem is `distance` of proofs/Least.antt): NONE and there is no walk, or the sum of a walk
-- and no more than that of any
pub record Least (g : Network) (a b : ℕ) : Type 0 where
  pub none : dist g a b ≡ NONE → {s : ℕ} → Walk g a b s → ⊥
  pub walk : dist g a b ≢ NONE → Walk g a b (dist g a b)
  pub least_sum : {s : ℕ} → Walk g a b s → dist g a b ≤ s
  pub bound : dist g a b ≢ NONE → dist g a b ≤ 65535 * (node_count g - 1)
  pub limit : dist g a b ≢ NONE → dist g a b ≤ LONGEST
