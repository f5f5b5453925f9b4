-- Document 01, 'The network': the three lent arrays, and the arcs that they hold.
-- Assumes nothing.
use Rattle.std.specs.Prelude.{ℕ, zero, suc, ◌+◌, ◌-◌, ◌≤◌, ◌<◌, ◌≡◌, List, [], ◌∷◌, length, get_or, take, drop}

-- 'Three lent arrays of 32-bit unsigned numbers: starts (n + 1 entries), neighbours and weights (A entries each, A the number of arcs).'
pub record Network : Type 0 where
  pub starts : List ℕ
  pub neighbours : List ℕ
  pub weights : List ℕ

-- the network of three arrays
abbrev pub network : List ℕ → List ℕ → List ℕ → Network
network starts neighbours weights = record { starts = starts; neighbours = neighbours; weights = weights }

-- 'Nodes (junctions) are 0 to n - 1.' n, and A
abbrev pub node_count : Network → ℕ
node_count g = length g.starts - 1

abbrev pub arc_count : Network → ℕ
arc_count g = length g.neighbours

-- where the arcs of node a start, the node that arc e leads to, and its weight
abbrev pub start_of : Network → ℕ → ℕ
start_of g a = get_or g.starts a 0

abbrev pub target : Network → ℕ → ℕ
target g e = get_or g.neighbours e 0

abbrev pub weight_of : Network → ℕ → ℕ
weight_of g e = get_or g.weights e 0

-- 'The arcs of node i have the indices from starts[i] up to, not including, starts[i + 1].' An arc from a to b of weight w, with its index
pub record Arc (g : Network) (a b w : ℕ) : Type 0 where
  pub index : ℕ
  pub from : start_of g a ≤ index
  pub below : index < start_of g (suc a)
  pub leads : target g index ≡ b
  pub weighs : weight_of g index ≡ w

-- the k arcs from index e on, and all arcs of node a, as pairs of a node and a weight
unfoldable pub arcs_from : Network → ℕ → ℕ → List (ℕ × ℕ)
arcs_from g e zero = []
arcs_from g e (suc k) = (target g e, weight_of g e) ∷ arcs_from g (suc e) k

unfoldable pub arcs_of : Network → ℕ → List (ℕ × ℕ)
arcs_of g a = arcs_from g (start_of g a) (start_of g (suc a) - start_of g a)

-- 'Inside the engine the arcs of a node are handed out as the part of the caller's arrays that they are.' Node i's part of an array with an
-- entry for each arc
unfoldable pub part_of : List ℕ → List ℕ → ℕ → List ℕ
part_of starts entries i = take (get_or starts (i + 1) 0 - get_or starts i 0) (drop (get_or starts i 0) entries)

abbrev pub neighbours_of : Network → ℕ → List ℕ
neighbours_of g a = part_of g.starts g.neighbours a

abbrev pub weights_of : Network → ℕ → List ℕ
weights_of g a = part_of g.starts g.weights a
