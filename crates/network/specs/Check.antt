-- Document 01, 'Numbers of refusal', 1 to 5: the number of the network check, by tests in the paper's order. Each test passes where its
-- condition is met.
-- Assumes nothing.
use Rattle.std.specs.Prelude.{ℕ, ◌+◌, ◌-◌, Bool, cond, not, ◌&&◌, ◌||◌, List, eqb, ltb, leb, length, get_or}
use Rattle.network.specs.Count.{any}
use Rattle.network.specs.Network.{Network, node_count, arc_count, part_of, neighbours_of, weights_of}

-- 1: 'starts has fewer than 2 or more than 65,536 entries'
unfoldable pub bad_size : List ℕ → Bool
bad_size starts = ltb (length starts) 2 || ltb 65536 (length starts)

-- 2: 'starts doesn't begin with 0, falls, or doesn't end with A; neighbours and weights differ in length; A above 524,288'
unfoldable pub falls_at : List ℕ → ℕ → Bool
falls_at starts a = ltb (get_or starts (a + 1) 0) (get_or starts a 0)

unfoldable pub bad_starts : Network → Bool
bad_starts g =
    not (eqb (get_or g.starts 0 0) 0)
    || any (falls_at g.starts) (node_count g)
    || not (eqb (get_or g.starts (node_count g) 0) (arc_count g))
    || not (eqb (length g.weights) (length g.neighbours))
    || ltb 524288 (arc_count g)

-- 3: 'a neighbour is n or more, is its own node, or doesn't rise strictly within a node': place j of node a's neighbours, among n nodes
unfoldable pub bad_neighbour_at : ℕ → ℕ → List ℕ → ℕ → Bool
bad_neighbour_at n a neighbours j =
    leb n (get_or neighbours j 0)
    || eqb (get_or neighbours j 0) a
    || (ltb 0 j && leb (get_or neighbours j 0) (get_or neighbours (j - 1) 0))

unfoldable pub bad_part : ℕ → ℕ → List ℕ → Bool
bad_part n a neighbours = any (bad_neighbour_at n a neighbours) (length neighbours)

unfoldable pub bad_neighbours_of : List ℕ → List ℕ → ℕ → Bool
bad_neighbours_of starts neighbours a = bad_part (length starts - 1) a (part_of starts neighbours a)

unfoldable pub bad_neighbours : List ℕ → List ℕ → Bool
bad_neighbours starts neighbours = any (bad_neighbours_of starts neighbours) (length starts - 1)

-- 4: 'a weight is 0 or above 65,535'
unfoldable pub bad_weight_at : List ℕ → ℕ → Bool
bad_weight_at weights e = eqb (get_or weights e 0) 0 || ltb 65535 (get_or weights e 0)

unfoldable pub bad_weights : List ℕ → Bool
bad_weights weights = any (bad_weight_at weights) (length weights)

-- 5: 'an arc lacks its return of equal weight': whether b has an arc to a of weight w; the arc at place j of node a's
unfoldable pub is_arc_at : Network → ℕ → ℕ → ℕ → ℕ → Bool
is_arc_at g b a w i = eqb (get_or (neighbours_of g b) i 0) a && eqb (get_or (weights_of g b) i 0) w

unfoldable pub has_arc : Network → ℕ → ℕ → ℕ → Bool
has_arc g b a w = any (is_arc_at g b a w) (length (neighbours_of g b))

unfoldable pub lacks_return_at : Network → ℕ → ℕ → Bool
lacks_return_at g a j = not (has_arc g (get_or (neighbours_of g a) j 0) a (get_or (weights_of g a) j 0))

unfoldable pub lacks_return_of : Network → ℕ → Bool
lacks_return_of g a = any (lacks_return_at g a) (length (neighbours_of g a))

unfoldable pub lacks_return : Network → Bool
lacks_return g = any (lacks_return_of g) (node_count g)

-- 'Conditions are tried from 1 upward [..]; the first met is returned, and a number is returned only then.'
unfoldable pub network_number : Network → ℕ
network_number g =
    cond (bad_size g.starts) 1
    (cond (bad_starts g) 2
    (cond (bad_neighbours g.starts g.neighbours) 3
    (cond (bad_weights g.weights) 4
    (cond (lacks_return g) 5
    0))))
