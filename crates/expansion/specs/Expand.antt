-- What an expansion requires, and what the expansion of everything leaves, from one node or from several together.
-- Assumes nothing.
use Rattle.std.specs.Prelude.{ℕ, suc, ◌+◌, ◌-◌, ◌*◌, ◌≤◌, ◌<◌, ◌≡◌, Bool, cond, not, List, eqb, leb, length, get_or}
use Rattle.network.specs.Network.{Network, node_count}
use Rattle.network.specs.Accepted.{Accepted}
use Rattle.network.specs.Distance.{NONE, dist, dist_from}
use Rattle.network.specs.Count.{select}
use Rattle.expansion.specs.Area.{queue_base, Area, Kept, Blank}

-- an accepted network, a node to start from, and a blank area from word b on: 4 n words
pub record CanExpand (g : Network) (xs : List ℕ) (b source : ℕ) : Type 0 where
  pub accepted : Accepted g
  pub inside : source < node_count g
  pub blank : Blank xs b
  pub size : queue_base (node_count g) b + 2 * node_count g ≤ length xs

-- the seat of a node at distance d when no node waits: 0 where it can't be reached; and the distance of a seat
unfoldable pub label_word : ℕ → ℕ → ℕ
label_word n d = cond (eqb d NONE) 0 (suc (n + d))

unfoldable pub word_distance : ℕ → ℕ → ℕ
word_distance n word = cond (leb word n) NONE (word - n - 1)

-- what an area tells its readers: the label of node v, NONE where it is not settled; and the node that was settled as number i
abbrev pub label_in : ℕ → List ℕ → ℕ → ℕ → ℕ
label_in n xs b v = word_distance n (get_or xs (b + v) 0)

abbrev pub settled_in : ℕ → List ℕ → ℕ → ℕ → ℕ
settled_in n xs b i = get_or xs (b + n + i) 0

-- every node that can be reached is settled at its distance, and no entry waits
pub record SettledAll (g : Network) (xs ys : List ℕ) (b source settled : ℕ) : Type 0 where
  pub frame : Kept xs ys b
  pub area : Area (node_count g) ys b settled 0
  pub labels : (v : ℕ) → v < node_count g → get_or ys (b + v) 0 ≡ label_word (node_count g) (dist g source v)

-- ---- From several nodes together.

-- the nodes that wait, where none is settled
abbrev pub is_waiting : List ℕ → ℕ → ℕ → Bool
is_waiting xs b v = not (eqb (get_or xs (b + v) 0) 0)

unfoldable pub nodes_waiting : ℕ → List ℕ → ℕ → List ℕ
nodes_waiting n xs b = select (is_waiting xs b) n

-- an accepted network, and an area in which no node is settled: what waits there waits at label 0
pub record CanSettleFrom (g : Network) (xs : List ℕ) (b len : ℕ) : Type 0 where
  pub accepted : Accepted g
  pub area : Area (node_count g) xs b 0 len

-- every node that one of those reaches is settled at the distance of the nearest, and no entry waits
pub record SettledFrom (g : Network) (xs ys : List ℕ) (b settled : ℕ) : Type 0 where
  pub frame : Kept xs ys b
  pub area : Area (node_count g) ys b settled 0
  pub labels : (v : ℕ) → v < node_count g → get_or ys (b + v) 0 ≡ label_word (node_count g) (dist_from g (nodes_waiting (node_count g) xs b) v)
