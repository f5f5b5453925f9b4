-- What `remove` requires. Document 01, 'The table', with Ask 8: 'remove takes one'. What it leaves is `UpdateLeft` of the bytes with one less.
-- Words of scratch: short flags n | queue.
-- Assumes nothing.
use Rattle.std.specs.Prelude.{ℕ, ◌+◌, ◌*◌, ◌≤◌, ◌<◌, ◌≡◌, true, List, length}
use Rattle.network.specs.Network.{Network, node_count, arc_count}
use Rattle.network.specs.Accepted.{Accepted}
use Rattle.network.specs.Points.{marked}
use Rattle.expansion.specs.Area.{Blank}
use Rattle.network.specs.Rows.{Sized}

-- an accepted network with a byte for each node, a node that is a point, words that are all 0, and two arrays of n rows of K places, of any contents
pub record CanRemove (g : Network) (P xs ids dists : List ℕ) (x K : ℕ) : Type 0 where
  pub accepted : Accepted g
  pub points : length P ≡ node_count g
  pub inside : x < node_count g
  pub is_point : marked P x ≡ true
  pub least : 2 ≤ K
  pub most : K ≤ 17
  pub sized : Sized g K ids dists
  pub blank : Blank xs 0
  pub room : node_count g + 2 * (node_count g + arc_count g) ≤ length xs
