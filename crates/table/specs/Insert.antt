-- What insert requires. Document 01, 'The table', with Ask 8: 'Insert adds one'. What it leaves is `UpdateLeft` of the bytes with one more. The lent
-- words are the area of one expansion.
-- Assumes nothing.
use Rattle.std.specs.Prelude.{ℕ, ◌<◌, ◌≡◌, List, length}
use Rattle.network.specs.Network.{Network, node_count}
use Rattle.network.specs.Points.{lockers}
use Rattle.expansion.specs.Expand.{CanExpand}
use Rattle.network.specs.Rows.{Sized}

-- an accepted network with a byte for each node, a node with fewer than 15 lockers, words that are all 0 with room for an expansion, and two arrays
-- of n rows of K places, of any contents
pub record CanInsert (g : Network) (P xs ids dists : List ℕ) (x K : ℕ) : Type 0 where
  pub expand : CanExpand g xs 0 x
  pub points : length P ≡ node_count g
  pub room : lockers P x < 15
  pub sized : Sized g K ids dists
