-- What the functions over a node's parts require and ensure. (No sentence of document 01: the number of the check is Check.antt's.)
-- Assumes nothing.
use Rattle.std.specs.Prelude.{ℕ, ◌+◌, ◌≤◌, ◌<◌, List, length, get_or}
use Rattle.network.specs.Network.{Network, neighbours_of}
use Rattle.network.specs.Answers.{Ascending}

-- node i has a part of an array; each node has one
pub record HasPart (starts entries : List ℕ) (i : ℕ) : Type 0 where
  pub node : i + 1 < length starts
  pub ordered : get_or starts i 0 ≤ get_or starts (i + 1) 0
  pub within : get_or starts (i + 1) 0 ≤ length entries

pub record Parts (starts entries : List ℕ) : Type 0 where
  pub some : 1 ≤ length starts
  pub part : (i : ℕ) → i + 1 < length starts → HasPart starts entries i

-- an arc between two nodes can be looked for: numbers 1 to 3 are not met
pub record Searchable (g : Network) : Type 0 where
  pub neighbours : Parts g.starts g.neighbours
  pub weights : Parts g.starts g.weights
  pub inside : (a j : ℕ) → a + 1 < length g.starts → j < length (neighbours_of g a) → get_or (neighbours_of g a) j 0 + 1 < length g.starts
  pub ascending : (a : ℕ) → a + 1 < length g.starts → Ascending (neighbours_of g a)
