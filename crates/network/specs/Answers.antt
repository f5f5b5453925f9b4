-- Document 01: 'Answer arrays hold the answer, then their old entries.' 'Lists are ascending by node.' And what is free in a list by an untested table.
-- Assumes nothing.
use Rattle.std.specs.Prelude.{ℕ, suc, ◌<◌, ◌≡◌, Bool, true, List, ◌++◌, length, get_or, drop}
use Rattle.network.specs.Network.{Network, node_count}
use Rattle.network.specs.Count.{select}
use Rattle.network.specs.Points.{marked}

unfoldable pub answered : List ℕ → List ℕ → List ℕ
answered answer old = answer ++ drop (length answer) old

-- a list that rises strictly
pub record Ascending (xs : List ℕ) : Type 0 where
  pub next : (j : ℕ) → suc j < length xs → get_or xs j 0 < get_or xs (suc j) 0

-- On a table that the check would deny, 'the list (marked nodes, ascending) [..] [is] free': the points that pass some test
pub record SomePoints (g : Network) (P old new : List ℕ) (size : ℕ) : Type 0 where
  pub test : ℕ → Bool
  pub points : (p : ℕ) → p < node_count g → test p ≡ true → marked P p ≡ true
  pub answers : new ≡ answered (select test (node_count g)) old
  pub sized : size ≡ length (select test (node_count g))
