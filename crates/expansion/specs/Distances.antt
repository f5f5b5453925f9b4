-- What the distances expansion leaves: the area blank, and the distances in the answer array.
-- Assumes nothing.
use Rattle.std.specs.Prelude.{ℕ, ◌≡◌, List}
use Rattle.network.specs.Network.{Network}
use Rattle.network.specs.Distance.{distances_from}
use Rattle.network.specs.Answers.{answered}
use Rattle.expansion.specs.Area.{Wiped}

pub record DistancesLeft (g : Network) (source : ℕ) (xs ys old new : List ℕ) : Type 0 where
  pub area : Wiped xs ys 0
  pub answers : new ≡ answered (distances_from g source) old
