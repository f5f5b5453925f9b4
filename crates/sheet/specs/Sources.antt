-- The nodes with a site wait, each at label 0: where the expansion from all sites begins. Its area is the first 4 n words.
-- Assumes nothing.
use Rattle.std.specs.Prelude.{ℕ, ◌*◌, ◌≤◌, ◌<◌, ◌≡◌, ◌&&◌, List, ltb, length}
use Rattle.network.specs.Points.{marked}
use Rattle.expansion.specs.Area.{Blank, Area}
use Rattle.expansion.specs.Expand.{is_waiting}

pub record CanStart (n : ℕ) (xs : List ℕ) : Type 0 where
  pub few : n ≤ 65535
  pub blank : Blank xs 0
  pub room : 4 * n ≤ length xs

-- the nodes below `end` with a site wait, and no others
pub record Started (n : ℕ) (T xs ys : List ℕ) (end len : ℕ) : Type 0 where
  pub size : length ys ≡ length xs
  pub area : Area n ys 0 0 len
  pub waits : (v : ℕ) → v < n → is_waiting ys 0 v ≡ (ltb v end && marked T v)
