-- What the functions over two rows ask.
-- Assumes nothing.
use Rattle.std.specs.Prelude.{ℕ, ◌+◌, ◌*◌, ◌≤◌, List, length}

-- row i, of at least one place, lies in the own distances and in the rival's
pub record BothHaveRow (K i : ℕ) (own rival : List ℕ) : Type 0 where
  pub some : 1 ≤ K
  pub in_own : i * K + K ≤ length own
  pub in_rival : i * K + K ≤ length rival
