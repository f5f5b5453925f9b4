-- One more locker at a node, or one fewer: document 01, 'The table', and Ask 8: 'Insert adds one, remove takes one'.
-- Assumes nothing.
use Rattle.std.specs.Prelude.{ℕ, suc, ◌<◌, ◌≡◌, ◌≢◌, List}
use Rattle.network.specs.Network.{Network}
use Rattle.network.specs.Distance.{NONE, dist}
use Rattle.network.specs.Points.{lockers}
use Rattle.network.specs.Nearest.{key}
use Rattle.network.specs.Order.{before}

-- P' has one more locker at x than P
pub record Added (P P' : List ℕ) (x : ℕ) : Type 0 where
  pub one : lockers P' x ≡ suc (lockers P x)
  pub others : (y : ℕ) → y ≢ x → lockers P' y ≡ lockers P y

-- the row of i has a place for one more locker at x: it is reached, and fewer than K stand at or before its key
pub record Gains (g : Network) (P : List ℕ) (K i x : ℕ) : Type 0 where
  pub reach : dist g i x < NONE
  pub room : before g P i NONE (suc (key (x, dist g i x))) < K
