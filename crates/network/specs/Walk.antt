-- Document 01: 'd(a, b) is the smallest sum of weights over all walks from a to b'. A walk from a to b along arcs, with its sum.
-- Assumes nothing.
use Rattle.std.specs.Prelude.{ℕ, ◌+◌}
use Rattle.network.specs.Network.{Network, Arc}

pub data Walk (g : Network) : ℕ → ℕ → ℕ → Type 0 where
  here : {a : ℕ} → Walk g a a 0
  step : {a b c w s : ℕ} → Arc g a b w → Walk g b c s → Walk g a c (w + s)
