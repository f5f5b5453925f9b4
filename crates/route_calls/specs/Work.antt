-- Records of the work: what a number 0 leaves. No public contract rests on them.
-- Assumes nothing.
use Rattle.std.specs.Prelude.{ℕ, ◌≤◌, ◌<◌, ◌≡◌, true, List, length}
use Rattle.network.specs.Network.{Network, node_count}
use Rattle.network.specs.Accepted.{Accepted}
use Rattle.network.specs.Routes.{on_route}
use Rattle.network.specs.Scratch.{scratch_words}

pub record RouteReady (g : Network) (P R : List ℕ) (k : ℕ) (scratch answers : List ℕ) : Type 0 where
  pub accepted : Accepted g
  pub points : length P ≡ node_count g
  pub inside : (v : ℕ) → on_route R v ≡ true → v < node_count g
  pub some : 1 ≤ k
  pub room : scratch_words g k ≤ length scratch
  pub places : node_count g ≤ length answers
