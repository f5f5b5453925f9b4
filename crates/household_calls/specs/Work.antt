-- Records of the work: what a number 0 leaves. No public contract rests on them.
-- Assumes nothing.
use Rattle.std.specs.Prelude.{ℕ, ◌≤◌, ◌<◌, ◌≡◌, List, length}
use Rattle.network.specs.Network.{Network, node_count}
use Rattle.network.specs.Accepted.{Accepted}
use Rattle.network.specs.Scratch.{scratch_words}
use Rattle.network.specs.Households.{sheet_k}

pub record HouseholdsReady (g : Network) (T : List ℕ) (q k : ℕ) (scratch answers : List ℕ) : Type 0 where
  pub accepted : Accepted g
  pub sites : length T ≡ node_count g
  pub inside : q < node_count g
  pub some : 1 ≤ k
  pub room : scratch_words g k ≤ length scratch
  pub places : node_count g ≤ length answers

pub record SheetReady (g : Network) (scratch answers : List ℕ) : Type 0 where
  pub accepted : Accepted g
  pub room : scratch_words g sheet_k ≤ length scratch
  pub places : node_count g ≤ length answers
