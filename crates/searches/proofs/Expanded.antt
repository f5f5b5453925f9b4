-- How many nodes eager expands: the site itself, so that limit 0 always refuses, and no more than there are, so that limit 65,535 never does.
-- Assumes nothing.
use Prim.Native.Nat.{ℕ, ◌≤◌, ◌<◌}
use mathlib.Core.Path.{refl}
use mathlib.Core.List.{List}
use native.Mathlib.Omega.{arith}
use Rattle.network.specs.Network.{Network, node_count}
use Rattle.network.specs.Accepted.{Accepted}
use Rattle.network.specs.Walk.{here}
use Rattle.network.specs.Points.{is_expanded, expanded}
use Rattle.network.proofs.Counts.{count_few, count_without}
use Rattle.expansion.proofs.Origins.{one_lawful}
use Rattle.searches.proofs.Beaten.{source_unbeaten}
use Rattle.searches.proofs.Answers.{come_expanded}

module _ {g : Network} (ok : Accepted g) (P : List ℕ) (q k : ℕ) where
  pub site_expanded : q < node_count g → 1 ≤ k → 1 ≤ expanded g P q k
  unfolding expanded
  site_expanded h some =
      omega (arith, count_without (is_expanded g P q k) q (node_count g) h (come_expanded ok P q k q here (source_unbeaten ok (one_lawful ok q) P k some q refl)))

  pub expanded_most : expanded g P q k ≤ 65535
  unfolding expanded
  expanded_most = omega (arith, count_few (is_expanded g P q k) (node_count g), ok.few)
