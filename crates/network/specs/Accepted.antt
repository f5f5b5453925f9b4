-- An accepted network: all that numbers 1 to 5 exclude. That the network check's number is 0 exactly if the network is accepted is
-- proofs/NumberZero.antt's theorem.
-- Assumes nothing.
use Rattle.std.specs.Prelude.{ℕ, suc, ◌≤◌, ◌<◌, ◌≡◌, ◌≢◌, length}
use Rattle.network.specs.Network.{Network, Arc, node_count, arc_count, start_of, target}

pub record Accepted (g : Network) : Type 0 where
  -- 'n is 1 to 65,535', and starts has n + 1 entries
  pub some : 1 ≤ node_count g
  pub few : node_count g ≤ 65535
  -- starts begins with 0, never falls, and ends with A; 'neighbours and weights (A entries each [..])', 'A at most 524,288'
  pub starts_zero : start_of g 0 ≡ 0
  pub rising : (a : ℕ) → a < node_count g → start_of g a ≤ start_of g (suc a)
  pub ends : start_of g (node_count g) ≡ arc_count g
  pub paired : length g.weights ≡ arc_count g
  pub few_arcs : arc_count g ≤ 524288
  -- an arc leads to another node, and the arcs of a node lead to strictly rising nodes
  pub leads_in : {a b w : ℕ} → Arc g a b w → b < node_count g
  pub no_loop : {a b w : ℕ} → Arc g a b w → b ≢ a
  pub sorted : (a e : ℕ) → start_of g a ≤ e → suc e < start_of g (suc a) → target g e < target g (suc e)
  -- 'a weight [is] 1 to 65,535'
  pub weight_low : {a b w : ℕ} → Arc g a b w → 1 ≤ w
  pub weight_high : {a b w : ℕ} → Arc g a b w → w ≤ 65535
  -- 'Each road is two arcs of equal weight.'
  pub returns : {a b w : ℕ} → Arc g a b w → Arc g b a w
