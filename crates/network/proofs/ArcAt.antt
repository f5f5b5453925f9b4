-- The arc at place j of a node's two parts, which a loop over them was handed as xs and ys.
-- Assumes nothing.
use Prim.Native.Nat.{ℕ, ◌<◌}
use mathlib.Core.Path.{◌≡◌, ap}
use mathlib.Core.List.{List}
use native.Mathlib.Omega.{arith}
use lib.ListN.{length, get_or}
use Rattle.network.specs.Network.{Network, Arc, node_count, neighbours_of, weights_of}
use Rattle.network.specs.Accepted.{Accepted}
use Rattle.network.proofs.NodeArcs.{parts_even}
use Rattle.network.proofs.Ranges.{arc_at}
use Rattle.network.proofs.NumberZero.{accepted_ranges, node_parts}

pub weights_even : {g : Network} → Accepted g → (u : ℕ) → u < node_count g → length (neighbours_of g u) ≡ length (weights_of g u)
weights_even ok u h = let p = node_parts ok h in parts_even p.0 p.1

pub record ArcAt (g : Network) (u j : ℕ) (xs ys : List ℕ) : Type 0 where
  pub low : j < length (neighbours_of g u)
  pub weighed : j < length ys
  pub to : get_or xs j 0 ≡ get_or (neighbours_of g u) j 0
  pub weight : get_or ys j 0 ≡ get_or (weights_of g u) j 0
  pub arc : Arc g u (get_or (neighbours_of g u) j 0) (get_or (weights_of g u) j 0)

pub arc_handed : {g : Network} {u j : ℕ} {xs ys : List ℕ} → Accepted g → u < node_count g → xs ≡ neighbours_of g u → ys ≡ weights_of g u → j < length xs
    → ArcAt g u j xs ys
arc_handed {g} {u} {j} ok h p q l =
    let low : j < length (neighbours_of g u) = omega (arith, ap length p) in
    record {
      low = low;
      weighed = omega (arith, ap length q, weights_even ok u h);
      to = ap (λ (z : List ℕ). get_or z j 0) p;
      weight = ap (λ (z : List ℕ). get_or z j 0) q;
      arc = arc_at (accepted_ranges ok) u h j low;
    }
