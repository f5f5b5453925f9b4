-- What a number 0 of the call with a route leaves: no condition is met.
-- Assumes nothing.
use Prim.Native.Nat.{ℕ}
use mathlib.Core.Path.{◌≡◌}
use mathlib.Core.List.{List}
use lib.ListN.{length}
use Rattle.network.specs.Network.{Network, node_count}
use Rattle.network.specs.Scratch.{scratch_words}
use Rattle.conditions.specs.Conditions.{nodes_number, k_number, short_number}
use Rattle.conditions.proofs.NotMet.{first_zero, nodes_ready, k_ready, short_ready}
use Rattle.numbers.specs.Numbers.{network_points_number}
use Rattle.numbers.proofs.Ready.{network_points_ready}
use Rattle.route_calls.specs.Numbers.{route_call_number}
use Rattle.route_calls.specs.Work.{RouteReady}

pub route_call_ready : (g : Network) (P R : List ℕ) (k : ℕ) (scratch answers : List ℕ) → route_call_number g P R k scratch answers ≡ 0
    → RouteReady g P R k scratch answers
unfolding route_call_number
route_call_ready g P R k scratch answers e =
    let a = first_zero (network_points_number g P) _ e in
    let b = first_zero (nodes_number (node_count g) R) _ a.1 in
    let c = first_zero (k_number k) _ b.1 in
    let d = first_zero (short_number (length scratch) (scratch_words g k)) _ c.1 in
    let f = first_zero (short_number (length answers) (node_count g)) _ d.1 in
    let r = network_points_ready g P a.0 in
    record {
      accepted = r.0;
      points = r.1;
      inside = nodes_ready (node_count g) R b.0;
      some = (k_ready k c.0).0;
      room = short_ready (length scratch) (scratch_words g k) d.0;
      places = short_ready (length answers) (node_count g) f.0;
    }
