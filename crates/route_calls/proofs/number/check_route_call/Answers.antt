-- The nodes' parts rise, as the network is accepted; and the last condition is promised for all weights.
use mathlib.Core.Path.{sym}
use native.Mathlib.Omega.{arith}
use Rattle.network.specs.Network.{node_count}
use Rattle.conditions.proofs.NotMet.{first_met, nodes_ready}
use Rattle.conditions.proofs.Along.{accepted_along}
use Rattle.numbers.proofs.Ready.{network_points_ready}
use Rattle.route_calls.specs.Numbers.{route_call_number}
use Rattle.route_calls.proofs.number.check_route_call.Goals as goal

pub check_route-requires : goal.check_route-requires
check_route-requires c =
    let g = c.args.g.now in
    let inside = rw c.nodes-n.ensures at c.in_ok-check_nodes.ensures in
    accepted_along (network_points_ready g c.args.points.now (sym c.in_ok-check_network_points.ensures)).0 c.args.route.now
    (nodes_ready (node_count g) c.args.route.now (sym inside))

pub returns : goal.returns
unfolding route_call_number
returns c = grind (arith, first_met, c.check_route.ensures c.args.g.now.weights)
