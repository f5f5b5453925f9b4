-- The list is bad exactly if a road is missing from the node before `next` on.
use Rattle.std.proofs.Common.{◌≡◌}
use Rattle.network.specs.Routes.{bad_route}
use Rattle.conditions.proofs.Along.{breaks_at}
use Rattle.conditions.proofs.bad_route.Given as goal

abbrev pub invariant-loop-next : goal.invariant-loop-next
invariant-loop-next l = breaks_at l.g l.route l.next ≡ bad_route l.g l.route
