-- The neighbours of the node before `next` rise, as it is on the route.
use Rattle.std.proofs.Common.{arith}
use Rattle.conditions.proofs.Along.{rising_at}
use Rattle.conditions.proofs.bad_route.Goals as goal

pub has_road-requires : goal.has_road-requires
has_road-requires c = rising_at _ _ _ c.requires _ (omega arith)
