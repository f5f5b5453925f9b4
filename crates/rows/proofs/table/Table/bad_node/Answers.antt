-- Node i has a byte of points.
use Rattle.std.proofs.Common.{arith}
use Rattle.rows.proofs.table.Table.bad_node.Goals as goal

pub lacks_own-requires : goal.lacks_own-requires
lacks_own-requires c = omega (arith, c.requires.can_check.points, c.requires.i_bound)
