-- The row of the node is lent as the parts of both arrays that it is, and its points are verified.
use Rattle.std.proofs.Common.{arith}
use Rattle.query.proofs.QueryFlags.{can_verify_row, looked_left}
use Rattle.query.proofs.query.look.Goals as goal

pub verify_row-requires : goal.verify_row-requires
verify_row-requires c = can_verify_row c.requires c.row.ensures.ids c.row.ensures.distances

pub returns : goal.returns
returns c = looked_left c.requires c.row.ensures.ids c.row.ensures.distances (omega (arith, c.ranges.label.fits)) c.verify_row.ensures
