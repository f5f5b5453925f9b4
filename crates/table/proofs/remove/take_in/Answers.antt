-- What `put_last` leaves of the lent parts, said of the whole arrays.
use Rattle.std.proofs.Common.{arith}
use Rattle.table.proofs.RemoveSteps.{took_in, left_out}
use Rattle.table.proofs.remove.take_in.Goals as goal

pub returns-then-not-put_last : goal.returns-then-not-put_last
returns-then-not-put_last c = left_out c.args.points.now c.requires c.put_last.ensures c.if-not-put_last.true

pub returns : goal.returns
returns c = took_in c.args.points.now c.requires c.put_last.ensures c.if-not-put_last.false c.if-s-i-ne1.false (omega (arith, c.if-distance-gt-LONGEST.false))
