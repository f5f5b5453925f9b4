-- The row is lent as the part of both arrays that it is, and comes back.
use Rattle.rows.proofs.RowLends.{taken_out_of_row}
use Rattle.rows.proofs.take.take_out_of_row.Goals as goal

pub returns : goal.returns
returns c = taken_out_of_row c.requires c.take_out.ensures
