-- The row is lent as the part of both arrays that it is, and comes back.
use Rattle.rows.proofs.RowLends.{put_in_row}
use Rattle.rows.proofs.put.put_in_row.Goals as goal

pub returns : goal.returns
returns c = put_in_row c.requires c.put_in.ensures
