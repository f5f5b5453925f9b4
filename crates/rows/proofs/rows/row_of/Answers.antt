-- The part is as wide as the row.
use Rattle.std.proofs.Common.{refl}
use Rattle.network.specs.Rows.{row_entries}
use Rattle.rows.proofs.Frame.{row_width}
use Rattle.rows.proofs.rows.row_of.Goals as goal

pub returns : goal.returns
unfolding row_entries
returns c = rw (row_width c.args.i c.args.places) refl
