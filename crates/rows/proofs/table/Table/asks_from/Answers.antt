-- Row i lies in the table, so it has a place.
use Rattle.std.proofs.Common.{arith}
use Rattle.rows.proofs.CheckTests.{row_part_length}
use Rattle.rows.proofs.table.Table.asks_from.Goals as goal

pub asks-requires : goal.asks-requires
asks-requires c =
    let r = c.requires in
    let a = c.args in
    rw (c.row.ensures.ids) (omega (arith, r.0, row_part_length a.self.places a.i a.self.ids.now r.1.in_ids))
