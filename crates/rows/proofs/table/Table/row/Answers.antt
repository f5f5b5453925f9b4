-- Row i lies in both arrays, so its part of each is as long as the places to a row.
use Rattle.std.proofs.Common.{arith}
use Rattle.rows.proofs.CheckTests.{row_part_length}
use Rattle.rows.proofs.table.Table.row.Goals as goal

pub invariant_of-result : goal.invariant_of-result
invariant_of-result c =
    let a = c.args in
    let r = c.requires in
    let ids = row_part_length a.self.places a.i a.self.ids.now r.in_ids in
    let distances = row_part_length a.self.places a.i a.self.distances.now r.in_dists in
    record { even = rw (c.row_of.ensures, c.row_of-2.ensures) (omega (arith, ids, distances)) }
