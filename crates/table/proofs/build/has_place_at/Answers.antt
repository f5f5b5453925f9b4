-- The row is handed out as the part of the ids that it is.
use Rattle.std.proofs.Common.{refl, arith}
use Rattle.table.proofs.BuildRows.{part_size, place_look}
use Rattle.table.proofs.build.has_place_at.Goals as goal

pub has_place-requires : goal.has_place-requires
has_place-requires c = omega (arith, c.requires.size, part_size c.requires c.args.node refl c.row_of.ensures)

pub returns : goal.returns
returns c = place_look c.requires c.args.node _ c.args.p c.row_of.result.now refl refl c.row_of.ensures c.has_place.ensures
