-- What stands behind the place is copied down, and the last place is emptied.
use Rattle.rows.proofs.TakeLaws.{take_shift}
use Rattle.rows.proofs.take.take_at.Goals as goal

pub returns : goal.returns
returns c = take_shift c.args.row.now c.copy_within.new.self c.args.place c.requires c.copy_within.ensures.len c.copy_within.ensures.by_index.0 c.copy_within.ensures.by_index.1
