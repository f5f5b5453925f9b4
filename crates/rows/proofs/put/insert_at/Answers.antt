-- What stands from the place on is copied up, and v is stored there.
use Rattle.rows.proofs.PutLaws.{insert_shift}
use Rattle.rows.proofs.put.insert_at.Goals as goal

pub returns : goal.returns
returns c = insert_shift c.args.place c.args.v c.args.row.now c.copy_within.new.self c.requires c.copy_within.ensures.after
