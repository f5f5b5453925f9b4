-- Where no condition is met the struct is that of the nearer row, and else its number alone.
use Rattle.nearer_row.proofs.Outcomes.{row_fit, part_refused, part_accepted}
use Rattle.nearer_row.proofs.part.Goals as goal

pub nearer_part-requires : goal.nearer_part-requires
nearer_part-requires c = row_fit _ _ _ _ _ _ _ c.in-Ok.ensures

pub returns-in-Ok : goal.returns-in-Ok
returns-in-Ok c = rw c.nearer_part.ensures (part_accepted _ _ _ _ _ _ _ c.in-Ok.ensures)

pub returns-in-Err : goal.returns-in-Err
returns-in-Err c = rw c.into.ensures (part_refused _ _ _ _ _ _ _ c.in-Err.refusal c.in-Err.ensures)
