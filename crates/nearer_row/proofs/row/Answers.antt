-- Where no condition is met the row is the nearer one, and else it is empty.
use Rattle.std.proofs.Common.{◌∙◌}
use Rattle.nearer_row.proofs.Outcomes.{row_fit, row_refused, row_accepted}
use Rattle.nearer_row.proofs.row.Goals as goal

pub nearer_row-requires : goal.nearer_row-requires
nearer_row-requires c = row_fit _ _ _ _ _ _ _ c.in-Ok.ensures

pub returns-in-Ok : goal.returns-in-Ok
returns-in-Ok c = c.nearer_row.ensures ∙ row_accepted _ _ _ _ _ _ _ c.in-Ok.ensures

pub returns-in-Err : goal.returns-in-Err
returns-in-Err c = row_refused _ _ _ _ _ _ _ _ c.in-Err.ensures
