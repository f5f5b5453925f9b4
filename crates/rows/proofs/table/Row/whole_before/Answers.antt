-- A single locker stands at the place before.
use Rattle.std.proofs.Common.{◌∙◌, le-leb}
use Rattle.rows.proofs.CheckTests.{whole_single}
use Rattle.rows.proofs.table.Row.whole_before.Goals as goal

pub returns-then-all-le1 : goal.returns-then-all-le1
returns-then-all-le1 c = le-leb _ _ c.if-all-le1.true ∙ whole_single _ _ _ _ c.requires.0 c.lockers_at-all.ensures.0 c.if-all-le1.true
