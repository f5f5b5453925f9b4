-- A place of the row is a number of the chain.
use Rattle.std.proofs.Common.{rules, tests}
use Rattle.rows.specs.Check.{bad_row, bad_place}
use Rattle.rows.proofs.Chains.{range_finds}
use Rattle.rows.proofs.table.Row.is_bad.Goals as goal

pub returns : goal.returns
unfolding bad_row
returns c =
    let a = c.args in
    range_finds (bad_place a.points.now a.self.ids.now a.self.distances.now) _ c.any.new.self _ _ c.any.ensures.ran (cc) (λ x b q k. search (rules, tests))
