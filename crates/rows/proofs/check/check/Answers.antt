-- That no row is bad is that both arrays are the table.
use Rattle.std.proofs.Common.{ap, not, ◌∙◌, rules, tests}
use Rattle.rows.specs.Check.{bad_node}
use Rattle.rows.proofs.Chains.{range_finds}
use Rattle.rows.proofs.CheckTable.{check_table}
use Rattle.rows.proofs.check.check.Goals as goal

pub returns : goal.returns
returns c =
    let a = c.args in
    ap not (range_finds (bad_node a.g.now a.points.now a.table.places a.table.ids.now a.table.distances.now) _ c.any.new.self _ _ c.any.ensures.ran (cc) (λ x b q k. search (rules, tests)))
    ∙ check_table c.requires
