-- A place of row i is a pair of the chain.
use Rattle.std.proofs.Common.{not, rules, tests}
use Rattle.rows.specs.Check.{unsupported, unsupported_at, is_supported}
use Rattle.rows.proofs.Chains.{zip_finds}
use Rattle.rows.proofs.CheckTests.{rows_lie, row_parts_even}
use Rattle.rows.proofs.table.Table.unsupported.Goals as goal

pub returns : goal.returns
unfolding unsupported unsupported_at
returns c =
    let a = c.args in
    let even = row_parts_even _ _ _ _ (rows_lie c.requires.can_check.readable _ c.requires.i_bound) in
    zip_finds (λ x. not (is_supported a.g.now a.points.now a.self.places a.self.ids.now a.self.distances.now a.i x.0 x.1)) _ _ c.any.new.self _ _ c.any.ensures.ran (cc) (cc) even (λ x b q k. search (rules, tests))
