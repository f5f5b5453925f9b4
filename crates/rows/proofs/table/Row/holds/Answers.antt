-- A place of the row is a pair of the chain.
use Rattle.std.proofs.Common.{◌&&◌, eqb, rules, tests}
use Rattle.rows.specs.Check.{row_holds, is_entry}
use Rattle.rows.proofs.Chains.{zip_finds}
use Rattle.rows.proofs.table.Row.holds.Goals as goal

pub returns : goal.returns
unfolding row_holds is_entry
returns c =
    let a = c.args in
    zip_finds (λ x. eqb x.0 a.p && eqb x.1 a.d) a.self.ids.now a.self.distances.now c.any.new.self _ _ c.any.ensures.ran (cc) (cc) a.self.even (λ x b q k. search (rules, tests))
