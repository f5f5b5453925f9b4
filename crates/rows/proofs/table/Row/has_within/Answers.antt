-- A place of the row is a pair of the chain.
use Rattle.std.proofs.Common.{◌&&◌, eqb, leb, rules, tests}
use Rattle.rows.specs.Check.{has_within, is_within}
use Rattle.rows.proofs.Chains.{zip_finds}
use Rattle.rows.proofs.table.Row.has_within.Goals as goal

pub returns : goal.returns
unfolding has_within is_within
returns c =
    let a = c.args in
    zip_finds (λ x. eqb x.0 a.p && leb x.1 a.d) a.self.ids.now a.self.distances.now c.any.new.self _ _ c.any.ensures.ran (cc) (cc) a.self.even (λ x b q k. search (rules, tests))
