-- A place of the neighbour's row is a pair of the chain.
use Rattle.std.proofs.Common.{◌+◌, rules, tests}
use Rattle.rows.specs.Check.{asks, asks_at, asks_for}
use Rattle.rows.proofs.Chains.{zip_finds}
use Rattle.rows.proofs.table.Row.asks.Goals as goal

pub returns : goal.returns
unfolding asks asks_at
returns c =
    let a = c.args in
    zip_finds (λ x. asks_for a.self.ids.now a.self.distances.now x.0 (x.1 + a.w)) a.near.ids.now a.near.distances.now c.any.new.self _ _ c.any.ensures.ran (cc) (cc) a.near.even (λ x b q k. search (rules, tests))
