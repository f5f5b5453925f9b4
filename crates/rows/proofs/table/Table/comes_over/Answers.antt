-- Each arc is a pair of the chain, and a neighbour is a node, so its row lies in the table.
use Rattle.std.proofs.Common.{sym, rules, tests, arith}
use Rattle.network.proofs.ArcAt.{weights_even}
use Rattle.network.proofs.NumberZero.{accepted_searchable}
use Rattle.rows.specs.Check.{comes_at, comes_over, comes_from, HasRows}
use Rattle.rows.proofs.Chains.{zip_finds, zip_serves}
use Rattle.rows.proofs.CheckTests.{neighbour_lies}
use Rattle.rows.proofs.table.Table.comes_over.Goals as goal

pub neighbours_of-neighbours-requires : goal.neighbours_of-neighbours-requires
neighbours_of-neighbours-requires c = (accepted_searchable c.requires.can_read.accepted).neighbours.part _ (omega (arith, c.requires.i_bound))

pub weights_of-weights-requires : goal.weights_of-weights-requires
weights_of-weights-requires c = (accepted_searchable c.requires.can_read.accepted).weights.part _ (omega (arith, c.requires.i_bound))

pub any-requires-clause-callable : goal.any-requires-clause-callable
any-requires-clause-callable c =
    let a = c.args in
    let r = c.requires in
    let n = c.neighbours_of-neighbours.ensures in
    zip_serves c.neighbours_of-neighbours.result.now c.weights_of-weights.result.now _ (cc) (cc) (λ p x q k. search (rules, tests))
    (λ x j l e f.
    let there : HasRows a.self.places a.self.ids.now a.self.distances.now x.0.now = rw (e, n) (neighbour_lies r.can_read _ _ r.i_bound (rw n at l)) in
    search rules)

pub returns : goal.returns
unfolding comes_over comes_at
returns c =
    let a = c.args in
    let even = sym (weights_even c.requires.can_read.accepted a.i c.requires.i_bound) in
    zip_finds (λ x. comes_from a.self.places a.self.ids.now a.self.distances.now x.0 x.1 a.p a.d) _ _ c.any.new.self _ _ c.any.ensures.ran (cc) (cc) even (λ x b q k. search (rules, tests))
