-- Each arc is a test of `any`.
use Rattle.std.proofs.Common.{refl, ap, length, arith}
use Rattle.network.specs.Check.{lacks_return_of, lacks_return_at}
use Rattle.network.proofs.NodeArcs.{parts_even}
use Rattle.network.proofs.Tests.{any_start, any_more, found, not_found}
use Rattle.network.proofs.check.lacks_return_of.Goals as goal

pub loop-j-init : goal.loop-j-init
loop-j-init c = any_start _

pub bounds-weights-j : goal.bounds-weights-j
bounds-weights-j c =
    let s = c.requires.searchable in
    let e = ap length c.neighbours_of-neighbours.ensures in
    let f = ap length c.weights_of-weights.ensures in
    omega (arith, e, f, parts_even (s.neighbours.part _ c.requires.a_in_bounds.0) (s.weights.part _ c.requires.a_in_bounds.0))

pub returns-then-not-has_arc : goal.returns-then-not-has_arc
unfolding lacks_return_of lacks_return_at
returns-then-not-has_arc c =
    found _ _ c.loop-j.j (rw c.neighbours_of-neighbours.ensures at c.loop-j-test.true)
    (rw (← c.neighbours_of-neighbours.ensures, ← c.weights_of-weights.ensures, ← c.has_arc.ensures, c.if-not-has_arc.true) refl)

pub loop-j-preserved : goal.loop-j-preserved
unfolding lacks_return_at
loop-j-preserved c = any_more _ _ c.loop-j.invariant (rw (← c.neighbours_of-neighbours.ensures, ← c.weights_of-weights.ensures, ← c.has_arc.ensures, c.if-not-has_arc.false) refl)

pub returns : goal.returns
unfolding lacks_return_of
returns c =
    let e = ap length c.neighbours_of-neighbours.ensures in
    not_found _ _ _ (omega (arith, e, c.loop-j.auto.j-end)) (omega (arith, e, c.loop-j-test.false)) c.loop-j.invariant
