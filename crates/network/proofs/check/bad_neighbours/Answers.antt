-- Each node is a test of `any`.
use Rattle.std.proofs.Common.{arith}
use Rattle.network.specs.Check.{bad_neighbours, bad_neighbours_of}
use Rattle.network.proofs.Tests.{any_start, any_more, found, not_found}
use Rattle.network.proofs.check.bad_neighbours.Goals as goal

pub loop-a-init : goal.loop-a-init
loop-a-init c = any_start _

pub returns-then-bad_part : goal.returns-then-bad_part
unfolding bad_neighbours bad_neighbours_of
returns-then-bad_part c =
    found _ _ _ (rw c.nodes-n.ensures at c.loop-a-test.true)
    (rw (← c.nodes-n.ensures, ← c.neighbours_of.ensures, ← c.bad_part.ensures) c.if-bad_part.true)

pub loop-a-preserved : goal.loop-a-preserved
unfolding bad_neighbours_of
loop-a-preserved c =
    any_more _ _ c.loop-a.invariant
    (rw (← c.nodes-n.ensures, ← c.neighbours_of.ensures, ← c.bad_part.ensures) c.if-bad_part.false)

pub returns : goal.returns
unfolding bad_neighbours
returns c = not_found _ _ _ (omega (arith, c.nodes-n.ensures, c.loop-a.auto.a-end)) (omega (arith, c.nodes-n.ensures, c.loop-a-test.false)) c.loop-a.invariant
