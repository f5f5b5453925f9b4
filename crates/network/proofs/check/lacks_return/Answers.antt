-- Each node is a test of `any`.
use Rattle.std.proofs.Common.{sym, ◌∙◌, arith}
use Rattle.network.specs.Check.{lacks_return}
use Rattle.network.proofs.Tests.{any_start, any_more, found, not_found}
use Rattle.network.proofs.check.lacks_return.Goals as goal

pub loop-a-init : goal.loop-a-init
loop-a-init c = any_start _

pub returns-then-lacks_return_of : goal.returns-then-lacks_return_of
unfolding lacks_return
returns-then-lacks_return_of c =
    found _ _ _ (rw c.nodes-n.ensures at c.loop-a-test.true) (sym c.lacks_return_of.ensures ∙ c.if-lacks_return_of.true)

pub loop-a-preserved : goal.loop-a-preserved
loop-a-preserved c = any_more _ _ c.loop-a.invariant (sym c.lacks_return_of.ensures ∙ c.if-lacks_return_of.false)

pub returns : goal.returns
unfolding lacks_return
returns c = not_found _ _ _ (omega (arith, c.nodes-n.ensures, c.loop-a.auto.a-end)) (omega (arith, c.nodes-n.ensures, c.loop-a-test.false)) c.loop-a.invariant
