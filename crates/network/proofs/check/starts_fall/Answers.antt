-- Each place is a test of `any`.
use borrow.Author.Tests.{lt-ltb, le-ltb}
use Rattle.network.specs.Check.{falls_at}
use Rattle.network.proofs.Tests.{any_start, any_more, found}
use Rattle.network.proofs.check.starts_fall.Goals as goal

pub loop-a-init : goal.loop-a-init
loop-a-init c = any_start _

pub returns-then-starts-a : goal.returns-then-starts-a
unfolding falls_at
returns-then-starts-a c = found _ _ _ c.loop-a-test.true (lt-ltb _ _ c.if-starts-a.true)

pub loop-a-preserved : goal.loop-a-preserved
unfolding falls_at
loop-a-preserved c = any_more _ _ c.loop-a.invariant (le-ltb _ _ c.if-starts-a.false)
