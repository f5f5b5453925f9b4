-- The laws of clearing, before the first settled node and behind the last one.
use Rattle.expansion.proofs.ClearLaws.{clearing_none, clearing_done}
use Rattle.expansion.proofs.step.clear.Goals as goal

pub loop-i-init : goal.loop-i-init
loop-i-init c = clearing_none c.requires c.clear.ensures

pub returns : goal.returns
returns c = clearing_done c.requires c.loop-i.invariant c.loop-i-test.false c.loop-i.auto.i-end
