-- The answer of `visit`, and its area cleared.
use Rattle.expansion.proofs.Settled.{wiped_after}
use Rattle.expansion.proofs.verify.verify.Goals as goal

pub clear-requires : goal.clear-requires
clear-requires c = rw c.nodes-n.ensures c.visit-v.ensures.area

pub returns : goal.returns
returns c = record { answer = c.visit-v.ensures.answer; area = wiped_after c.visit-v.ensures.frame c.clear.ensures }
