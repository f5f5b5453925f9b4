-- The area is cleared, and the words before the found nodes, and those between them are 0.
use Rattle.searches.proofs.Wiping.{wiped_all}
use Rattle.searches.proofs.eager.wipe.Goals as goal

pub returns : goal.returns
returns c = wiped_all c.requires c.clear.ensures (c.fill.ensures.after (λ y e. e))
