-- The search finds the answer, and to clear its area changes no word of it.
use Rattle.std.proofs.Common.{refl}
use Rattle.expansion.proofs.Finding.{find_wiped}
use Rattle.expansion.proofs.nearest.nodes.Goals as goal

pub clear-requires : goal.clear-requires
clear-requires c = rw c.nodes-n.ensures c.find-search.ensures.area

pub returns : goal.returns
returns c = find_wiped c.requires.few c.find-search.ensures refl refl c.clear.ensures
