-- What the expansion leaves is finished.
use Rattle.searches.proofs.EagerLaws.{limited_left}
use Rattle.searches.proofs.eager.without_visits.Goals as goal

pub returns : goal.returns
returns c = limited_left c.requires.can_search.accepted (rw c.nodes-n.ensures at c.explore-end.ensures) (rw c.nodes-n.ensures at c.finish.ensures)
