-- a's neighbours rise, so b stands at the place that halving them finds, or nowhere.
use Rattle.std.proofs.Common.{◌∙◌}
use Rattle.conditions.proofs.Along.{road_halved}
use Rattle.conditions.proofs.has_road.Goals as goal

pub returns : goal.returns
returns c = c.is_ok.ensures.value ∙ road_halved _ _ _ _ c.requires.up (rw c.neighbours_of.ensures at c.binary_search.ensures.position)
