-- The part between a node's two ends.
use Rattle.std.proofs.Common.{refl}
use Rattle.network.specs.Network.{part_of}
use Rattle.network.proofs.arcs.part_of.Goals as goal

pub returns : goal.returns
unfolding part_of
returns c = refl
