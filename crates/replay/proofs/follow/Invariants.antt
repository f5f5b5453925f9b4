-- The loop of `follow`: the calls before j are followed.
-- Assumes nothing.
use Rattle.network.specs.Network.{network}
use Rattle.replay.proofs.Following.{Before}
use Rattle.replay.proofs.follow.Given as goal

abbrev pub invariant-loop-j : goal.invariant-loop-j
invariant-loop-j l =
    Before (network l.starts l.neighbours l.weights) (record { kinds = l.calls.kinds.now; nodes = l.calls.nodes.now; places = l.calls.places.now; lengths = l.calls.lengths.now }) l.j
    (record { points = l.initial.points; scratch = l.initial.scratch; ids = l.initial.ids; distances = l.initial.distances; numbers = l.initial.numbers; counts = l.initial.counts })
    (record { points = l.points; scratch = l.scratch; ids = l.ids; distances = l.distances; numbers = l.numbers; counts = l.counts })
