-- The first v distances are stored.
use Rattle.std.proofs.Common.{get_or}
use Rattle.network.proofs.Tabulate.{Stored}
use Rattle.expansion.specs.Expand.{word_distance}
use Rattle.expansion.proofs.distances.write_distances.Given as goal

abbrev pub invariant-loop-v : goal.invariant-loop-v
invariant-loop-v l = Stored (λ x. word_distance l.n (get_or l.words x 0)) l.v l.initial.answers l.answers
