-- The first i words are stored.
use Rattle.std.proofs.Common.{◌+◌, get_or}
use Rattle.network.proofs.Tabulate.{Stored}
use Rattle.expansion.proofs.words.copy.Given as goal

abbrev pub invariant-loop-i : goal.invariant-loop-i
invariant-loop-i l = Stored (λ x. get_or l.from (l.at + x) 0) l.i l.initial.answers l.answers
