-- The cleared scratch can be expanded over.
use mathlib.Core.Path.{sym}
use Rattle.numbers.proofs.Ready.{distances_ready}
use Rattle.site_calls.proofs.Searchable.{distances_expand}
use Rattle.site_calls.proofs.distances.answer.Goals as goal

pub distances-requires-clause-can_expand : goal.distances-requires-clause-can_expand
distances-requires-clause-can_expand c =
    let a = c.args in
    distances_expand (c.fill.ensures.after (λ y e. e)) (distances_ready a.g.now a.node a.scratch.now a.answers.now (sym c.in_ok-check_distances.ensures))
