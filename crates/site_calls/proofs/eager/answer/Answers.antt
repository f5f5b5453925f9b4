-- The cleared scratch can be searched over.
use mathlib.Core.Path.{sym}
use Rattle.numbers.proofs.Ready.{eager_ready}
use Rattle.site_calls.proofs.Searchable.{limited_search}
use Rattle.site_calls.proofs.eager.answer.Goals as goal

pub eager-requires-clause-can_search : goal.eager-requires-clause-can_search
eager-requires-clause-can_search c =
    let a = c.args in
    limited_search (c.fill.ensures.after (λ y e. e))
    (eager_ready a.g.now a.points.now a.q a.k a.scratch.now a.answers.now a.visits.now (sym c.in_ok-check_eager.ensures)).0
