-- The cleared scratch can be searched over.
use mathlib.Core.Path.{sym}
use Rattle.numbers.proofs.Ready.{limited_ready}
use Rattle.site_calls.proofs.Searchable.{limited_search}
use Rattle.site_calls.proofs.short_query.answer.Goals as goal

pub without_visits-requires-clause-can_search : goal.without_visits-requires-clause-can_search
without_visits-requires-clause-can_search c =
    let a = c.args in
    limited_search (c.fill.ensures.after (λ y e. e))
    (limited_ready a.g.now a.points.now a.q _ a.scratch.now a.answers.now (sym c.in_ok-check_limited.ensures))
