-- The cleared scratch can be visited.
use mathlib.Core.Path.{sym}
use Rattle.numbers.proofs.Ready.{verify_ready}
use Rattle.site_calls.proofs.Searchable.{verify_visit}
use Rattle.site_calls.proofs.verify.answer.Goals as goal

pub verify-yes-requires : goal.verify-yes-requires
verify-yes-requires c =
    let a = c.args in
    verify_visit (c.fill.ensures.after (λ y e. e)) (verify_ready a.g.now a.points.now a.p a.q a.k a.scratch.now (sym c.in_ok-check_verify.ensures))
