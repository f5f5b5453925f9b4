-- The cleared scratch can be searched over.
use mathlib.Core.Path.{sym}
use native.Mathlib.Omega.{arith}
use lib.ListN.{length}
use Rattle.expansion.proofs.Settled.{zero_blank}
use Rattle.household_calls.proofs.Ready.{households_ready}
use Rattle.household_calls.proofs.list.answer.Goals as goal

pub won-length-requires-clause-can_win : goal.won-length-requires-clause-can_win
won-length-requires-clause-can_win c =
    let a = c.args in
    let ready = households_ready a.g.now a.households.now a.sites.now a.q a.k a.scratch.now a.answers.now (sym c.in_ok-check_households.ensures) in
    record {
      accepted = ready.accepted;
      sites = ready.sites;
      inside = ready.inside;
      some = ready.some;
      blank = zero_blank (length a.scratch.now) 0 (c.fill.ensures.after (λ y e. e));
      size = omega (arith, ready.room);
    }
