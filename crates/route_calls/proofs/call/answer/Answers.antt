-- The cleared scratch can be searched over.
use mathlib.Core.Path.{sym}
use native.Mathlib.Omega.{arith}
use lib.ListN.{length}
use Rattle.expansion.proofs.Settled.{zero_blank}
use Rattle.route_calls.proofs.Ready.{route_call_ready}
use Rattle.route_calls.proofs.call.answer.Goals as goal

pub touched-length-requires-clause-can_route : goal.touched-length-requires-clause-can_route
touched-length-requires-clause-can_route c =
    let a = c.args in
    let ready = route_call_ready a.g.now a.points.now a.route.now a.k a.scratch.now a.answers.now (sym c.in_ok-check_route_call.ensures) in
    record {
      accepted = ready.accepted;
      points = ready.points;
      inside = ready.inside;
      some = ready.some;
      blank = zero_blank (length a.scratch.now) 0 (c.fill.ensures.after (λ y e. e));
      size = omega (arith, ready.room);
    }
