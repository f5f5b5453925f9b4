-- Where no condition is met, what the work leaves is the outcome.
use mathlib.Core.Path.{refl, sym}
use Rattle.numbers.proofs.Cleared.{all_zero}
use Rattle.table_calls.proofs.Outcomes.{build_done}
use Rattle.table_calls.proofs.build.answer.Goals as goal

pub returns : goal.returns
returns c =
    let b = c.run.ensures in
    build_done c.args.g.now c.args.points.now c.args.places c.args.scratch.now c.args.ids.now c.args.distances.now (sym c.in_ok-check_build.ensures) (all_zero _ refl b.area) b.table
