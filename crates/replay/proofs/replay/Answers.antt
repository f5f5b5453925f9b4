-- `replay::replay` meets its contract: an unfit list, a refused build, or the run of all calls, of which demand 3 speaks.
-- Assumes nothing.
use Rattle.std.proofs.Common.{sym, ◌∙◌}
use Rattle.table_calls.specs.Build.{BuildOutcome}
use Rattle.replay.proofs.Outcomes.{replay_unfit, replay_refused, replay_fit, replay_done}
use Rattle.replay.proofs.replay.Goals as goal

pub returns-then-unfit : goal.returns-then-unfit
returns-then-unfit c = replay_unfit _ c.args.places _ _ (sym c.unfit.ensures ∙ c.if-unfit.true)

pub returns-then-number-ne0 : goal.returns-then-number-ne0
returns-then-number-ne0 c =
    let b = c.overlap_build-number in
    let left : BuildOutcome = record { number = b.result; scratch = b.new.scratch; ids = b.new.ids; distances = b.new.distances } in
    replay_refused _ _ _ _ (sym c.unfit.ensures ∙ c.if-unfit.false) left b.ensures c.if-number-ne0.true

pub follow-requires : goal.follow-requires
follow-requires c =
    let b = c.overlap_build-number in
    let left : BuildOutcome = record { number = b.result; scratch = b.new.scratch; ids = b.new.ids; distances = b.new.distances } in
    replay_fit _ _ _ _ (sym c.unfit.ensures ∙ c.if-unfit.false) left b.ensures c.if-number-ne0.false

pub returns : goal.returns
returns c =
    let b = c.overlap_build-number in
    let left : BuildOutcome = record { number = b.result; scratch = b.new.scratch; ids = b.new.ids; distances = b.new.distances } in
    replay_done _ _ _ _ (sym c.unfit.ensures ∙ c.if-unfit.false) left b.ensures c.if-number-ne0.false _ c.follow.ensures
