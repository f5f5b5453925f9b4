-- `replay::follow` meets its contract: before the first call nothing is done, and call j makes the calls before it one more.
-- Assumes nothing.
use Rattle.table_calls.specs.Updated.{Arrays}
use Rattle.replay.proofs.Following.{none_before, one_more}
use Rattle.replay.proofs.follow.Goals as goal

pub loop-j-init : goal.loop-j-init
loop-j-init c = none_before _ _ _ c.requires

pub loop-j-preserved : goal.loop-j-preserved
loop-j-preserved c =
    let u = c.one-update in
    let made : Arrays = record { points = u.new.points; scratch = u.new.scratch; ids = u.new.ids; distances = u.new.distances } in
    one_more c.requires c.loop-j.invariant c.loop-j-test.true c.get-call.result c.get-call.ensures made u.result u.ensures u.auto.points u.auto.ids u.auto.distances
