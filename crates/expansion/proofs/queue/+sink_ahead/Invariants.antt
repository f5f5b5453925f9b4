-- The hole moves down, to a child.
use Rattle.std.proofs.Common.{◌-◌}
use Rattle.expansion.proofs.queue.+sink_ahead.Given as goal

abbrev pub decreases-sink_ahead : goal.decreases-sink_ahead
decreases-sink_ahead l = l.len - l.hole
