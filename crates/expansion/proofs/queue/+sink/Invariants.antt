-- The hole moves down, to a child.
use Rattle.std.proofs.Common.{◌-◌}
use Rattle.expansion.proofs.queue.+sink.Given as goal

abbrev pub decreases-sink : goal.decreases-sink
decreases-sink l = l.len - l.hole
