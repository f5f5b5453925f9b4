-- The points before i are offered to their own rows (`PointsSeeded`).
use Rattle.table.specs.Build.{PointsSeeded}
use Rattle.table.proofs.build.seed.Given as goal

abbrev pub invariant-loop-i : goal.invariant-loop-i
invariant-loop-i l = PointsSeeded l.points l.initial.s l.s l.i l.len
