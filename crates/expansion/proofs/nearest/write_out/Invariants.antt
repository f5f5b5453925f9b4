-- The first i nodes are written out, and the next is written where they end.
use Rattle.std.proofs.Common.{◌≡◌, min}
use Rattle.expansion.specs.Found.{tallied, WrittenOut}
use Rattle.expansion.proofs.nearest.write_out.Given as goal

abbrev pub invariant-loop-i : goal.invariant-loop-i
invariant-loop-i l = record { count : l.at ≡ min l.k (tallied l.points l.initial.s l.i); out : WrittenOut l.points l.initial.s l.s l.n l.k l.i }
