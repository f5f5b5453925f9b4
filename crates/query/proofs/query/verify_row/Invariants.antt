-- The loop's invariant: the places before the i-th are nearer than the label, and verified.
use Rattle.query.proofs.QueryFlags.{RowUpto}
use Rattle.query.proofs.query.verify_row.Given as goal

abbrev pub invariant-loop-i : goal.invariant-loop-i
invariant-loop-i l =
    RowUpto l.g l.points l.table.distances.now l.q l.k l.table.places l.initial.f l.f l.row.ids.now l.row.distances.now l.label l.i
