-- So many of the ids before the place are p.
use Rattle.std.proofs.Common.{◌≡◌, ◌≤◌}
use Rattle.rows.specs.Check.{among}
use Rattle.rows.proofs.rows.among.Given as goal

abbrev pub invariant-loop-q : goal.invariant-loop-q
invariant-loop-q l = record { most : l.count ≤ l.q-index; counted : l.count ≡ among l.ids l.p l.q-index }
