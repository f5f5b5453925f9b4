-- A row that had all is freed and flagged; another stays.
use Rattle.std.proofs.Common.{arith}
use Rattle.table.proofs.RemoveSteps.{freed_none, freed_had, freed_not, freed_few}
use Rattle.table.proofs.remove.free.Goals as goal
use Rattle.table.proofs.remove.free.Goals.{then-take_out_of_row, else-take_out_of_row}

pub loop-i-init : goal.loop-i-init
loop-i-init c = let a = c.args in freed_none a.s.now a.ids.now a.distances.now a.places a.x a.all

pub overflow_add-changed : goal.overflow_add-changed
overflow_add-changed c = record { fits = omega (arith, freed_few c.loop-i.invariant, c.requires.few, c.loop-i-test.true) }

pub loop-i-preserved : goal.loop-i-preserved
loop-i-preserved c =
    let f = c.loop-i.invariant in
    let t = c.take_out_of_row.ensures in
    elim c.if-take_out_of_row.branch [
      | then-take_out_of_row w ↦ rw (w.s-is, w.changed-is) (freed_had f t w.if-take_out_of_row.true (omega (arith, f.size, c.requires.flags, c.loop-i-test.true)))
      | else-take_out_of_row w ↦ rw (w.s-is, w.changed-is) (freed_not f t w.if-take_out_of_row.false)
    ]
