-- The sites wait, the distances of the nearest are settled, the entries are written, and the words cleared.
use native.Mathlib.Omega.{arith}
use Rattle.sheet.proofs.Entering.{can_settle, can_write_all, sheet_left}
use Rattle.sheet.proofs.sheet.sheet.Goals as goal

pub start_all-waiting-requires : goal.start_all-waiting-requires
start_all-waiting-requires c =
    let p = c.requires in
    rw c.nodes-n.ensures record { few = p.accepted.few; blank = p.blank; room = omega (arith, p.room) }

pub settle_waiting-requires : goal.settle_waiting-requires
settle_waiting-requires c = can_settle c.requires (rw c.nodes-n.ensures at c.start_all-waiting.ensures)

pub write_entries-requires : goal.write_entries-requires
write_entries-requires c = can_write_all c.requires (rw c.nodes-n.ensures at c.start_all-waiting.ensures) c.settle_waiting.ensures

pub returns : goal.returns
returns c =
    sheet_left c.requires (rw c.nodes-n.ensures at c.start_all-waiting.ensures) c.settle_waiting.ensures c.write_entries.ensures
    (c.fill.ensures.after (λ y e. e))
