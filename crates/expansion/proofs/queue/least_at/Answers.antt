-- The first entry has the least distance, in its second word.
use Rattle.std.proofs.Common.{get_or, drop, sym, ap, ◌∙◌, arith}
use native.Mathlib.Nat.{add-zero}
use lib.Seq.{get_or-drop}
use Rattle.expansion.proofs.QueueLaws.{least_first}
use Rattle.expansion.proofs.queue.least_at.Goals as goal

pub returns : goal.returns
returns c =
    let s = c.args.s.now in
    let at = c.args.at in
    let tag = get_or-drop at s 0 0 ∙ ap (λ i. get_or s i 0) (add-zero at) in
    least_first (drop at s) c.args.len _ c.requires.queue c.requires.len_nonzero (omega (arith, tag, c.type_inv.s at)) (sym (get_or-drop at s 1 0))
