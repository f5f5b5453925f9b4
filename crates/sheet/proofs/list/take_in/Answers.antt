-- The node's mark says whether the list has it, and a node that it has not got comes behind the others.
use Rattle.std.proofs.Common.{length-set, add-one, arith}
use Rattle.sheet.proofs.Growing.{taken_before, list_room, taken_new}
use Rattle.sheet.proofs.list.take_in.Goals as goal

pub returns-then-s-at : goal.returns-then-s-at
returns-then-s-at c = taken_before c.requires.list c.args.node (omega (arith, c.if-s-at.true))

pub overflow_add-s-2 : goal.overflow_add-s-2
overflow_add-s-2 c =
    omega (arith, list_room c.requires.list c.args.node c.requires.inside (λ e. c.if-s-at.false (omega (arith, e))), c.requires.list.few)

pub offset_bounds-s-n : goal.offset_bounds-s-n
offset_bounds-s-n c =
    omega (arith, list_room c.requires.list c.args.node c.requires.inside (λ e. c.if-s-at.false (omega (arith, e))), c.requires.list.few)

pub overflow_add-result : goal.overflow_add-result
overflow_add-result c =
    omega (arith, list_room c.requires.list c.args.node c.requires.inside (λ e. c.if-s-at.false (omega (arith, e))), c.requires.list.few)

pub overflow_add-result-2 : goal.overflow_add-result-2
overflow_add-result-2 c =
    let room = list_room c.requires.list c.args.node c.requires.inside (λ e. c.if-s-at.false (omega (arith, e))) in
    omega (arith, room, c.requires.list.few, c.requires.list.low, c.households_at.ensures.1)

pub bounds-s-n : goal.bounds-s-n
bounds-s-n c =
    simp length-set (omega (arith, list_room c.requires.list c.args.node c.requires.inside (λ e. c.if-s-at.false (omega (arith, e))), c.requires.list.room))

pub returns : goal.returns
returns c =
    rw (add-one c.args.q, c.households_at.ensures.0)
    (taken_new c.requires.list c.args.node c.requires.inside (λ e. c.if-s-at.false (omega (arith, e))) (omega arith))
