-- The node waits with a greater key, or with one that is not.
use Rattle.std.proofs.Common.{ℕ, ◌+◌, ◌-◌, get_or, ap, arith}
use Rattle.expansion.proofs.NodeLaws.{can_lower, offered_kept}
use Rattle.expansion.proofs.node_queue.offer.Goals as goal

pub lower-requires-clause-can_lower : goal.lower-requires-clause-can_lower
lower-requires-clause-can_lower c =
    let seat = ap (λ (v : ℕ). get_or c.args.s.now (c.args.b + v) 0) c.node_of.ensures in
    can_lower c.requires.node_queue _ _ (omega (arith, seat)) (omega arith) c.requires.tag_bound (omega (arith, c.key_at-old.ensures, c.key.ensures, c.if-key-old.true))

pub returns-else-key-old : goal.returns-else-key-old
returns-else-key-old c =
    let seat = ap (λ (v : ℕ). get_or c.args.s.now (c.args.b + v) 0) c.node_of.ensures in
    offered_kept c.requires.node_queue _ (get_or c.args.s.now (c.args.b + c.node_of.result) 0 - 1) (omega (arith, seat)) (omega arith) c.requires.tag_bound
    (omega (arith, c.key_at-old.ensures, c.key.ensures, c.if-key-old.false))
