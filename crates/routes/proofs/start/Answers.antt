-- A node whose word is 0 gets its mark and is put in; another was put in before. What the test says of a mark is taken by `omega`, with the law that a mark is
-- that of an entry: where a node is passed over it was put in before, and must-fail/first_node_only is refused there.
use Rattle.std.proofs.Common.{◌≡◌, length, arith}
use lib.Seq.{take-length}
use Rattle.routes.proofs.Starting.{started_none, inside, mark_fits, mark_most, started_again, queue_marked, can_push, started_more}
use Rattle.routes.proofs.start.Goals.{then-mark-eq0, else-mark-eq0}
use Rattle.routes.proofs.start.Goals as goal

pub loop-node-init : goal.loop-node-init
loop-node-init c = started_none c.requires

pub bounds-s-at : goal.bounds-s-at
bounds-s-at c = mark_fits _ c.requires c.loop-node.invariant (inside _ c.requires c.loop-node.invariant c.loop-node-test.true)

pub bounds-s-at-then-mark-eq0 : goal.bounds-s-at-then-mark-eq0
bounds-s-at-then-mark-eq0 c = mark_fits _ c.requires c.loop-node.invariant (inside _ c.requires c.loop-node.invariant c.loop-node-test.true)

pub tag_of-tag-requires : goal.tag_of-tag-requires
tag_of-tag-requires c =
    let low = inside _ c.requires c.loop-node.invariant c.loop-node-test.true in
    (omega (arith, c.requires.few), omega (arith, c.requires.few))

pub push-requires-clause-node_queue : goal.push-requires-clause-node_queue
push-requires-clause-node_queue c =
    let p = c.requires in
    let i = c.loop-node.invariant in
    let h = c.loop-node-test.true in
    queue_marked _ p i h (omega (arith, c.if-mark-eq0.true, mark_most _ p i (inside _ p i h)))

pub push-requires-clause-tag_bound : goal.push-requires-clause-tag_bound
push-requires-clause-tag_bound c =
    let p = c.requires in
    let i = c.loop-node.invariant in
    let h = c.loop-node-test.true in
    can_push _ p i h (omega (arith, c.if-mark-eq0.true, mark_most _ p i (inside _ p i h))) c.tag_of-tag.result c.tag_of-tag.ensures

pub loop-node-preserved : goal.loop-node-preserved
loop-node-preserved c =
    let p = c.requires in
    let i = c.loop-node.invariant in
    let h = c.loop-node-test.true in
    let most = mark_most _ p i (inside _ p i h) in
    elim c.if-mark-eq0.branch [
      | then-mark-eq0 w ↦ rw (w.s-is, w.len-is) (started_more _ p i h (omega (arith, w.if-mark-eq0.true, most)) (rw w.tag_of-tag.ensures at w.push.ensures))
      | else-mark-eq0 w ↦ rw (w.s-is, w.len-is) (started_again _ p i h (omega (arith, w.if-mark-eq0.false, most)))
    ]

pub returns : goal.returns
returns c =
    let R = c.args.route.now in
    let e : c.loop-node.node-index ≡ length R = omega (arith, c.loop-node.auto.node-index-end, c.loop-node-test.false) in
    rw (e, take-length R) at c.loop-node.invariant
