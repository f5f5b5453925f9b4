-- Each arc leads to a member, or the next node is taken in.
use Rattle.std.proofs.Common.{◌≡◌, ap, ◌∙◌, length, get_or, arith}
use Rattle.network.specs.Network.{node_count, neighbours_of}
use Rattle.network.proofs.NumberZero.{node_parts}
use Rattle.network.proofs.ArcAt.{arc_handed}
use Rattle.expansion.specs.Expand.{label_in}
use Rattle.sheet.proofs.Growing.{label_kept, followed_none, followed_past, followed_more}
use Rattle.sheet.proofs.list.follow.Goals.{then-label_of-near, else-label_of-near}
use Rattle.sheet.proofs.list.follow.Goals as goal

pub neighbours_of-ahead-requires : goal.neighbours_of-ahead-requires
neighbours_of-ahead-requires c = (node_parts c.requires.accepted c.requires.inside).0

pub weights_of-weighed-requires : goal.weights_of-weighed-requires
weights_of-weighed-requires c = (node_parts c.requires.accepted c.requires.inside).1

pub loop-j-init : goal.loop-j-init
loop-j-init c = followed_none c.args.g.now c.args.node c.requires.list

pub bounds-weighed-j : goal.bounds-weighed-j
bounds-weighed-j c = (arc_handed c.requires.accepted c.requires.inside c.neighbours_of-ahead.ensures c.weights_of-weighed.ensures c.loop-j-test.true).weighed

pub label_of-requires : goal.label_of-requires
label_of-requires c =
    let place = arc_handed c.requires.accepted c.requires.inside c.neighbours_of-ahead.ensures c.weights_of-weighed.ensures c.loop-j-test.true in
    omega (arith, place.to, c.requires.accepted.leads_in place.arc, c.loop-j.invariant.grows.list.room)

pub overflow_add-near : goal.overflow_add-near
overflow_add-near c =
    let place = arc_handed c.requires.accepted c.requires.inside c.neighbours_of-ahead.ensures c.weights_of-weighed.ensures c.loop-j-test.true in
    record {
      fits =
          omega (arith, rw c.nodes-n.ensures at c.label_of-near.ensures, c.requires.label, c.requires.accepted.weight_high place.arc, place.weight);
    }

pub take_in-members-requires : goal.take_in-members-requires
take_in-members-requires c =
    let place = arc_handed c.requires.accepted c.requires.inside c.neighbours_of-ahead.ensures c.weights_of-weighed.ensures c.loop-j-test.true in
    rw c.nodes-n.ensures
    record { list = c.loop-j.invariant.grows.list; inside = omega (arith, place.to, c.requires.accepted.leads_in place.arc) }

pub loop-j-preserved : goal.loop-j-preserved
loop-j-preserved c =
    let g = c.args.g.now in
    let place = arc_handed c.requires.accepted c.requires.inside c.neighbours_of-ahead.ensures c.weights_of-weighed.ensures c.loop-j-test.true in
    let inside = c.requires.accepted.leads_in place.arc in
    let behind =
    (rw c.nodes-n.ensures at c.label_of.ensures)
    ∙ ap (label_in (node_count g) c.loop-j.s 0) place.to
    ∙ label_kept c.loop-j.invariant.grows.frame (get_or (neighbours_of g c.args.node) c.loop-j.j 0) inside in
    let near = rw c.nodes-n.ensures at c.label_of-near.ensures in
    elim c.if-label_of-near.branch [
      | then-label_of-near w ↦
          rw (w.s-is, w.members-is)
          (followed_more c.loop-j.invariant c.requires.accepted c.requires.inside place.low
          (omega (arith, behind, w.if-label_of-near.true, near, place.weight))
          (rw (c.nodes-n.ensures, place.to) at w.take_in-members.ensures))
      | else-label_of-near w ↦
          rw (w.s-is, w.members-is)
          (followed_past c.loop-j.invariant (λ k. w.if-label_of-near.false (omega (arith, k, behind, near, place.weight))))
    ]

pub returns : goal.returns
returns c =
    let q : c.loop-j.j ≡ length (neighbours_of c.args.g.now c.args.node) =
    omega (arith, ap length c.neighbours_of-ahead.ensures, c.loop-j.auto.j-end, c.loop-j-test.false) in
    rw q at c.loop-j.invariant
