-- The parts of the node (`neighbours_of`, `weights_of`), and its arc at place j (`arc_handed`).
use Rattle.std.proofs.Common.{ℕ, ◌≡◌, ◌+◌, List, get_or, arith}
use Rattle.network.specs.Network.{Network, neighbours_of, weights_of}
use Rattle.network.proofs.NumberZero.{node_parts}
use Rattle.network.proofs.ArcAt.{ArcAt, arc_handed}
use Rattle.expansion.specs.Queue.{key_of}
use Rattle.expansion.specs.Tags.{tag_of}
use Rattle.lazy_searches.proofs.SecondLaws.{offered_skip, offered_push}
use Rattle.lazy_searches.proofs.second.offer.Goals.{then-more-s, else-more-s}
use Rattle.lazy_searches.proofs.second.offer.Goals as goal

handed_key : {g : Network} {u j : ℕ} {xs ys : List ℕ} → ArcAt g u j xs ys → (p d tag : ℕ) → tag ≡ tag_of p (get_or xs j 0)
    → key_of (d + get_or ys j 0) tag ≡ key_of (d + get_or (weights_of g u) j 0) (tag_of p (get_or (neighbours_of g u) j 0))
handed_key a p d tag e = omega (arith, e, a.to, a.weight)

pub neighbours_of-ahead-requires : goal.neighbours_of-ahead-requires
neighbours_of-ahead-requires c = (node_parts c.requires.accepted c.requires.inside).0

pub weights_of-weighed-requires : goal.weights_of-weighed-requires
weights_of-weighed-requires c = (node_parts c.requires.accepted c.requires.inside).1

pub bounds-weighed-j : goal.bounds-weighed-j
bounds-weighed-j c =
    (arc_handed c.requires.accepted c.requires.inside c.neighbours_of-ahead.ensures c.weights_of-weighed.ensures c.loop-j-test.true).weighed

pub overflow_add-far : goal.overflow_add-far
overflow_add-far c =
    let a = arc_handed c.requires.accepted c.requires.inside c.neighbours_of-ahead.ensures c.weights_of-weighed.ensures c.loop-j-test.true in
    omega (arith, c.requires.accepted.weight_high a.arc, a.weight, c.requires.fits)

pub row_of-requires : goal.row_of-requires
row_of-requires c =
    let a = arc_handed c.requires.accepted c.requires.inside c.neighbours_of-ahead.ensures c.weights_of-weighed.ensures c.loop-j-test.true in
    rw c.nodes-n.ensures (omega (arith, c.requires.second.fits, c.loop-j.invariant.frame.size), omega (arith, c.requires.accepted.leads_in a.arc, a.to))

pub tag_of-tag-requires : goal.tag_of-tag-requires
tag_of-tag-requires c =
    let a = arc_handed c.requires.accepted c.requires.inside c.neighbours_of-ahead.ensures c.weights_of-weighed.ensures c.loop-j-test.true in
    let few = c.requires.accepted.few in
    (omega (arith, c.requires.point, few), omega (arith, c.requires.accepted.leads_in a.arc, a.to, few))

pub loop-j-preserved : goal.loop-j-preserved
loop-j-preserved c =
    let a = arc_handed c.requires.accepted c.requires.inside c.neighbours_of-ahead.ensures c.weights_of-weighed.ensures c.loop-j-test.true in
    elim c.if-more-s.branch [
      | then-more-s w ↦
          rw (w.s-is, w.more-is)
          (offered_push c.loop-j.invariant c.requires.accepted c.requires.point a.arc
          (rw (c.nodes-n.ensures, handed_key a c.args.p c.args.d w.tag_of-tag.result w.tag_of-tag.ensures) at w.push_at.ensures))
      | else-more-s w ↦ rw (w.s-is, w.more-is) (offered_skip c.loop-j.invariant)
    ]
