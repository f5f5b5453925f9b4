-- Arc j offers its own key, of the node that it leads to.
use Rattle.std.proofs.Common.{ℕ, ◌+◌, ◌<◌, ◌≡◌, List, get_or, arith}
use Rattle.network.specs.Network.{Network, node_count, neighbours_of, weights_of}
use Rattle.network.specs.Accepted.{Accepted}
use Rattle.network.proofs.NumberZero.{node_parts}
use Rattle.network.proofs.ArcAt.{ArcAt, arc_handed}
use Rattle.expansion.specs.Queue.{key_of}
use Rattle.expansion.specs.Tags.{tag_of, node_of}
use Rattle.expansion.specs.Area.{arc_key}
use Rattle.expansion.proofs.AreaLaws.{followed_more}
use Rattle.expansion.proofs.AreaSearch.{key_node_of}
use Rattle.expansion.proofs.step.open.Goals as goal

handed_key : {g : Network} {u j : ℕ} {xs ys : List ℕ} → ArcAt g u j xs ys → (l tag : ℕ) → tag ≡ tag_of (get_or xs j 0) u → key_of (l + get_or ys j 0) tag ≡ arc_key g u l j
handed_key p l tag e = omega (arith, e, p.to, p.weight)

arc_node : {g : Network} {u j : ℕ} {xs ys : List ℕ} → Accepted g → u < node_count g → ArcAt g u j xs ys → (l : ℕ) → node_of (arc_key g u l j) ≡ get_or (neighbours_of g u) j 0
arc_node {g} {u} {j} ok h p l = key_node_of ok (l + get_or (weights_of g u) j 0) (get_or (neighbours_of g u) j 0) u (ok.leads_in p.arc) h

pub neighbours_of-neighbours-requires : goal.neighbours_of-neighbours-requires
neighbours_of-neighbours-requires c = (node_parts c.requires.accepted c.requires.inside).0

pub weights_of-weights-requires : goal.weights_of-weights-requires
weights_of-weights-requires c = (node_parts c.requires.accepted c.requires.inside).1

pub bounds-weights-j : goal.bounds-weights-j
bounds-weights-j c =
    (arc_handed c.requires.accepted c.requires.inside c.neighbours_of-neighbours.ensures c.weights_of-weights.ensures c.loop-j-test.true).weighed

pub overflow_add-far : goal.overflow_add-far
overflow_add-far c =
    let p = arc_handed c.requires.accepted c.requires.inside c.neighbours_of-neighbours.ensures c.weights_of-weights.ensures c.loop-j-test.true in
    omega (arith, c.requires.accepted.weight_high p.arc, p.weight, c.requires.fits)

pub tag_of-tag-requires : goal.tag_of-tag-requires
tag_of-tag-requires c =
    let p = arc_handed c.requires.accepted c.requires.inside c.neighbours_of-neighbours.ensures c.weights_of-weights.ensures c.loop-j-test.true in
    let few = c.requires.accepted.few in
    (omega (arith, c.requires.accepted.leads_in p.arc, p.to, few), omega (arith, c.requires.inside, few))

pub offer-more-requires-clause-tag_bound : goal.offer-more-requires-clause-tag_bound
offer-more-requires-clause-tag_bound c =
    let ok = c.requires.accepted in
    let p = arc_handed ok c.requires.inside c.neighbours_of-neighbours.ensures c.weights_of-weights.ensures c.loop-j-test.true in
    rw (c.nodes-n.ensures, handed_key p c.args.label c.tag_of-tag.result c.tag_of-tag.ensures, arc_node ok c.requires.inside p c.args.label) (ok.leads_in p.arc)

pub loop-j-preserved : goal.loop-j-preserved
loop-j-preserved c =
    let ok = c.requires.accepted in
    let p = arc_handed ok c.requires.inside c.neighbours_of-neighbours.ensures c.weights_of-weights.ensures c.loop-j-test.true in
    followed_more c.loop-j.invariant (rw (c.nodes-n.ensures, handed_key p c.args.label c.tag_of-tag.result c.tag_of-tag.ensures) at c.offer-more.ensures) (ok.leads_in p.arc) (arc_node ok c.requires.inside p c.args.label)
