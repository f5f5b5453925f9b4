-- Arc j makes its own offer. A flag is as it was: the queue stands behind them.
use Rattle.std.proofs.Common.{◌∙◌, sym, get_or, arith}
use borrow.Author.Tests.{eq-eqb, eqb-true}
use Rattle.network.proofs.NumberZero.{node_parts}
use Rattle.network.proofs.ArcAt.{arc_handed}
use Rattle.expansion.proofs.EnteredLaws.{entered_passed, entered_pushed}
use Rattle.table.proofs.remove.offer_on.Goals as goal
use Rattle.table.proofs.remove.offer_on.Goals.{then-s-to-eq1, else-s-to-eq1}

pub neighbours_of-neighbours-requires : goal.neighbours_of-neighbours-requires
neighbours_of-neighbours-requires c = (node_parts c.requires.accepted c.requires.inside).0

pub weights_of-weights-requires : goal.weights_of-weights-requires
weights_of-weights-requires c = (node_parts c.requires.accepted c.requires.inside).1

pub bounds-s-to : goal.bounds-s-to
bounds-s-to c =
    let p = arc_handed c.requires.accepted c.requires.inside c.neighbours_of-neighbours.ensures c.weights_of-weights.ensures c.loop-j-test.true in
    omega (arith, c.requires.accepted.leads_in p.arc, p.to, c.loop-j.invariant.frame.size, c.requires.room)

pub bounds-weights-j : goal.bounds-weights-j
bounds-weights-j c =
    (arc_handed c.requires.accepted c.requires.inside c.neighbours_of-neighbours.ensures c.weights_of-weights.ensures c.loop-j-test.true).weighed

pub overflow_add-on : goal.overflow_add-on
overflow_add-on c =
    let p = arc_handed c.requires.accepted c.requires.inside c.neighbours_of-neighbours.ensures c.weights_of-weights.ensures c.loop-j-test.true in
    record { fits = omega (arith, c.requires.accepted.weight_high p.arc, p.weight, c.requires.fits) }

pub push-requires-clause-nodes : goal.push-requires-clause-nodes
push-requires-clause-nodes c =
    let p = arc_handed c.requires.accepted c.requires.inside c.neighbours_of-neighbours.ensures c.weights_of-weights.ensures c.loop-j-test.true in
    let few = c.requires.accepted.few in
    (omega (arith, c.requires.point), omega (arith, c.requires.accepted.leads_in p.arc, p.to))

pub loop-j-preserved : goal.loop-j-preserved
loop-j-preserved c =
    let p = arc_handed c.requires.accepted c.requires.inside c.neighbours_of-neighbours.ensures c.weights_of-weights.ensures c.loop-j-test.true in
    let f = c.loop-j.invariant in
    let kept = f.frame.words (get_or c.neighbours_of-neighbours.result.now c.loop-j.j 0) (rw p.to (c.requires.accepted.leads_in p.arc)) in
    elim c.if-s-to-eq1.branch [
      | then-s-to-eq1 w ↦
          rw (w.s-is, w.more-is) (entered_pushed f (eq-eqb _ 1 (rw p.to at (sym kept ∙ w.if-s-to-eq1.true))) (rw (c.nodes-n.ensures, p.to, p.weight) at w.push.ensures))
      | else-s-to-eq1 w ↦ rw (w.s-is, w.more-is) (entered_passed f (λ h. w.if-s-to-eq1.false (kept ∙ rw p.to (eqb-true _ 1 h))))
    ]
