-- Arc j makes its own offer. A word of a row's size is as it was: the queue stands behind them.
use Rattle.std.proofs.Common.{◌<◌, get_or, arith}
use Rattle.network.specs.Network.{node_count}
use Rattle.network.proofs.NumberZero.{accepted_searchable}
use Rattle.network.proofs.ArcAt.{arc_handed}
use Rattle.expansion.proofs.EnteredLaws.{entered_passed, entered_pushed}
use Rattle.table.proofs.BuildSteps.{place_kept, none_kept, look_kept, place_not_none}
use Rattle.table.proofs.build.offer_on.Goals as goal
use Rattle.table.proofs.build.offer_on.Goals.{then-has_place_at, else-has_place_at}

pub neighbours_of-neighbours-requires : goal.neighbours_of-neighbours-requires
neighbours_of-neighbours-requires c = (accepted_searchable c.requires.can.accepted).neighbours.part _ (omega (arith, c.requires.can.inside))

pub weights_of-weights-requires : goal.weights_of-weights-requires
weights_of-weights-requires c = (accepted_searchable c.requires.can.accepted).weights.part _ (omega (arith, c.requires.can.inside))

pub has_place_at-requires : goal.has_place_at-requires
has_place_at-requires c =
    let q = c.requires.can in
    let p = arc_handed q.accepted q.inside c.neighbours_of-neighbours.ensures c.weights_of-weights.ensures c.loop-j-test.true in
    let low : get_or c.neighbours_of-neighbours.result.now c.loop-j.j 0 < node_count c.args.g.now = omega (arith, q.accepted.leads_in p.arc, p.to) in
    look_kept (c.loop-j.invariant.frame.words _ low) c.loop-j.invariant.frame.size (c.requires.looks _ low)

pub bounds-weights-j : goal.bounds-weights-j
bounds-weights-j c =
    (arc_handed c.requires.can.accepted c.requires.can.inside c.neighbours_of-neighbours.ensures c.weights_of-weights.ensures c.loop-j-test.true).weighed

pub overflow_add-on : goal.overflow_add-on
overflow_add-on c =
    let q = c.requires.can in
    let p = arc_handed q.accepted q.inside c.neighbours_of-neighbours.ensures c.weights_of-weights.ensures c.loop-j-test.true in
    record { fits = omega (arith, q.accepted.weight_high p.arc, p.weight, q.fits) }

pub push-requires-clause-nodes : goal.push-requires-clause-nodes
push-requires-clause-nodes c =
    let q = c.requires.can in
    let p = arc_handed q.accepted q.inside c.neighbours_of-neighbours.ensures c.weights_of-weights.ensures c.loop-j-test.true in
    let few = q.accepted.few in
    (omega (arith, q.point), omega (arith, q.accepted.leads_in p.arc, p.to))

pub loop-j-preserved : goal.loop-j-preserved
loop-j-preserved c =
    let q = c.requires.can in
    let p = arc_handed q.accepted q.inside c.neighbours_of-neighbours.ensures c.weights_of-weights.ensures c.loop-j-test.true in
    let f = c.loop-j.invariant in
    let kept = f.frame.words (get_or c.neighbours_of-neighbours.result.now c.loop-j.j 0) (omega (arith, q.accepted.leads_in p.arc, p.to)) in
    elim c.if-has_place_at.branch [
      | then-has_place_at w ↦
          rw (w.s-is, w.more-is)
          (entered_pushed f (rw p.to at (place_kept {xs = c.args.s.now} kept (c.has_place_at.ensures.yes w.if-has_place_at.true))) (rw (c.nodes-n.ensures, p.to, p.weight) at w.push.ensures))
      | else-has_place_at w ↦
          rw (w.s-is, w.more-is)
          (entered_passed f (λ h. place_not_none h (rw p.to at (none_kept {xs = c.args.s.now} kept (c.has_place_at.ensures.no w.if-has_place_at.false)))))
    ]
