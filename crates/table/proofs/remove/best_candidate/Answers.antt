-- The row of the node that arc j leads to is tried.
use Rattle.std.proofs.Common.{arith}
use Rattle.network.proofs.NumberZero.{node_parts}
use Rattle.network.proofs.ArcAt.{arc_handed}
use Rattle.table.proofs.RemoveSteps.{row_inside, chosen_lent}
use Rattle.table.proofs.remove.best_candidate.Goals as goal

pub neighbours_of-neighbours-requires : goal.neighbours_of-neighbours-requires
neighbours_of-neighbours-requires c = (node_parts c.requires.accepted c.requires.inside).0

pub weights_of-weights-requires : goal.weights_of-weights-requires
weights_of-weights-requires c = (node_parts c.requires.accepted c.requires.inside).1

pub row-requires : goal.row-requires
row-requires c = let h = row_inside c.requires.sized c.requires.inside in record { in_ids = h.0; in_dists = h.1 }

pub row-requires-in-loop-j : goal.row-requires-in-loop-j
row-requires-in-loop-j c =
    let ok = c.requires.accepted in
    let p = arc_handed ok c.requires.inside c.neighbours_of-neighbours.ensures c.weights_of-weights.ensures c.loop-j-test.true in
    let h = row_inside c.requires.sized (rw p.to (ok.leads_in p.arc)) in
    record { in_ids = h.0; in_dists = h.1 }

pub bounds-weights-j : goal.bounds-weights-j
bounds-weights-j c = (arc_handed c.requires.accepted c.requires.inside c.neighbours_of-neighbours.ensures c.weights_of-weights.ensures c.loop-j-test.true).weighed

pub best_of_row-best-requires : goal.best_of_row-best-requires
best_of_row-best-requires c =
    let ok = c.requires.accepted in
    let p = arc_handed ok c.requires.inside c.neighbours_of-neighbours.ensures c.weights_of-weights.ensures c.loop-j-test.true in
    omega (arith, p.weight, ok.weight_high p.arc)

pub loop-j-preserved : goal.loop-j-preserved
loop-j-preserved c =
    let ok = c.requires.accepted in
    let p = arc_handed ok c.requires.inside c.neighbours_of-neighbours.ensures c.weights_of-weights.ensures c.loop-j-test.true in
    let e = c.row-in-loop-j.ensures in
    chosen_lent c.requires.sized c.requires.inside _ _ p.to p.weight (rw p.to (ok.leads_in p.arc)) c.row.ensures.ids e.ids e.distances c.loop-j.invariant c.best_of_row-best.ensures
