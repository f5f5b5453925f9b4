-- A node's neighbours rise, so an arc stands at its place or nowhere.
use Rattle.std.proofs.Common.{sym, ap, length, arith}
use Rattle.network.proofs.NodeArcs.{parts_even}
use Rattle.network.proofs.CheckTests.{halved, halved_none, arc_there, arc_nowhere}
use Rattle.network.proofs.arcs.Network.has_arc.Goals as goal

pub bounds-weights_of-place : goal.bounds-weights_of-place
bounds-weights_of-place c =
    let s = c.requires.searchable in
    let e = ap length c.neighbours_of.ensures in
    let f = ap length c.weights_of.ensures in
    omega (arith, e, f, c.in-Ok.ensures.bound, parts_even (s.neighbours.part _ c.requires.b_in_bounds) (s.weights.part _ c.requires.b_in_bounds))

pub returns-in-Ok : goal.returns-in-Ok
returns-in-Ok c =
    let up = c.requires.searchable.ascending _ c.requires.b_in_bounds in
    let h = halved up (rw (c.in-Ok.is, c.neighbours_of.ensures) at c.binary_search.ensures.position) in
    rw c.weights_of.ensures (arc_there _ _ _ _ _ up h.0 h.1)

pub returns-in-Err : goal.returns-in-Err
returns-in-Err c =
    let up = c.requires.searchable.ascending _ c.requires.b_in_bounds in
    sym (arc_nowhere _ _ _ _ (halved_none up (rw (c.in-Err.is, c.neighbours_of.ensures) at c.binary_search.ensures.position)))
