-- A turn takes an offer out: its row refuses it, or takes it and offers it on.
use Rattle.std.proofs.Common.{refl, arith}
use Rattle.table.proofs.RemoveFilling.{filling_end, filling_can, filling_offer, filling_taken, taken_work, filling_skipped, skipped_falls}
use Rattle.table.proofs.remove.fill.Goals as goal

pub take_in-requires : goal.take_in-requires
take_in-requires c =
    let o = c.in-Some.offer in
    let t = c.in-Some.ensures in
    filling_can c.requires c.loop-offer.invariant o.node o.point o.distance refl (rw c.nodes-n.ensures at t.popped) t.some t.node_fits t.point_fits

pub offer_on-left-requires : goal.offer_on-left-requires
offer_on-left-requires c =
    let o = c.in-Some.offer in
    let t = c.in-Some.ensures in
    filling_offer c.requires c.loop-offer.invariant o.node o.point o.distance refl (rw c.nodes-n.ensures at t.popped) t.some t.node_fits t.point_fits c.take_in.ensures c.if-take_in.true

pub loop-offer-smaller-then-take_in : goal.loop-offer-smaller-then-take_in
loop-offer-smaller-then-take_in c =
    let o = c.in-Some.offer in
    let t = c.in-Some.ensures in
    taken_work c.requires c.loop-offer.invariant o.node o.point o.distance refl (rw c.nodes-n.ensures at t.popped) t.some t.node_fits t.point_fits c.take_in.ensures c.if-take_in.true
    c.offer_on-left.ensures

pub loop-offer-preserved-then-take_in : goal.loop-offer-preserved-then-take_in
loop-offer-preserved-then-take_in c =
    let o = c.in-Some.offer in
    let t = c.in-Some.ensures in
    filling_taken c.requires c.loop-offer.invariant o.node o.point o.distance refl (rw c.nodes-n.ensures at t.popped) t.some t.node_fits t.point_fits c.take_in.ensures c.if-take_in.true
    c.offer_on-left.ensures

pub loop-offer-smaller : goal.loop-offer-smaller
loop-offer-smaller c =
    let o = c.in-Some.offer in
    let t = c.in-Some.ensures in
    skipped_falls c.requires c.loop-offer.invariant o.node o.point o.distance refl (rw c.nodes-n.ensures at t.popped) t.some t.node_fits t.point_fits c.take_in.ensures c.if-take_in.false

pub loop-offer-preserved : goal.loop-offer-preserved
loop-offer-preserved c =
    let o = c.in-Some.offer in
    let t = c.in-Some.ensures in
    filling_skipped c.requires c.loop-offer.invariant o.node o.point o.distance refl (rw c.nodes-n.ensures at t.popped) t.some t.node_fits t.point_fits c.take_in.ensures c.if-take_in.false

pub returns : goal.returns
returns c =
    let h = c.in_default.ensures {u = tt} in
    rw h.1 (filling_end c.requires c.loop-offer.invariant (omega (arith, h.0)))
