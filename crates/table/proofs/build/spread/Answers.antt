-- A turn takes an offer out: its row refuses it, or takes it and offers it on.
use Rattle.std.proofs.Common.{◌≤◌, refl, ap, ◌∙◌, length, arith}
use Rattle.table.proofs.Filling.{filling_start, filling_table, can_append, filling_refused, refused_less, can_offer, taken_size, filling_taken, taken_less}
use Rattle.table.proofs.build.spread.Goals as goal

pub loop-offer-init : goal.loop-offer-init
loop-offer-init c = record { size = refl; filling = filling_start c.requires c.seed-left.ensures }

pub append_at-requires : goal.append_at-requires
append_at-requires c =
    let q = c.requires.can in
    let o = c.in-Some.offer in
    let t = c.in-Some.ensures in
    rw c.lockers_at-all.ensures.0
    (can_append q.accepted (omega (arith, q.least)) c.loop-offer.invariant.filling t.some o.node o.point o.distance t.node_fits t.point_fits (rw c.nodes-n.ensures at t.popped) q.most)

pub offer_on-left-requires : goal.offer_on-left-requires
offer_on-left-requires c =
    let q = c.requires.can in
    let o = c.in-Some.offer in
    let t = c.in-Some.ensures in
    can_offer q.accepted (omega (arith, q.least)) c.loop-offer.invariant.filling t.some o.node o.point o.distance t.node_fits t.point_fits (rw c.nodes-n.ensures at t.popped)
    (rw c.lockers_at-all.ensures.0 at (c.append_at.ensures.taken c.if-append_at.true))

pub loop-offer-smaller-then-append_at : goal.loop-offer-smaller-then-append_at
loop-offer-smaller-then-append_at c =
    let q = c.requires.can in
    let o = c.in-Some.offer in
    let t = c.in-Some.ensures in
    taken_less q.accepted (omega (arith, q.least)) c.loop-offer.invariant.filling t.some o.node o.point o.distance t.node_fits t.point_fits (rw c.nodes-n.ensures at t.popped)
    (rw c.lockers_at-all.ensures.0 at (c.append_at.ensures.taken c.if-append_at.true)) c.offer_on-left.ensures

pub loop-offer-preserved-then-append_at : goal.loop-offer-preserved-then-append_at
loop-offer-preserved-then-append_at c =
    let q = c.requires.can in
    let o = c.in-Some.offer in
    let t = c.in-Some.ensures in
    let some : 1 ≤ c.args.places = omega (arith, q.least) in
    let out = rw c.nodes-n.ensures at t.popped in
    let r = rw c.lockers_at-all.ensures.0 at (c.append_at.ensures.taken c.if-append_at.true) in
    record {
      size = taken_size q.accepted some c.loop-offer.invariant.filling t.some o.node o.point o.distance t.node_fits t.point_fits out r c.offer_on-left.ensures ∙ c.loop-offer.invariant.size;
      filling = filling_taken q.accepted some c.loop-offer.invariant.filling t.some o.node o.point o.distance t.node_fits t.point_fits out r c.offer_on-left.ensures;
    }

pub loop-offer-smaller : goal.loop-offer-smaller
loop-offer-smaller c =
    let q = c.requires.can in
    let o = c.in-Some.offer in
    let t = c.in-Some.ensures in
    refused_less q.accepted (omega (arith, q.least)) c.loop-offer.invariant.filling t.some o.node o.point o.distance t.node_fits t.point_fits (rw c.nodes-n.ensures at t.popped)
    (c.append_at.ensures.refused c.if-append_at.false)

pub loop-offer-preserved : goal.loop-offer-preserved
loop-offer-preserved c =
    let q = c.requires.can in
    let o = c.in-Some.offer in
    let t = c.in-Some.ensures in
    let out = rw c.nodes-n.ensures at t.popped in
    let r = c.append_at.ensures.refused c.if-append_at.false in
    record {
      size = ap length r.words ∙ out.size ∙ c.loop-offer.invariant.size;
      filling =
          filling_refused q.accepted (omega (arith, q.least)) c.loop-offer.invariant.filling t.some o.node o.point o.distance t.node_fits t.point_fits out r;
    }

pub returns : goal.returns
returns c =
    let h = c.in_default.ensures {u = tt} in
    record {
      size = ap length h.1 ∙ c.loop-offer.invariant.size ∙ c.seed-left.ensures.frame.size;
      table = filling_table c.requires.can.accepted c.loop-offer.invariant.filling (omega (arith, h.0));
    }
