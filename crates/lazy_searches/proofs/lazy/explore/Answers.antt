-- Each turn takes an entry (`c.in-Some`); its node is verified, where it is a point (`discovered`).
use Rattle.std.proofs.Common.{refl, sym, ◌≡◌, ◌∙◌, inl, inr, length, length-set}
use borrow.Author.Tests.{leb-true}
use Rattle.lazy_searches.proofs.LazySearch.{arrived_fits, arrived_follows, arrived_less}
use Rattle.lazy_searches.proofs.Lazily.{lazily_start, parent_inside, node_fits, lazily_dropped, can_discover, discovered, lazily_stopped, lazily_opened, lazily_listed}
use Rattle.lazy_searches.proofs.lazy.explore.Goals as goal

pub loop-label-init : goal.loop-label-init
loop-label-init c = record { size = refl; lazily = lazily_start c.requires (rw c.nodes-n.ensures at c.start.ensures) }

pub loop-label-preserved-then-is_closed : goal.loop-label-preserved-then-is_closed
loop-label-preserved-then-is_closed c =
    let inv = c.loop-label.invariant in
    let t = rw c.nodes-n.ensures at c.in-Some.ensures in
    record {
      size = t.popped.frame.size ∙ inv.size;
      lazily = lazily_dropped c.requires inv.lazily t (inl (leb-true c.args.k _ (sym c.is_closed.ensures ∙ c.if-is_closed.true)));
    }

pub is_closed-requires-in-Some : goal.is_closed-requires-in-Some
is_closed-requires-in-Some c =
    let inv = c.loop-label.invariant in
    let t = rw c.nodes-n.ensures at c.in-Some.ensures in
    node_fits c.requires inv.lazily t _ (parent_inside c.requires inv.lazily t)

pub loop-label-preserved-then-is_closed-2 : goal.loop-label-preserved-then-is_closed-2
loop-label-preserved-then-is_closed-2 c =
    let inv = c.loop-label.invariant in
    let t = rw c.nodes-n.ensures at c.in-Some.ensures in
    record {
      size = t.popped.frame.size ∙ inv.size;
      lazily = lazily_dropped c.requires inv.lazily t (inr (leb-true c.args.k _ (sym c.is_closed-in-Some.ensures ∙ c.if-is_closed-2.true)));
    }

pub discover-requires : goal.discover-requires
discover-requires c = can_discover c.requires c.loop-label.invariant.lazily (rw c.nodes-n.ensures at c.in-Some.ensures)

pub settle-requires : goal.settle-requires
settle-requires c =
    let d = discovered c.requires c.loop-label.invariant.lazily (rw c.nodes-n.ensures at c.in-Some.ensures) c.discover.ensures in
    rw c.nodes-n.ensures (arrived_fits c.requires.accepted d.arrived)

-- the node was counted k times
pub loop-label-preserved-then-is_closed-3 : goal.loop-label-preserved-then-is_closed-3
loop-label-preserved-then-is_closed-3 c =
    let inv = c.loop-label.invariant in
    let t = rw c.nodes-n.ensures at c.in-Some.ensures in
    let d = discovered c.requires inv.lazily t c.discover.ensures in
    let sized : length c.discover.new.s ≡ length c.loop-label.s = c.discover.ensures.size ∙ t.popped.frame.size in
    let full = leb-true c.args.k _ (sym c.is_closed-in-Some-2.ensures ∙ c.if-is_closed-3.true) in
    record {
      size = rw c.settle.ensures (simp length-set (sized ∙ inv.size));
      lazily = lazily_stopped c.requires d (rw c.nodes-n.ensures at c.settle.ensures) full;
    }

pub open-len-requires : goal.open-len-requires
open-len-requires c =
    let d = discovered c.requires c.loop-label.invariant.lazily (rw c.nodes-n.ensures at c.in-Some.ensures) c.discover.ensures in
    rw (c.settle.ensures, c.nodes-n.ensures) (arrived_follows c.requires.accepted d.arrived)

pub loop-label-smaller : goal.loop-label-smaller
loop-label-smaller c =
    let d = discovered c.requires c.loop-label.invariant.lazily (rw c.nodes-n.ensures at c.in-Some.ensures) c.discover.ensures in
    arrived_less c.requires.accepted d.arrived c.loop-label.len c.open-len.ensures.queue.fits

-- the arcs of the node are followed
pub loop-label-preserved : goal.loop-label-preserved
loop-label-preserved c =
    let inv = c.loop-label.invariant in
    let t = rw c.nodes-n.ensures at c.in-Some.ensures in
    let d = discovered c.requires inv.lazily t c.discover.ensures in
    let sized : length c.discover.new.s ≡ length c.loop-label.s = c.discover.ensures.size ∙ t.popped.frame.size in
    let f = rw (c.settle.ensures, c.nodes-n.ensures) at c.open-len.ensures in
    record { size = f.frame.size ∙ simp length-set (sized ∙ inv.size); lazily = lazily_opened c.requires d f }

-- nothing waits any more
pub returns : goal.returns
returns c =
    let inv = c.loop-label.invariant in
    let t = c.in_default.ensures in
    rw t.1 (record { size = inv.size ∙ c.start.ensures.frame.size; found = lazily_listed c.requires inv.lazily t.0 })
