-- Each turn takes an entry (`c.in-Some`), the second expansion goes on (`c.advance-waiting`), and the node is come to (`coming`).
use Rattle.std.proofs.Common.{refl, ◌∙◌, length-set}
use Rattle.lazy_searches.proofs.LazySearch.{arrived_fits, arrived_follows, arrived_less}
use Rattle.lazy_searches.proofs.LazyEpLaws.{extending_start, can_advance, advanced_size, extending_dropped, can_discover, coming, come_size, kept_settled, extending_stopped, extending_opened, extended_listed}
use Rattle.lazy_searches.proofs.lazy_ep.settle_found.Goals as goal

pub loop-label-init : goal.loop-label-init
loop-label-init c = record { size = refl; extending = extending_start c.requires (rw c.nodes-n.ensures at c.start.ensures) }

pub advance-waiting-requires : goal.advance-waiting-requires
advance-waiting-requires c = can_advance c.requires c.loop-label.invariant.extending (rw c.nodes-n.ensures at c.in-Some.ensures)

pub loop-label-preserved-then-taken_back : goal.loop-label-preserved-then-taken_back
loop-label-preserved-then-taken_back c =
    let inv = c.loop-label.invariant in
    let t = rw c.nodes-n.ensures at c.in-Some.ensures in
    let a = c.advance-waiting.ensures in
    record {
      size = advanced_size c.requires inv.extending t a ∙ inv.size;
      extending = extending_dropped c.requires inv.extending t a (rw c.nodes-n.ensures at (c.taken_back.ensures c.if-taken_back.true));
    }

pub discover-waiting-requires : goal.discover-waiting-requires
discover-waiting-requires c = can_discover c.requires c.loop-label.invariant.extending (rw c.nodes-n.ensures at c.in-Some.ensures) c.advance-waiting.ensures

pub settle-requires : goal.settle-requires
settle-requires c =
    let t = rw c.nodes-n.ensures at c.in-Some.ensures in
    let d = coming c.requires c.loop-label.invariant.extending t c.advance-waiting.ensures c.discover-waiting.ensures in
    rw c.nodes-n.ensures (arrived_fits c.requires.accepted d.arrived)

-- k lockers are nearer to the node than the site
pub loop-label-preserved-then-closed : goal.loop-label-preserved-then-closed
loop-label-preserved-then-closed c =
    let inv = c.loop-label.invariant in
    let t = rw c.nodes-n.ensures at c.in-Some.ensures in
    let d = coming c.requires inv.extending t c.advance-waiting.ensures c.discover-waiting.ensures in
    let size = come_size c.requires inv.extending t c.advance-waiting.ensures c.discover-waiting.ensures in
    record {
      size = rw c.settle.ensures (simp length-set (size ∙ inv.size));
      extending = rw (c.settle.ensures, c.nodes-n.ensures) (extending_stopped c.requires d (rw (c.settle.ensures, c.nodes-n.ensures) at (c.closed.ensures c.if-closed.true)));
    }

pub open-len-requires : goal.open-len-requires
open-len-requires c =
    let t = rw c.nodes-n.ensures at c.in-Some.ensures in
    let d = coming c.requires c.loop-label.invariant.extending t c.advance-waiting.ensures c.discover-waiting.ensures in
    rw (c.settle.ensures, c.nodes-n.ensures) (arrived_follows c.requires.accepted d.arrived)

pub loop-label-smaller : goal.loop-label-smaller
loop-label-smaller c =
    let t = rw c.nodes-n.ensures at c.in-Some.ensures in
    let d = coming c.requires c.loop-label.invariant.extending t c.advance-waiting.ensures c.discover-waiting.ensures in
    arrived_less c.requires.accepted d.arrived c.loop-label.len c.open-len.ensures.queue.fits

-- the arcs of the node are followed
pub loop-label-preserved : goal.loop-label-preserved
loop-label-preserved c =
    let inv = c.loop-label.invariant in
    let t = rw c.nodes-n.ensures at c.in-Some.ensures in
    let d = coming c.requires inv.extending t c.advance-waiting.ensures c.discover-waiting.ensures in
    let size = come_size c.requires inv.extending t c.advance-waiting.ensures c.discover-waiting.ensures in
    let f = rw (c.settle.ensures, c.nodes-n.ensures) at c.open-len.ensures in
    record {
      size = f.frame.size ∙ (kept_settled c.requires d).size ∙ size ∙ inv.size;
      extending = extending_opened c.requires d f;
    }

-- nothing waits any more
pub returns : goal.returns
returns c =
    let inv = c.loop-label.invariant in
    let t = c.in_default.ensures in
    rw t.1 (record { size = inv.size ∙ c.start.ensures.frame.size; found = extended_listed c.requires inv.extending t.0 })
