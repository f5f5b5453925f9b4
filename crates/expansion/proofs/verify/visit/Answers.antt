-- What the search does not find itself: the laws of Progress, and of VisitLaws for the tally and the answer, at each place.
use Rattle.std.proofs.Common.{refl, inl, inr, arith}
use borrow.Author.Tests.{lt-ltb, le-ltb}
use Rattle.expansion.proofs.AreaLaws.{kept_trans}
use Rattle.expansion.proofs.Progress.{all_leads, progress_begun, progress_start, took_place, took_fits, took_follow, frame_settled, progress_settled}
use Rattle.expansion.proofs.VisitLaws.{came_sum, counted_start, visit_none, visit_ends, visit_counts}
use Rattle.expansion.proofs.verify.visit.Goals.{then-k-tally-via-then-k-tally, then-k-tally-via-else-k-tally+then-here}
use Rattle.expansion.proofs.verify.visit.Goals as goal

pub loop-taken-init : goal.loop-taken-init
loop-taken-init c =
    let p = c.requires.expand in
    let begun = rw c.nodes-n.ensures at c.start.ensures in
    let none = c.default-tally.ensures in
    record {
      kept = record { size = begun.frame.size; words = begun.frame.before };
      progress = progress_start p.accepted p begun;
      counted = rw (none.0, none.1.0, none.1.1) (counted_start c.args.g.now c.args.points.now c.args.p _ p.blank (progress_begun p.accepted p begun));
      sum_low = omega arith;
    }

pub next-requires : goal.next-requires
next-requires c = rw c.nodes-n.ensures c.loop-taken.invariant.progress.area.queue

-- nothing waits any more
pub returns : goal.returns
returns c =
    let inv = c.loop-taken.invariant in
    let t = c.in_default.ensures in
    rw t.1 (visit_none c.requires.expand.accepted c.args.k inv.kept inv.progress inv.counted t.0)

-- behind label 0 the tally decides
pub returns-then-taken-gt0 : goal.returns-then-taken-gt0
returns-then-taken-gt0 c =
    let inv = c.loop-taken.invariant in
    let t = rw c.nodes-n.ensures at c.in-Some.ensures in
    visit_ends c.requires.expand.accepted inv.progress t c.args.site c.requires.inside inv.kept inv.counted c.come_to-tally.ensures c.is_site-here.ensures c.args.k
    (elim c.then-k-tally.branch [ then-k-tally-via-then-k-tally w ↦ inl w.if-k-tally.true | then-k-tally-via-else-k-tally+then-here w ↦ inr w.if-here.true ])
    (rw (lt-ltb 0 c.in-Some.taken.label (omega arith)) refl)

-- p is on the site, or k is 0
pub returns-else-taken-gt0 : goal.returns-else-taken-gt0
returns-else-taken-gt0 c =
    let inv = c.loop-taken.invariant in
    let t = rw c.nodes-n.ensures at c.in-Some.ensures in
    visit_ends c.requires.expand.accepted inv.progress t c.args.site c.requires.inside inv.kept inv.counted c.come_to-tally.ensures c.is_site-here.ensures c.args.k
    (elim c.then-k-tally.branch [ then-k-tally-via-then-k-tally w ↦ inl w.if-k-tally.true | then-k-tally-via-else-k-tally+then-here w ↦ inr w.if-here.true ])
    (rw (le-ltb 0 c.in-Some.taken.label (omega arith)) refl)

pub settle-requires : goal.settle-requires
settle-requires c =
    let t = rw c.nodes-n.ensures at c.in-Some.ensures in
    rw c.nodes-n.ensures (took_fits c.requires.expand.accepted c.loop-taken.invariant.progress t)

-- the arcs of its node are followed
pub open-len-requires : goal.open-len-requires
open-len-requires c =
    let t = rw c.nodes-n.ensures at c.in-Some.ensures in
    rw (c.settle.ensures, c.nodes-n.ensures) (took_follow c.requires.expand.accepted c.loop-taken.invariant.progress t)

pub loop-taken-smaller : goal.loop-taken-smaller
loop-taken-smaller c =
    let t = rw c.nodes-n.ensures at c.in-Some.ensures in
    omega (arith, c.nodes-n.ensures, took_place c.requires.expand.accepted c.loop-taken.invariant.progress t)

pub loop-taken-preserved : goal.loop-taken-preserved
loop-taken-preserved c =
    let ok = c.requires.expand.accepted in
    let inv = c.loop-taken.invariant in
    let t = rw c.nodes-n.ensures at c.in-Some.ensures in
    let f = rw (c.settle.ensures, c.nodes-n.ensures) at c.open-len.ensures in
    record {
      kept = kept_trans inv.kept (frame_settled ok inv.progress t (all_leads ok _) f);
      progress = progress_settled ok inv.progress t (all_leads ok _) f;
      counted = visit_counts ok inv.progress t c.args.site c.requires.inside inv.kept inv.counted c.come_to-tally.ensures c.is_site-here.ensures c.if-here.false f c.counts.ensures.0;
      sum_low = omega (arith, inv.sum_low, came_sum c.come_to-tally.ensures, c.counts.ensures.1);
    }
