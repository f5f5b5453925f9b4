-- Each turn takes an entry (`c.in-Some`) and looks at its node; what was taken is told as if the flags had been set before (`looked_exploring`, `looked_took`).
use Rattle.std.proofs.Common.{refl, ◌≡◌, ◌<◌, ◌∙◌, length-set, arith}
use Rattle.expansion.proofs.AreaLaws.{moved_same}
use Rattle.expansion.proofs.AreaSearch.{took_area}
use Rattle.expansion.proofs.Progress.{took_place, took_follow, frame_settled}
use Rattle.searches.proofs.Searching.{leads, can_look, beside_old, looked_took, looked_told, many_beaten, found_all}
use Rattle.searches.proofs.Exploring.{from_site, exploring_start, few_counted, few_visits, looked_exploring, looked_visited, few_expanded, beyond, next_visit, visited_kept, exploring_stopped, exploring_opened, exploring_kept, visited_more, count_all}
use Rattle.searches.proofs.eager.explore.Goals.{else-tally-k-via-then-tally-k+else-count-limit, else-tally-k-via-else-tally-k}
use Rattle.searches.proofs.eager.explore.Goals as goal

pub loop-taken-init : goal.loop-taken-init
loop-taken-init c = (refl, exploring_start c.requires c.args.limit (rw c.nodes-n.ensures at c.start.ensures), λ i h. absurd (omega arith))

-- nothing waits any more
pub returns : goal.returns
returns c =
    let inv = c.loop-taken.invariant in
    let e = inv.1 in
    let t = c.in_default.ensures in
    let all = count_all c.requires e t.0 in
    rw t.1
    record {
      size = inv.0 ∙ c.start.ensures.frame.size;
      area = rw t.0 at e.searching.progress.area;
      blank = e.searching.blank;
      few = λ x a. let y : c.loop-taken.count ≡ x = cc in rw (← y) (few_counted c.requires e);
      complete =
          λ x a.
          let y : c.loop-taken.count ≡ x = cc in
          rw (← y)
          record { all = all; within = rw (← all) e.within; found = found_all (from_site c.requires) e.searching t.0; visited = inv.2 };
      beyond = λ a. absurd (cc);
    }

pub look-tally-requires : goal.look-tally-requires
look-tally-requires c = can_look (from_site c.requires) c.loop-taken.invariant.1.searching (rw c.nodes-n.ensures at c.in-Some.ensures)

-- the count would exceed the limit
pub returns-then-count-limit : goal.returns-then-count-limit
returns-then-count-limit c =
    let ok = c.requires.search.accepted in
    let inv = c.loop-taken.invariant in
    let t0 = rw c.nodes-n.ensures at c.in-Some.ensures in
    let k = c.look-tally.ensures in
    let b = beside_old (from_site c.requires) inv.1.searching t0 k in
    let e = looked_exploring c.requires inv.1 t0 k in
    let t = looked_took (from_site c.requires) inv.1.searching t0 k in
    record {
      size = t.popped.frame.size ∙ b.size ∙ inv.0 ∙ c.start.ensures.frame.size;
      area = took_area ok e.searching.progress.area e.searching.progress.searched t;
      blank = λ j h m. t.popped.frame.before j m ∙ e.searching.blank j h m;
      few = λ x a. absurd (cc);
      complete = λ x a. absurd (cc);
      beyond = λ a. omega (arith, beyond c.requires e t (few_expanded c.requires e t k.looked.count c.if-tally-k.true), c.if-count-limit.true);
    }

pub loop-taken-smaller-then-k-tally : goal.loop-taken-smaller-then-k-tally
loop-taken-smaller-then-k-tally c = omega (arith, took_place c.requires.search.accepted c.loop-taken.invariant.1.searching.progress (rw c.nodes-n.ensures at c.in-Some.ensures))

-- the node is beaten, and the search stops behind it
pub loop-taken-preserved-then-k-tally : goal.loop-taken-preserved-then-k-tally
loop-taken-preserved-then-k-tally c =
    let inv = c.loop-taken.invariant in
    let t0 = rw c.nodes-n.ensures at c.in-Some.ensures in
    let k = c.look-tally.ensures in
    let s = from_site c.requires in
    let b = beside_old s inv.1.searching t0 k in
    let e = looked_exploring c.requires inv.1 t0 k in
    let t = looked_took s inv.1.searching t0 k in
    let told = looked_told s inv.1.searching t0 k in
    let x = exploring_stopped c.requires e t told (many_beaten s e.searching t k.looked.count c.if-k-tally.true) in (
      rw c.settle.ensures (simp length-set (t.popped.frame.size ∙ b.size ∙ inv.0)),
      rw (c.settle.ensures, c.nodes-n.ensures) x,
      rw (c.settle.ensures, c.nodes-n.ensures) (visited_kept c.requires e t moved_same (looked_visited c.requires inv.1 t0 k inv.2)),
    )

pub open-len-requires : goal.open-len-requires
open-len-requires c =
    let inv = c.loop-taken.invariant in
    let t0 = rw c.nodes-n.ensures at c.in-Some.ensures in
    let e = looked_exploring c.requires inv.1 t0 c.look-tally.ensures in
    let t = looked_took (from_site c.requires) inv.1.searching t0 c.look-tally.ensures in
    rw (c.settle.ensures, c.nodes-n.ensures) (took_follow c.requires.search.accepted e.searching.progress t)

-- the visit has its word
pub bounds-s-a : goal.bounds-s-a
bounds-s-a c =
    let p = c.requires in
    let inv = c.loop-taken.invariant in
    let t0 = rw c.nodes-n.ensures at c.in-Some.ensures in
    let k = c.look-tally.ensures in
    let s = from_site p in
    let b = beside_old s inv.1.searching t0 k in
    let e = looked_exploring p inv.1 t0 k in
    let t = looked_took s inv.1.searching t0 k in
    let f = rw (c.settle.ensures, c.nodes-n.ensures) at c.open-len.ensures in
    let place = few_visits p (beyond p e t (few_expanded p e t k.looked.count c.if-k-tally.false)) in
    let size = (frame_settled p.search.accepted e.searching.progress t (leads s) f).size in
    omega (arith, c.nodes-n.ensures, place, size, b.size, inv.1.searching.progress.area.queue.room, p.base)

pub loop-taken-smaller : goal.loop-taken-smaller
loop-taken-smaller c = omega (arith, took_place c.requires.search.accepted c.loop-taken.invariant.1.searching.progress (rw c.nodes-n.ensures at c.in-Some.ensures))

-- the node is expanded and counted, its arcs are followed, and it is kept as the next visit
pub loop-taken-preserved : goal.loop-taken-preserved
loop-taken-preserved c =
    let p = c.requires in
    let inv = c.loop-taken.invariant in
    let t0 = rw c.nodes-n.ensures at c.in-Some.ensures in
    let k = c.look-tally.ensures in
    let s = from_site p in
    let b = beside_old s inv.1.searching t0 k in
    let e = looked_exploring p inv.1 t0 k in
    let t = looked_took s inv.1.searching t0 k in
    let told = looked_told s inv.1.searching t0 k in
    let f = rw (c.settle.ensures, c.nodes-n.ensures) at c.open-len.ensures in
    let y = few_expanded p e t k.looked.count c.if-k-tally.false in
    let place = few_visits p (beyond p e t y) in
    let below : c.loop-taken.count < c.args.limit =
    elim c.else-tally-k.branch [
      | else-tally-k-via-then-tally-k+else-count-limit w ↦ omega (arith, inv.1.within, w.if-count-limit.false)
      | else-tally-k-via-else-tally-k w ↦ absurd (omega (arith, w.if-tally-k.false, c.if-k-tally.false))
    ] in
    let x = exploring_opened p e t told y below f in
    let v = visited_kept p e t f.frame (looked_visited p inv.1 t0 k inv.2) in (
      simp length-set ((frame_settled p.search.accepted e.searching.progress t (leads s) f).size ∙ b.size ∙ inv.0),
      rw c.nodes-n.ensures (exploring_kept p x c.loop-taken.count _ place),
      rw c.nodes-n.ensures (visited_more p x c.loop-taken.count _ place v (next_visit p e t y)),
    )
