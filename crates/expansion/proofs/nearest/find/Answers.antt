-- What the search does not find itself: the laws of Progress, and of Finding for the found nodes, at each place.
use Rattle.std.proofs.Common.{refl, ◌∙◌, ◌<◌, inl, arith}
use Rattle.expansion.proofs.Beside.{progress_beside}
use Rattle.expansion.proofs.AreaSearch.{took_area}
use Rattle.expansion.proofs.Progress.{all_leads, progress_begun, progress_start, took_place, took_fits, took_follow, frame_settled, progress_settled}
use Rattle.expansion.proofs.Finding.{finding_start, found_when, labels_when, found_emptied, found_far, found_nodes, noted_fits, noted_beside, noted_few, finding_noted}
use Rattle.expansion.proofs.nearest.find.Goals as goal

pub loop-search-init : goal.loop-search-init
loop-search-init c =
    let p = c.requires.expand in
    let t = rw c.nodes-n.ensures at c.start.ensures in
    record {
      size = refl;
      progress = progress_start p.accepted p t;
      finding = finding_start c.requires.blank (progress_begun p.accepted p t);
      many = omega arith;
      tally_low = omega arith;
    }

pub next-requires : goal.next-requires
next-requires c = rw c.nodes-n.ensures c.loop-search.invariant.progress.area.queue

-- nothing waits any more
pub returns-in_default : goal.returns-in_default
returns-in_default c =
    let inv = c.loop-search.invariant in
    let t = c.in_default.ensures in
    let r = found_emptied c.requires.expand.accepted c.requires.few inv.many inv.progress inv.finding t.0 (omega (arith, c.ranges.e.fits)) in
    rw t.1
    (record {
      size = inv.size ∙ c.start.ensures.frame.size;
      found_in = r.0;
      labels = r.1;
      area = rw t.0 at inv.progress.area;
    })

-- the entry that was taken has a label from e on
pub returns-then-e-taken : goal.returns-then-e-taken
returns-then-e-taken c =
    let inv = c.loop-search.invariant in
    let t = rw c.nodes-n.ensures at c.in-Some.ensures in
    let ok = c.requires.expand.accepted in
    let r = found_far ok c.requires.few inv.many inv.progress inv.finding t (omega arith) in
    record {
      size = t.popped.frame.size ∙ inv.size ∙ c.start.ensures.frame.size;
      found_in = r.0;
      labels = r.1;
      area = took_area ok inv.progress.area inv.progress.searched t;
    }

pub settle-requires : goal.settle-requires
settle-requires c =
    let t = rw c.nodes-n.ensures at c.in-Some.ensures in
    rw c.nodes-n.ensures (took_fits c.requires.expand.accepted c.loop-search.invariant.progress t)

-- the arcs of its node are followed
pub open-requires : goal.open-requires
open-requires c =
    let t = rw c.nodes-n.ensures at c.in-Some.ensures in
    rw (c.settle.ensures, c.nodes-n.ensures) (took_follow c.requires.expand.accepted c.loop-search.invariant.progress t)

pub note-requires : goal.note-requires
note-requires c =
    let inv = c.loop-search.invariant in
    let t = rw c.nodes-n.ensures at c.in-Some.ensures in
    let ok = c.requires.expand.accepted in
    let f = rw (c.settle.ensures, c.nodes-n.ensures) at c.open.ensures in
    let near : c.in-Some.taken.label < c.args.e = omega arith in
    noted_fits ok c.requires.few inv.many inv.progress inv.finding t f near c.loop-search-test.true

pub loop-search-smaller : goal.loop-search-smaller
loop-search-smaller c =
    let t = rw c.nodes-n.ensures at c.in-Some.ensures in
    omega (arith, c.nodes-n.ensures, took_place c.requires.expand.accepted c.loop-search.invariant.progress t)

-- where a node is noted, only words before the area change
pub loop-search-preserved : goal.loop-search-preserved
loop-search-preserved c =
    let inv = c.loop-search.invariant in
    let t = rw c.nodes-n.ensures at c.in-Some.ensures in
    let ok = c.requires.expand.accepted in
    let few = c.requires.few in
    let near : c.in-Some.taken.label < c.args.e = omega arith in
    let place = c.loop-search-test.true in
    let f = rw (c.settle.ensures, c.nodes-n.ensures) at c.open.ensures in
    let beside = noted_beside ok few inv.many inv.progress inv.finding t f near place c.note.ensures in
    record {
      size = beside.size ∙ (frame_settled ok inv.progress t (all_leads ok _) f).size ∙ inv.size;
      progress = progress_beside beside ok (progress_settled ok inv.progress t (all_leads ok _) f);
      finding = finding_noted ok few inv.many inv.progress inv.finding t f near place c.note.ensures c.add.ensures.0;
      many = noted_few ok few inv.many inv.progress inv.finding t f near place c.note.ensures;
      tally_low = omega (arith, inv.tally_low, c.add.ensures.1);
    }

pub returns : goal.returns
returns c =
    let inv = c.loop-search.invariant in
    record {
      size = inv.size ∙ c.start.ensures.frame.size;
      found_in = found_when inv.finding (found_nodes c.requires.expand.accepted c.requires.few inv.many inv.progress inv.finding) (inl c.loop-search-test.false);
      labels = labels_when inv.finding;
      area = inv.progress.area;
    }
