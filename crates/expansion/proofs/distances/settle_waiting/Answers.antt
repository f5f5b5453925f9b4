-- What the search does not find itself: the laws of Progress, at each place.
use Rattle.std.proofs.Common.{arith}
use Rattle.expansion.proofs.AreaLaws.{kept_same, kept_trans}
use Rattle.expansion.proofs.Progress.{all_lead, took_place, took_follow, frame_settled, progress_settled}
use Rattle.expansion.proofs.Waiting.{progress_waiting, settled_from}
use Rattle.expansion.proofs.Several.{several_lawful}
use Rattle.expansion.proofs.distances.settle_waiting.Goals as goal

pub loop-taken-init : goal.loop-taken-init
loop-taken-init c = record { kept = kept_same; progress = progress_waiting c.requires.accepted c.requires.area }

pub returns : goal.returns
returns c =
    let told = c.in_default.ensures in
    rw told.1 (settled_from c.requires.accepted c.loop-taken.invariant.progress told.0 c.loop-taken.invariant.kept)

-- the arcs of the node are followed
pub open-len-requires : goal.open-len-requires
open-len-requires c =
    rw (c.settle.ensures, c.nodes-n.ensures) (took_follow c.requires.accepted c.loop-taken.invariant.progress (rw c.nodes-n.ensures at c.in-Some.ensures))

pub loop-taken-smaller : goal.loop-taken-smaller
loop-taken-smaller c = omega (arith, took_place c.requires.accepted c.loop-taken.invariant.progress (rw c.nodes-n.ensures at c.in-Some.ensures))

pub loop-taken-preserved : goal.loop-taken-preserved
loop-taken-preserved c =
    let ok = c.requires.accepted in
    let inv = c.loop-taken.invariant in
    let t = rw c.nodes-n.ensures at c.in-Some.ensures in
    let lead = all_lead (several_lawful ok _) in
    let f = rw (c.settle.ensures, c.nodes-n.ensures) at c.open-len.ensures in
    record {
      kept = kept_trans inv.kept (frame_settled ok inv.progress t lead f);
      progress = progress_settled ok inv.progress t lead f;
    }
