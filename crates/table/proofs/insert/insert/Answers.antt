-- The laws of insert, turn by turn.
use Rattle.std.proofs.Common.{refl, ap, ◌∙◌, length, length-set, arith}
use Rattle.expansion.proofs.Progress.{took_place, took_follow, frame_settled}
use Rattle.expansion.proofs.Settled.{wiped_after}
use Rattle.table.proofs.Inserting.{enters_leads, inserting_start, inserting_stopped, inserting_entered, most, table_now, count_all}
use Rattle.table.proofs.insert.insert.Goals as goal

pub loop-label-init : goal.loop-label-init
loop-label-init c = record { size = refl; inserting = inserting_start c.requires (rw c.nodes-n.ensures at c.start.ensures) }

pub open-len-requires : goal.open-len-requires
open-len-requires c =
    let t = rw c.nodes-n.ensures at c.in-Some.ensures in
    rw (c.settle.ensures, c.nodes-n.ensures) (took_follow c.requires.expand.accepted c.loop-label.invariant.inserting.progress t)

pub loop-label-smaller-then-took : goal.loop-label-smaller-then-took
loop-label-smaller-then-took c =
    let t = rw c.nodes-n.ensures at c.in-Some.ensures in
    omega (arith, took_place c.requires.expand.accepted c.loop-label.invariant.inserting.progress t)

pub loop-label-preserved-then-took : goal.loop-label-preserved-then-took
loop-label-preserved-then-took c =
    let p = c.requires in
    let e = c.loop-label.invariant.inserting in
    let t = rw c.nodes-n.ensures at c.in-Some.ensures in
    let f = rw (c.settle.ensures, c.nodes-n.ensures) at c.open-len.ensures in
    record {
      size = (frame_settled p.expand.accepted e.progress t (enters_leads p) f).size ∙ c.loop-label.invariant.size;
      inserting = inserting_entered p e t c.put_in_row-took.ensures c.if-took.true f;
    }

pub loop-label-smaller : goal.loop-label-smaller
loop-label-smaller c =
    let t = rw c.nodes-n.ensures at c.in-Some.ensures in
    omega (arith, took_place c.requires.expand.accepted c.loop-label.invariant.inserting.progress t)

pub loop-label-preserved : goal.loop-label-preserved
loop-label-preserved c =
    let t = rw c.nodes-n.ensures at c.in-Some.ensures in
    record {
      size = rw c.settle.ensures (simp length-set (t.popped.frame.size ∙ c.loop-label.invariant.size));
      inserting = rw (c.settle.ensures, c.nodes-n.ensures) (inserting_stopped c.requires c.loop-label.invariant.inserting t c.put_in_row-took.ensures c.if-took.false);
    }

pub returns : goal.returns
returns c =
    let h = c.in_default.ensures {u = tt} in
    let p = c.requires in
    let e = c.loop-label.invariant.inserting in
    let size = ap length h.1 ∙ c.loop-label.invariant.size ∙ c.start.ensures.frame.size in
    record {
      marks = refl;
      area = wiped_after (record { size = size; words = λ i l. absurd (omega arith) }) c.clear.ensures;
      sized = e.sized;
      most = omega (arith, most p e);
      table = table_now p e h.0;
      counted = count_all p e h.0;
    }
