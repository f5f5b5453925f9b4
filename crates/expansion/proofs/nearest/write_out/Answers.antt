-- The words that are read are still those of the start.
use Rattle.std.proofs.Common.{arith}
use Rattle.expansion.proofs.Finding.{tallied_none}
use Rattle.expansion.proofs.WriteLaws.{out_none, out_word, out_count, out_more}
use Rattle.expansion.proofs.nearest.write_out.Goals as goal

pub loop-i-init : goal.loop-i-init
loop-i-init c = record { count = omega (arith, tallied_none c.args.points.now c.args.s.now); out = out_none _ _ _ _ }

pub label_of-label-requires : goal.label_of-label-requires
label_of-label-requires c =
    let inv = c.loop-i.invariant in
    omega (arith, out_word c.requires inv.out c.loop-i-test.true, c.requires.inside _ c.loop-i-test.true, c.requires.room, inv.out.size)

pub repeat-at-requires : goal.repeat-at-requires
repeat-at-requires c =
    let inv = c.loop-i.invariant in
    (omega (arith, inv.count, c.requires.early _ c.loop-i-test.true), omega (arith, c.requires.room, inv.out.size))

pub loop-i-preserved : goal.loop-i-preserved
loop-i-preserved c =
    let inv = c.loop-i.invariant in
    let h = c.loop-i-test.true in
    record {
      count = out_count c.requires inv.out h inv.count c.label_of-label.ensures c.repeat-at.ensures;
      out = out_more c.requires inv.out h inv.count c.label_of-label.ensures c.repeat-at.ensures;
    }
