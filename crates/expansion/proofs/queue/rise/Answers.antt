-- An entry that is stored fills the hole where it is; else the hole moves up, to the parent.
use Rattle.std.proofs.Common.{arith}
use Rattle.expansion.proofs.QueueLaws.{words_key, hole_up, filled_moved, filled_here}
use Rattle.expansion.proofs.queue.rise.Goals as goal

pub returns-then-k-key : goal.returns-then-k-key
returns-then-k-key c =
    let i = c.loop-hole.invariant in
    i.onward _ (filled_here _ _ _ _ _ _ i.rises.is_hole c.put.ensures (λ pos. omega (arith, c.if-k-key.true)) i.rises.at_most)

pub loop-hole-preserved : goal.loop-hole-preserved
loop-hole-preserved c =
    let i = c.loop-hole.invariant in
    let p = c.copy.ensures in
    record {
      rises = hole_up _ _ _ _ _ _ _ i.rises (omega arith) (omega (arith, c.if-k-key.false)) p (words_key _ _);
      onward = λ zs f. i.onward zs (filled_moved _ _ _ _ _ _ _ i.rises.is_hole.inside (omega (arith, i.rises.is_hole.inside)) (omega arith) p (words_key _ _) zs _ f);
    }

pub returns : goal.returns
returns c =
    let i = c.loop-hole.invariant in
    i.onward _ (filled_here _ _ _ _ _ _ i.rises.is_hole c.put-2.ensures (λ pos. omega (arith, c.loop-hole-test.false)) i.rises.at_most)
