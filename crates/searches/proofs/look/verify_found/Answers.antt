-- Each turn verifies one more of the found points.
use Rattle.std.proofs.Common.{◌≡◌, refl, arith}
use Rattle.searches.proofs.FlagLaws.{can_verify, all_more}
use Rattle.searches.proofs.look.verify_found.Goals as goal

pub loop-i-init : goal.loop-i-init
loop-i-init c =
    record {
      flagged = record { size = refl; words = λ i h. refl; stops = λ v h. refl; flags = c.requires.front.flags; grows = λ x h n. n };
      told = λ i h e. absurd (omega arith);
    }

pub verify_once-requires : goal.verify_once-requires
verify_once-requires c = rw c.nodes-a.ensures (can_verify c.requires c.loop-i.invariant c.loop-i-test.true)

pub loop-i-preserved : goal.loop-i-preserved
loop-i-preserved c = all_more c.requires c.loop-i.invariant c.loop-i-test.true (rw c.nodes-a.ensures at c.verify_once.ensures)

pub returns : goal.returns
returns c =
    let e : c.loop-i.i ≡ c.args.found = omega (arith, c.loop-i.auto.i-end, c.loop-i-test.false) in
    rw e at c.loop-i.invariant
