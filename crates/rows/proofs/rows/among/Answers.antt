-- One more place is counted, or none.
use Rattle.std.proofs.Common.{Bool, true, false, ◌≡◌, ◌≤◌, ◌<◌, refl, sym, ◌∙◌, length-take, arith}
use Rattle.std.proofs.lemmas.List.{get_or-take}
use mir.Val.{bool_byte}
use Rattle.network.specs.Count.{bit}
use Rattle.rows.proofs.CheckTests.{among_start, among_turn, among_end}
use Rattle.rows.proofs.rows.among.Goals as goal

-- a test as a number
as_bit : (b : Bool) → (bool_byte b ≡ bit b) × (bool_byte b ≤ 1)
as_bit true = (refl, omega arith)
as_bit false = (refl, omega arith)

pub loop-q-init : goal.loop-q-init
loop-q-init c = record { most = omega arith; counted = sym (among_start _ _) }

pub loop-q-preserved : goal.loop-q-preserved
loop-q-preserved c =
    let l : c.loop-q.q-index < c.args.k = let m = simp length-take at c.loop-q-test.true in omega arith in
    let e = rw (get_or-take c.args.k c.args.ids.now c.loop-q.q-index 0 l) at c.from-count.ensures in
    let b = as_bit _ in
    record {
      most = omega (arith, e, b.1);
      counted = among_turn _ _ _ _ _ c.loop-q.invariant.counted (e ∙ b.0);
    }

pub returns : goal.returns
returns c =
    let most = simp length-take at c.loop-q.auto.q-index-end in
    let least = simp length-take at c.loop-q-test.false in
    among_end _ _ _ _ _ (omega arith) (omega arith) c.loop-q.invariant.counted
