-- A turn takes an entry, counts the sites that are nearer to its node, which leaves the words as they were, and settles it; where fewer than k are, the
-- node's arcs are followed, and it gets its flag; else it is beaten, and the search stops behind it.
use Rattle.std.proofs.Common.{refl, ap, ◌∙◌, ◌≡◌, ℕ, List, ◌++◌, arith}
use lib.ListN.{drop, take, length-set, take-append-drop}
use Rattle.expansion.proofs.Progress.{took_place, took_follow, frame_settled}
use Rattle.households.proofs.Winning.{leads, winning_start, can_count, winning_stopped, winning_opened, winning_done}
use Rattle.households.proofs.explore.Goals as goal

-- a look leaves the words as they were
looked : (f : ℕ) (words part : List ℕ) → part ≡ take f words → part ++ drop f words ≡ words
looked f words part e = ap (λ (z : List ℕ). z ++ drop f words) e ∙ take-append-drop f words

pub loop-taken-init : goal.loop-taken-init
loop-taken-init c = (refl, winning_start c.requires (rw c.nodes-n.ensures at c.start.ensures))

-- nothing waits any more
pub returns : goal.returns
returns c =
    let t = c.in_default.ensures in
    rw t.1 (winning_done c.requires c.loop-taken.invariant.1 t.0 (c.loop-taken.invariant.0 ∙ c.start.ensures.frame.size))

pub look-tally-requires : goal.look-tally-requires
look-tally-requires c = rw c.nodes-n.ensures (can_count c.requires c.loop-taken.invariant.1 (rw c.nodes-n.ensures at c.in-Some.ensures))

pub loop-taken-smaller-then-k-tally : goal.loop-taken-smaller-then-k-tally
loop-taken-smaller-then-k-tally c = omega (arith, took_place c.requires.accepted c.loop-taken.invariant.1.progress (rw c.nodes-n.ensures at c.in-Some.ensures))

-- the node is beaten
pub loop-taken-preserved-then-k-tally : goal.loop-taken-preserved-then-k-tally
loop-taken-preserved-then-k-tally c =
    let t = rw c.nodes-n.ensures at c.in-Some.ensures in
    let i = c.loop-taken.invariant in
    let e = rw (looked _ _ _ c.look-tally.ensures.0) at c.settle.ensures in (
      rw e (simp length-set (t.popped.frame.size ∙ i.0)),
      rw (e, c.nodes-n.ensures) (winning_stopped c.requires i.1 t c.look-tally.ensures.1 c.if-k-tally.true),
    )

-- the arcs of its node are followed
pub open-len-requires : goal.open-len-requires
open-len-requires c =
    let e = rw (looked _ _ _ c.look-tally.ensures.0) at c.settle.ensures in
    rw (e, c.nodes-n.ensures) (took_follow c.requires.accepted c.loop-taken.invariant.1.progress (rw c.nodes-n.ensures at c.in-Some.ensures))

pub loop-taken-preserved : goal.loop-taken-preserved
loop-taken-preserved c =
    let t = rw c.nodes-n.ensures at c.in-Some.ensures in
    let p = c.requires in
    let i = c.loop-taken.invariant in
    let e = rw (looked _ _ _ c.look-tally.ensures.0) at c.settle.ensures in
    let f = rw (e, c.nodes-n.ensures) at c.open-len.ensures in (
      simp length-set ((frame_settled p.accepted i.1.progress t (leads p) f).size ∙ i.0),
      rw (c.nodes-n.ensures, c.lockers_at.ensures.0) (winning_opened p i.1 t c.look-tally.ensures.1 c.if-k-tally.false f),
    )

pub loop-taken-smaller : goal.loop-taken-smaller
loop-taken-smaller c = omega (arith, took_place c.requires.accepted c.loop-taken.invariant.1.progress (rw c.nodes-n.ensures at c.in-Some.ensures))
