-- Each turn takes an entry (`c.in-Some`) and looks at its node; what was taken is told as if the flags had been set before (`arrive`).
use Rattle.std.proofs.Common.{refl, ◌∙◌, length-set, arith}
use Rattle.expansion.proofs.Progress.{took_place, took_follow}
use Rattle.query.proofs.Querying.{querying_start, can_look, arrived_size, arrive, querying_stopped, querying_opened, ended_only, ended_found}
use Rattle.query.proofs.query.explore.Goals as goal

pub loop-taken-init : goal.loop-taken-init
loop-taken-init c = (refl, querying_start c.requires (rw c.nodes-n.ensures at c.start.ensures))

-- nothing waits any more
pub returns : goal.returns
returns c =
    let e = c.loop-taken.invariant.1 in
    let t = c.in_default.ensures in
    rw t.1
    record {
      size = c.loop-taken.invariant.0 ∙ c.start.ensures.frame.size;
      only = ended_only c.requires e t.0;
      right = ended_found c.requires e t.0;
    }

pub look-found-requires : goal.look-found-requires
look-found-requires c = can_look c.requires c.loop-taken.invariant.1 (rw c.nodes-n.ensures at c.in-Some.ensures)

pub loop-taken-smaller-then-k-found : goal.loop-taken-smaller-then-k-found
loop-taken-smaller-then-k-found c =
    omega (arith, took_place c.requires.asked.accepted c.loop-taken.invariant.1.progress (rw c.nodes-n.ensures at c.in-Some.ensures))

-- the node is beaten, and the search stops behind it
pub loop-taken-preserved-then-k-found : goal.loop-taken-preserved-then-k-found
loop-taken-preserved-then-k-found c =
    let inv = c.loop-taken.invariant in
    let took = rw c.nodes-n.ensures at c.in-Some.ensures in
    let a = arrive c.requires inv.1 took c.look-found.ensures in (
      rw c.settle.ensures (simp length-set (arrived_size c.requires inv.1 took c.look-found.ensures ∙ inv.0)),
      rw (c.settle.ensures, c.nodes-n.ensures) (querying_stopped c.requires a c.if-k-found.true),
    )

pub open-len-requires : goal.open-len-requires
open-len-requires c =
    let a = arrive c.requires c.loop-taken.invariant.1 (rw c.nodes-n.ensures at c.in-Some.ensures) c.look-found.ensures in
    rw (c.settle.ensures, c.nodes-n.ensures) (took_follow c.requires.asked.accepted a.querying.progress a.took)

pub loop-taken-smaller : goal.loop-taken-smaller
loop-taken-smaller c =
    omega (arith, took_place c.requires.asked.accepted c.loop-taken.invariant.1.progress (rw c.nodes-n.ensures at c.in-Some.ensures))

-- its arcs are followed
pub loop-taken-preserved : goal.loop-taken-preserved
loop-taken-preserved c =
    let inv = c.loop-taken.invariant in
    let took = rw c.nodes-n.ensures at c.in-Some.ensures in
    let a = arrive c.requires inv.1 took c.look-found.ensures in
    let followed = rw (c.settle.ensures, c.nodes-n.ensures) at c.open-len.ensures in (
      followed.frame.size ∙ simp length-set (arrived_size c.requires inv.1 took c.look-found.ensures ∙ inv.0),
      querying_opened c.requires a followed,
    )
