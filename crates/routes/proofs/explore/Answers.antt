-- A turn takes an entry, looks at its node, which sets flags before the area, and settles it; where fewer than k points are found its arcs are followed; else it
-- is beaten, and the search stops behind it.
use Rattle.std.proofs.Common.{refl, ◌∙◌, arith}
use lib.ListN.{length-set}
use Rattle.network.specs.Network.{node_count}
use Rattle.expansion.specs.Visited.{stops_in}
use Rattle.expansion.proofs.Progress.{took_place, took_follow, frame_settled}
use Rattle.searches.proofs.Searching.{leads, can_look, beside_old, looked_took, looked_searching, looked_told, many_beaten, searching_stopped, searching_opened}
use Rattle.routes.proofs.Routing.{from_route, routing_start, routing_done}
use Rattle.routes.proofs.explore.Goals as goal

pub loop-taken-init : goal.loop-taken-init
loop-taken-init c = (refl, routing_start c.requires (rw c.nodes-n.ensures at c.start-len.ensures))

-- nothing waits any more
pub returns : goal.returns
returns c =
    let t = c.in_default.ensures in
    let begun = rw c.nodes-n.ensures at c.start-len.ensures in
    rw t.1 (routing_done c.requires begun c.loop-taken.invariant.1 t.0 (c.loop-taken.invariant.0 ∙ begun.size))

pub look-tally-requires : goal.look-tally-requires
look-tally-requires c =
    let n = node_count c.args.g.now in
    rw c.nodes-n.ensures (can_look (from_route c.requires (stops_in n c.start-len.new.s)) c.loop-taken.invariant.1 (rw c.nodes-n.ensures at c.in-Some.ensures))

pub loop-taken-smaller-then-k-tally : goal.loop-taken-smaller-then-k-tally
loop-taken-smaller-then-k-tally c = omega (arith, took_place c.requires.accepted c.loop-taken.invariant.1.progress (rw c.nodes-n.ensures at c.in-Some.ensures))

-- the node is beaten
pub loop-taken-preserved-then-k-tally : goal.loop-taken-preserved-then-k-tally
loop-taken-preserved-then-k-tally c =
    let n = node_count c.args.g.now in
    let from = from_route c.requires (stops_in n c.start-len.new.s) in
    let i = c.loop-taken.invariant in
    let t = rw c.nodes-n.ensures at c.in-Some.ensures in
    let looked = rw c.nodes-n.ensures at c.look-tally.ensures in
    let e = looked_searching from i.1 t looked in
    let u = looked_took from i.1 t looked in (
      rw (c.settle.ensures, c.nodes-n.ensures) (simp length-set (u.popped.frame.size ∙ (beside_old from i.1 t looked).size ∙ i.0)),
      rw (c.settle.ensures, c.nodes-n.ensures) (searching_stopped from e u (looked_told from i.1 t looked) (many_beaten from e u looked.looked.count c.if-k-tally.true)),
    )

-- the arcs of its node are followed
pub open-len-requires : goal.open-len-requires
open-len-requires c =
    let n = node_count c.args.g.now in
    let from = from_route c.requires (stops_in n c.start-len.new.s) in
    let i = c.loop-taken.invariant.1 in
    let t = rw c.nodes-n.ensures at c.in-Some.ensures in
    let looked = rw c.nodes-n.ensures at c.look-tally.ensures in
    rw (c.settle.ensures, c.nodes-n.ensures) (took_follow c.requires.accepted (looked_searching from i t looked).progress (looked_took from i t looked))

pub loop-taken-smaller : goal.loop-taken-smaller
loop-taken-smaller c = omega (arith, took_place c.requires.accepted c.loop-taken.invariant.1.progress (rw c.nodes-n.ensures at c.in-Some.ensures))

pub loop-taken-preserved : goal.loop-taken-preserved
loop-taken-preserved c =
    let n = node_count c.args.g.now in
    let from = from_route c.requires (stops_in n c.start-len.new.s) in
    let i = c.loop-taken.invariant in
    let t = rw c.nodes-n.ensures at c.in-Some.ensures in
    let looked = rw c.nodes-n.ensures at c.look-tally.ensures in
    let e = looked_searching from i.1 t looked in
    let u = looked_took from i.1 t looked in
    let f = rw (c.settle.ensures, c.nodes-n.ensures) at c.open-len.ensures in (
      (frame_settled c.requires.accepted e.progress u (leads from) f).size ∙ (beside_old from i.1 t looked).size ∙ i.0,
      searching_opened from e u (looked_told from i.1 t looked) f,
    )
