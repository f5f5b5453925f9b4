-- An entry leaves, and its point comes to its node.
use Rattle.std.proofs.Common.{◌<◌, arith}
use Rattle.lazy_searches.proofs.SecondLaws.{popped_second, popped_point, popped_node, popped_low, advanced_more, advanced_less}
use Rattle.lazy_searches.proofs.second.advance.Goals as goal

pub admit-left-requires : goal.admit-left-requires
admit-left-requires c =
    let r = c.pop_at-distance.result in
    let q = c.requires in
    let inv = c.loop-left.invariant in
    let t = rw c.nodes-n.ensures at c.pop_at-distance.ensures in
    let fits : r.tag < 4294967296 = omega arith in
    record {
      accepted = q.accepted;
      second = popped_second r.distance r.tag inv t fits;
      inside = omega (arith, c.tag_parent-u.ensures, popped_node r.distance r.tag inv t fits);
      point = omega (arith, c.tag_node-p.ensures, popped_point r.distance r.tag inv t fits);
      fits = omega (arith, popped_low r.distance r.tag inv t fits (rw c.nodes-n.ensures at c.least_at.ensures), c.if-least_at-l.true, q.fits);
    }

pub loop-left-smaller : goal.loop-left-smaller
loop-left-smaller c =
    let r = c.pop_at-distance.result in
    let t = rw c.nodes-n.ensures at c.pop_at-distance.ensures in
    let fits : r.tag < 4294967296 = omega arith in
    advanced_less r.distance r.tag c.loop-left.invariant t fits (rw (c.tag_node-p.ensures, c.tag_parent-u.ensures) at c.admit-left.ensures) c.loop-left-test.true

pub loop-left-preserved : goal.loop-left-preserved
loop-left-preserved c =
    let r = c.pop_at-distance.result in
    let t = rw c.nodes-n.ensures at c.pop_at-distance.ensures in
    let fits : r.tag < 4294967296 = omega arith in
    advanced_more r.distance r.tag c.loop-left.invariant t fits (rw (c.tag_node-p.ensures, c.tag_parent-u.ensures) at c.admit-left.ensures)
