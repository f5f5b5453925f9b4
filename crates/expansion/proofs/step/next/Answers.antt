-- The entry that is popped is that of its node and its parent.
use Rattle.std.proofs.Common.{◌≡◌, ◌<◌, refl, arith}
use Rattle.expansion.specs.Queue.{key_of}
use Rattle.expansion.specs.Tags.{tag_of, node_of}
use Rattle.expansion.proofs.NodeLaws.{held_inside}
use Rattle.expansion.proofs.TagLaws.{no_later_parts}
use Rattle.expansion.proofs.step.next.Goals as goal

pub returns : goal.returns
returns c =
    let r = c.pop-distance.result in
    let p = c.pop-distance.ensures in
    let few = c.requires.few in
    let e : key_of r.distance r.tag ≡ key_of r.distance (tag_of c.tag_node.result c.tag_parent.result) = omega (arith, c.tag_node.ensures, c.tag_parent.ensures) in
    let f : node_of (key_of r.distance r.tag) ≡ c.tag_node.result = omega (arith, c.tag_node.ensures) in
    let inside : c.tag_node.result < c.args.n = omega (arith, held_inside c.requires (key_of r.distance r.tag) p.popped.was, f) in
    let tagged : c.tag_parent.result < 65536 = omega (arith, c.tag_parent.ensures) in
    record {
      some = omega arith;
      fewer = refl;
      inside = inside;
      tagged = tagged;
      first =
          λ x m h.
          no_later_parts r.distance c.tag_node.result c.tag_parent.result m x h.parent
          (omega (arith, few, inside)) tagged (omega (arith, few, h.inside)) (omega (arith, few, h.from))
          (rw e at (p.popped.first (key_of m (tag_of x h.parent)) h.holds));
      popped = rw e at p;
    }
