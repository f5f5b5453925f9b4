-- The entry rises from behind the last one.
use Rattle.expansion.proofs.NodeLaws.{push_can, push_seats, pushed_node}
use Rattle.expansion.proofs.node_queue.push.Goals as goal

pub rise-requires : goal.rise-requires
rise-requires c =
    let t = c.requires.tag_bound in
    (push_can c.requires.node_queue _ t.0 t.1, push_seats c.requires.node_queue _ t.0 t.1)

pub returns : goal.returns
returns c =
    let t = c.requires.tag_bound in
    pushed_node c.requires.node_queue _ t.0 t.1 _ c.rise.ensures
