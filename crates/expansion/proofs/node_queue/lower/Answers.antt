-- The entry rises from where its node waits.
use Rattle.expansion.proofs.NodeLaws.{lowered_node}
use Rattle.expansion.proofs.node_queue.lower.Goals as goal

pub returns : goal.returns
returns c =
    let l = c.requires.can_lower in
    lowered_node c.requires.node_queue _ _ l.inside l.node l.less _ c.rise.ensures
