-- The search finds the nodes of the answer, they are written out, and its area and the words of the found nodes are cleared.
use Rattle.expansion.proofs.Beside.{area_beside}
use Rattle.expansion.proofs.WriteLaws.{can_write, out_beside, nearest_left}
use Rattle.expansion.proofs.nearest.nearest.Goals as goal

pub write_out-requires : goal.write_out-requires
write_out-requires c = rw c.nodes-n.ensures (can_write c.find-search.ensures c.requires.points)

pub clear-requires : goal.clear-requires
clear-requires c =
    let w = rw c.nodes-n.ensures at c.write_out.ensures in
    rw c.nodes-n.ensures (area_beside (out_beside c.find-search.ensures w) c.find-search.ensures.area)

pub returns : goal.returns
returns c =
    let w = rw c.nodes-n.ensures at c.write_out.ensures in
    nearest_left c.find-search.ensures w c.clear.ensures (c.fill.ensures.after (λ y e. e))
