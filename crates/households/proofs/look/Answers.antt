-- The found nodes are cleared, so the words are all 0 again.
use Rattle.households.proofs.Winning.{look_clears}
use Rattle.households.proofs.look.Goals as goal

pub returns : goal.returns
returns c =
    let near = rw c.nodes-n.ensures at c.nodes-near.ensures in
    (look_clears c.requires near (c.fill.ensures.after (λ y e. e)), near.found_in.count)
