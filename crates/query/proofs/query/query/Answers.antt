-- The expansion ends with the found flags, the nodes that have one are written, and all words are cleared.
use Rattle.query.proofs.QueryLaws.{queried}
use Rattle.query.proofs.query.query.Goals as goal

pub returns : goal.returns
returns c =
    let e = rw c.nodes-n.ensures at c.write_found-size.ensures in
    queried c.requires c.explore.ensures e.0 e.1 (c.fill.ensures.after (λ y h. h))
