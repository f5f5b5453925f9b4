-- The words from the found nodes on are lent, the found points verified, and their words cleared.
use Rattle.searches.proofs.LookLaws.{can_verify_all, looked}
use Rattle.searches.proofs.look.look.Goals as goal

pub verify_found-requires : goal.verify_found-requires
verify_found-requires c = rw c.nodes-n.ensures (can_verify_all c.requires (rw c.nodes-n.ensures at c.nodes-near.ensures))

pub returns : goal.returns
returns c =
    rw c.nodes-n.ensures
    (looked c.requires (rw c.nodes-n.ensures at c.nodes-near.ensures) (rw c.nodes-n.ensures at c.verify_found.ensures)
    (rw c.nodes-n.ensures at (c.fill.ensures.after (λ y h. h))))
