-- The point takes its place (`taken_second`), and is offered to the neighbours.
use Rattle.lazy_searches.proofs.SecondLaws.{taken_second, admitted}
use Rattle.lazy_searches.proofs.second.admit.Goals as goal

pub offer-requires : goal.offer-requires
offer-requires c =
    let p = c.requires in
    let found = rw (c.row_of.ensures.ids, c.row_of.ensures.words, c.nodes-n.ensures) at c.in-Some.ensures in
    record { accepted = p.accepted; second = rw c.nodes-n.ensures (taken_second p found); inside = p.inside; point = p.point; fits = p.fits }

pub returns : goal.returns
returns c =
    let found = rw (c.row_of.ensures.ids, c.row_of.ensures.words, c.nodes-n.ensures) at c.in-Some.ensures in
    admitted c.requires found (rw c.nodes-n.ensures at c.offer.ensures)
