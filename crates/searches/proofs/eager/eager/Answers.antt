-- Where the count is within the limit the visits are copied, and what the expansion leaves is finished.
use Rattle.std.proofs.Common.{◌≡◌, ◌∙◌}
use Rattle.searches.proofs.EagerLaws.{limited_left, visits_left}
use Rattle.searches.proofs.eager.eager.Goals.{in-Some, in_default}
use Rattle.searches.proofs.eager.eager.Goals as goal

pub returns-clause-limited_left : goal.returns-clause-limited_left
returns-clause-limited_left c =
    limited_left c.requires.can_search.accepted (rw c.nodes-n.ensures at c.explore-end.ensures) (rw c.nodes-n.ensures at c.finish.ensures)

pub returns-clause-visits_left : goal.returns-clause-visits_left
returns-clause-visits_left c =
    visits_left c.requires.can_search.accepted (rw c.nodes-n.ensures at c.explore-end.ensures) (rw c.nodes-n.ensures at c.finish.ensures)
    (λ h. elim c.match-end.branch [ in-Some w ↦ absurd (cc) | in_default w ↦ w.visits-is ])
    (λ x h.
    elim c.match-end.branch [
      | in-Some w ↦ let e : w.in-Some.count ≡ x = cc in w.visits-is ∙ rw (c.nodes-n.ensures, e) at w.copy.ensures
      | in_default w ↦ absurd (cc)
    ])
