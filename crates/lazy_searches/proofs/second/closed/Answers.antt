-- A place whose distance is below l adds its lockers to the tally.
use borrow.Author.Tests.{leb-true}
use Rattle.lazy_searches.proofs.RowLaws.{tallied_none, tallied_more, tallied_same, tallied_closed}
use Rattle.lazy_searches.proofs.second.closed.Goals.{then-far-l, else-far-l}
use Rattle.lazy_searches.proofs.second.closed.Goals as goal

pub loop-j-init : goal.loop-j-init
loop-j-init c = tallied_none

pub loop-j-preserved : goal.loop-j-preserved
loop-j-preserved c =
    let far = c.distance_of-far.ensures in
    elim c.if-far-l.branch [
      | then-far-l w ↦ rw (w.tally-is, w.lockers_at-tally.ensures.0) (tallied_more c.loop-j.invariant far w.if-far-l.true)
      | else-far-l w ↦ rw w.tally-is (tallied_same c.loop-j.invariant far w.if-far-l.false)
    ]

pub returns : goal.returns
returns c = λ e. tallied_closed c.loop-j.invariant c.row_of-row.ensures.ids c.row_of-row.ensures.words c.loop-j.auto.j-end (leb-true _ _ e)
