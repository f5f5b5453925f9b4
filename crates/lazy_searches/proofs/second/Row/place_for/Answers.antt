-- The place does not hold p; where it is farther than the noted one, it is noted.
use Rattle.std.proofs.Common.{◌≢◌, get_or}
use Rattle.lazy_searches.proofs.RowLaws.{looking_farther, looking_on}
use Rattle.lazy_searches.proofs.second.Row.place_for.Goals.{else-word-ne0-via-then-word-ne0+else-self-j, else-word-ne0-via-else-word-ne0, then-most-far, else-most-far}
use Rattle.lazy_searches.proofs.second.Row.place_for.Goals as goal

pub loop-j-preserved : goal.loop-j-preserved
loop-j-preserved c =
    let row = c.args.self in
    let other : get_or row.words.now c.loop-j.j 0 ≢ 0 → get_or row.ids.now c.loop-j.j 0 ≢ c.args.p =
    elim c.else-word-ne0.branch [
      | else-word-ne0-via-then-word-ne0+else-self-j w ↦ λ _. w.if-self-j.false
      | else-word-ne0-via-else-word-ne0 w ↦ λ n. absurd (n w.if-word-ne0.false)
    ] in
    elim c.if-most-far.branch [
      | then-most-far w ↦ rw (w.place-is, w.most-is) (looking_farther c.loop-j.invariant c.loop-j-test.true other c.distance_of-far.ensures w.if-most-far.true)
      | else-most-far w ↦ rw (w.place-is, w.most-is) (looking_on c.loop-j.invariant c.loop-j-test.true other)
    ]
