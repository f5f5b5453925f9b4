-- The word is no point, or was verified before, or only its own flags change, as `decide` says of the row behind its own place.
use Rattle.std.proofs.Common.{◌<◌, get_or, arith}
use Rattle.std.proofs.lemmas.Bool.Decides.{nat_tests}
use Rattle.query.proofs.QueryFlags.{verified_none, verified_beyond, verified_seen, row_some, can_decide, verified_yes, verified_no}
use Rattle.query.proofs.query.verify_once.Goals.{then-n-at-via-then-n-at, then-n-at-via-else-n-at+then-points-at-eq0, then-n-at-via-else-n-at+else-points-at-eq0+then-f-at-ne0}
use Rattle.query.proofs.query.verify_once.Goals as goal

pub returns-then-n-at : goal.returns-then-n-at
returns-then-n-at c =
    elim c.then-n-at.branch [
      | then-n-at-via-then-n-at w ↦ verified_beyond c.requires _ _ (rw c.nodes-n.ensures at w.if-n-at.true)
      | then-n-at-via-else-n-at+then-points-at-eq0 w ↦ verified_none c.requires _ _ w.if-points-at-eq0.true
      | then-n-at-via-else-n-at+else-points-at-eq0+then-f-at-ne0 w ↦
          verified_seen c.requires _ _ (rw c.nodes-n.ensures at w.if-n-at.false) w.if-f-at-ne0.true
    ]

pub slice_bounds-others-count : goal.slice_bounds-others-count
slice_bounds-others-count c = row_some c.requires _ 0 (rw c.nodes-n.ensures at c.if-n-at.false) c.row_of.ensures

pub slice_bounds-others-start : goal.slice_bounds-others-start
slice_bounds-others-start c = row_some c.requires _ 0 (rw c.nodes-n.ensures at c.if-n-at.false) c.row_of.ensures

pub decide-requires : goal.decide-requires
decide-requires c = can_decide c.requires _ 0 (rw c.nodes-n.ensures at c.if-n-at.false) c.row_of.ensures

pub returns-then-decide : goal.returns-then-decide
returns-then-decide c =
    let mark : 0 < get_or c.args.points.now c.args.p 0 = omega (arith, c.if-points-at-eq0.false) in
    rw c.nodes-n.ensures
    (verified_yes c.requires _ _ (rw c.nodes-n.ensures at c.if-n-at.false) mark c.row_of.ensures c.decide.ensures c.if-decide.true _ (grind (arith, nat_tests)))

pub returns-else-decide : goal.returns-else-decide
returns-else-decide c =
    let mark : 0 < get_or c.args.points.now c.args.p 0 = omega (arith, c.if-points-at-eq0.false) in
    verified_no c.requires _ _ (rw c.nodes-n.ensures at c.if-n-at.false) mark c.row_of.ensures c.decide.ensures c.if-decide.false
