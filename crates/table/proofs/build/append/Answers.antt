-- Both parts behind the row's entries are filled.
use Rattle.std.proofs.Common.{◌≤◌, ◌+◌, length, arith}
use borrow.Rule.Slice.PartMut.{mid_len}
use Rattle.table.proofs.BuildSteps.{append_filled}
use Rattle.table.proofs.build.append.Goals as goal

pub returns : goal.returns
returns c =
    let end = c.args.size + c.min.result in
    let few : end ≤ length c.args.ids_row.now = omega (arith, c.min.ensures, c.requires.1) in
    let ids = mid_len c.args.size end c.args.ids_row.now few in
    let dists = mid_len c.args.size end c.args.distances_row.now (omega (arith, c.requires.0)) in
    append_filled c.requires.0 (c.has_place.ensures.yes c.if-not-has_place.false) (omega (arith, c.min.ensures)) (rw ids at (c.fill.ensures.after (λ y e. e))) (rw dists at (c.fill-2.ensures.after (λ y e. e)))
