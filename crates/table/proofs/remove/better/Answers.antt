-- Each return is the better of the two.
use Rattle.std.proofs.Common.{◌+◌, ◌≤◌, ◌∙◌, sym, arith, rules}
use Rattle.network.specs.Nearest.{key}
use Rattle.table.specs.Candidate.{rank}
use Rattle.table.proofs.RemoveSteps.{better_new}
use Rattle.table.proofs.remove.better.Goals as goal

pub returns : goal.returns
returns c =
    let q : key (c.args.p, c.args.e + c.args.w) ≤ rank c.args.best = search rules in
    better_new c.args.best (omega (arith, c.if-e-gt-LONGEST.false)) q (sym c.lacks.ensures ∙ c.if-not-lacks.false)
