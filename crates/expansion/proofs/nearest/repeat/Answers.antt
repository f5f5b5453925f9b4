-- Two parts are filled: the ids, and the distances.
use Rattle.std.proofs.Common.{arith}
use Rattle.expansion.proofs.WriteLaws.{repeated}
use Rattle.expansion.proofs.nearest.repeat.Goals as goal

pub returns : goal.returns
returns c =
    repeated c.args.k c.args.from c.args.node c.args.label c.requires.0 c.requires.1 (omega (arith, c.min-end.ensures, c.lockers_at-all.ensures.0))
    (c.fill.ensures.after (λ y e. e)) (c.fill-2.ensures.after (λ y e. e))
