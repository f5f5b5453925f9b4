-- One word after the other is stored.
use Rattle.std.proofs.Common.{◌≡◌, refl, arith}
use Rattle.network.proofs.Tabulate.{stored_none, stored_more, stored_all}
use Rattle.expansion.proofs.words.copy.Goals as goal

pub loop-i-init : goal.loop-i-init
loop-i-init c = stored_none _ _

pub loop-i-preserved : goal.loop-i-preserved
loop-i-preserved c = stored_more _ c.loop-i.invariant (omega arith) refl

pub returns : goal.returns
returns c =
    let q : c.loop-i.i ≡ c.args.count = omega arith in
    stored_all (rw q at c.loop-i.invariant)
