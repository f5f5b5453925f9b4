-- One distance after the other is stored.
use Rattle.std.proofs.Common.{◌≡◌, arith}
use Rattle.network.proofs.Tabulate.{stored_none, stored_more, stored_all}
use Rattle.expansion.proofs.distances.write_distances.Goals as goal

pub loop-v-init : goal.loop-v-init
loop-v-init c = stored_none _ _

pub loop-v-preserved : goal.loop-v-preserved
loop-v-preserved c = stored_more _ c.loop-v.invariant (omega arith) c.distance_of.ensures

pub returns : goal.returns
returns c =
    let q : c.loop-v.v ≡ c.args.n = omega arith in
    stored_all (rw q at c.loop-v.invariant)
