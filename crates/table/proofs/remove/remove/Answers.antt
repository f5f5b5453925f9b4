-- What the steps leave, one after the other (`removed`).
use Rattle.std.proofs.Common.{refl, length-set}
use Rattle.table.proofs.RemoveSteps.{freed_as}
use Rattle.table.proofs.RemoveFilling.{remove_fill, removed}
use Rattle.table.proofs.remove.remove.Goals as goal

pub fill-requires : goal.fill-requires
fill-requires c =
    let freed = freed_as c.lockers_at-all.ensures.0 c.nodes-n.ensures c.free-changed.ensures in
    remove_fill c.requires freed (simp length-set c.requires.points) c.seed-len.ensures

pub returns : goal.returns
returns c =
    let freed = freed_as c.lockers_at-all.ensures.0 c.nodes-n.ensures c.free-changed.ensures in
    removed c.requires freed refl c.seed-len.ensures c.fill.ensures (c.fill-2.ensures.after (λ y e. e))
