-- The steps of build, one after the other.
use Rattle.table.proofs.BuildLaws.{can_spread, build_left}
use Rattle.table.proofs.build.build.Goals as goal

pub spread-requires : goal.spread-requires
spread-requires c = can_spread c.requires (c.fill.ensures.after (λ y e. e)) (c.fill-2.ensures.after (λ y e. e))

pub returns : goal.returns
returns c = build_left c.spread.ensures (c.fill-3.ensures.after (λ y e. e))
