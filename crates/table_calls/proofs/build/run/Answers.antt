-- The table is filled over the part of the cleared scratch that is used.
use Rattle.table_calls.proofs.Cleared.{can_build, build_left}
use Rattle.table_calls.proofs.build.run.Goals as goal

pub build-requires : goal.build-requires
build-requires c = rw (c.nodes-n.ensures, c.arcs.ensures) (can_build c.requires (c.fill.ensures.after (λ y e. e)))

pub returns : goal.returns
returns c = rw (c.nodes-n.ensures, c.arcs.ensures) (build_left c.requires (c.fill.ensures.after (λ y e. e)) (rw (c.nodes-n.ensures, c.arcs.ensures) at c.build.ensures))
