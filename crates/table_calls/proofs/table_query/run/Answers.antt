-- The search is over the part of the cleared scratch that is used.
use Rattle.table_calls.proofs.Cleared.{can_query, query_left}
use Rattle.table_calls.proofs.table_query.run.Goals as goal

pub query-requires : goal.query-requires
query-requires c = rw c.nodes-used.ensures (can_query c.requires (c.fill.ensures.after (λ y e. e)))

pub returns : goal.returns
returns c = rw c.nodes-used.ensures (query_left c.requires (c.fill.ensures.after (λ y e. e)) (rw c.nodes-used.ensures at c.query.ensures))
