-- The verification over the words before the search's area, the counts, and the area cleared.
use Rattle.std.proofs.Common.{sym, ◌∙◌}
use Rattle.lazy_searches.proofs.Discovery.{discovered_none, can_visit, can_count, area_still, discovered_yes, discovered_no}
use Rattle.lazy_searches.proofs.lazy.discover.Goals as goal

pub returns-then-lockers-eq0 : goal.returns-then-lockers-eq0
returns-then-lockers-eq0 c = discovered_none c.requires (sym c.lockers_at-lockers.ensures.0 ∙ c.if-lockers-eq0.true)

pub visit-v-requires : goal.visit-v-requires
visit-v-requires c = rw c.nodes-n.ensures (can_visit c.requires)

pub count_visited-requires : goal.count_visited-requires
count_visited-requires c = rw c.nodes-n.ensures (can_count c.requires (rw c.nodes-n.ensures at c.visit-v.ensures) c.lockers_at-lockers.ensures.1)

pub clear-requires : goal.clear-requires
clear-requires c = rw c.nodes-n.ensures (area_still c.requires (rw c.nodes-n.ensures at c.visit-v.ensures) (rw c.nodes-n.ensures at c.count_visited.ensures))

pub returns-then-v : goal.returns-then-v
returns-then-v c =
    rw c.nodes-n.ensures
    (discovered_yes c.requires (rw c.nodes-n.ensures at c.visit-v.ensures) (rw c.nodes-n.ensures at c.count_visited.ensures) (rw c.nodes-n.ensures at c.clear.ensures) c.lockers_at-lockers.ensures c.if-lockers-eq0.false c.if-v.true)

pub returns-else-v : goal.returns-else-v
returns-else-v c =
    discovered_no c.requires (rw c.nodes-n.ensures at c.visit-v.ensures) (rw c.nodes-n.ensures at c.count_visited.ensures) (rw c.nodes-n.ensures at c.clear.ensures) c.lockers_at-lockers.ensures c.if-v.false
