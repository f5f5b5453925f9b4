-- S is enough for the words that either search uses, and all words are 0 behind it.
use Prim.Native.Nat.{◌+◌, ◌*◌, ◌≤◌}
use lib.ListN.{length}
use Rattle.numbers.proofs.Cleared.{part_wiped}
use Rattle.site_calls.proofs.Searchable.{lazy_room, lazy_search, lazy_extend}
use Rattle.site_calls.proofs.lazy.run.Goals as goal

pub search-requires-clause-can_search : goal.search-requires-clause-can_search
search-requires-clause-can_search c =
    rw (c.nodes-n.ensures, c.arcs-arcs.ensures) (lazy_search (c.fill.ensures.after (λ y e. e)) c.requires.query)

pub search-requires-clause-can_extend : goal.search-requires-clause-can_extend
search-requires-clause-can_extend c = rw (c.nodes-n.ensures, c.arcs-arcs.ensures) (lazy_extend (c.fill.ensures.after (λ y e. e)) c.requires)

pub returns : goal.returns
returns c =
    let n = c.nodes-n.result in
    let fits : 12 * n + 2 * c.args.k * (n + c.arcs-arcs.result) ≤ length c.args.scratch.now = rw (c.nodes-n.ensures, c.arcs-arcs.ensures) (lazy_room c.requires.query) in
    let h = c.search.ensures in
    record {
      sized = h.sized;
      answers = h.answers;
      area = part_wiped c.args.scratch.now _ (c.fill.ensures.after (λ y e. e)) fits h.area;
    }
