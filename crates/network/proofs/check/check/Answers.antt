-- Behind each test its condition is not met, which is what the next test requires.
use Rattle.std.proofs.Common.{refl, sym, ◌∙◌, arith}
use Rattle.network.specs.Check.{network_number}
use Rattle.network.proofs.Ranges.{sized, ranges, neighbour_parts, searchable}
use Rattle.network.proofs.check.check.Goals as goal

pub returns-then-bad_size : goal.returns-then-bad_size
unfolding network_number
returns-then-bad_size c = rw (← c.bad_size.ensures, c.if-bad_size.true) refl

pub bad_starts-requires : goal.bad_starts-requires
bad_starts-requires c = omega (arith, (sized _ (sym c.bad_size.ensures ∙ c.if-bad_size.false)).least)

pub returns-then-bad_starts : goal.returns-then-bad_starts
unfolding network_number
returns-then-bad_starts c = rw (← c.bad_size.ensures, c.if-bad_size.false, ← c.bad_starts.ensures, c.if-bad_starts.true) refl

pub bad_neighbours-requires : goal.bad_neighbours-requires
bad_neighbours-requires c =
    neighbour_parts (ranges _ (sym c.bad_starts.ensures ∙ c.if-bad_starts.false)) (omega (arith, (sized _ (sym c.bad_size.ensures ∙ c.if-bad_size.false)).least))

pub returns-then-bad_neighbours : goal.returns-then-bad_neighbours
unfolding network_number
returns-then-bad_neighbours c =
    rw (← c.bad_size.ensures, c.if-bad_size.false, ← c.bad_starts.ensures, c.if-bad_starts.false, ← c.bad_neighbours.ensures, c.if-bad_neighbours.true) refl

pub returns-then-bad_weights : goal.returns-then-bad_weights
unfolding network_number
returns-then-bad_weights c =
    rw (← c.bad_size.ensures, c.if-bad_size.false, ← c.bad_starts.ensures, c.if-bad_starts.false, ← c.bad_neighbours.ensures, c.if-bad_neighbours.false, ← c.bad_weights.ensures, c.if-bad_weights.true) refl

pub lacks_return-requires : goal.lacks_return-requires
lacks_return-requires c =
    let s = sized _ (sym c.bad_size.ensures ∙ c.if-bad_size.false) in
    let r = ranges _ (sym c.bad_starts.ensures ∙ c.if-bad_starts.false) in
    record {
      searchable = searchable (omega (arith, s.least)) r (sym c.bad_neighbours.ensures ∙ c.if-bad_neighbours.false);
      starts_len_bound = s.most;
    }

pub returns-then-lacks_return : goal.returns-then-lacks_return
unfolding network_number
returns-then-lacks_return c =
    rw (← c.bad_size.ensures, c.if-bad_size.false, ← c.bad_starts.ensures, c.if-bad_starts.false, ← c.bad_neighbours.ensures, c.if-bad_neighbours.false, ← c.bad_weights.ensures, c.if-bad_weights.false, ← c.lacks_return.ensures, c.if-lacks_return.true) refl

pub returns : goal.returns
unfolding network_number
returns c =
    rw (← c.bad_size.ensures, c.if-bad_size.false, ← c.bad_starts.ensures, c.if-bad_starts.false, ← c.bad_neighbours.ensures, c.if-bad_neighbours.false, ← c.bad_weights.ensures, c.if-bad_weights.false, ← c.lacks_return.ensures, c.if-lacks_return.false) refl
