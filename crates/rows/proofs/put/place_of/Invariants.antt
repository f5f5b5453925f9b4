-- No entry before the place comes behind p at distance d.
use Rattle.std.proofs.Common.{ℕ, ◌<◌, ◌≤◌}
use Rattle.network.specs.Nearest.{key}
use Rattle.rows.specs.Flat.{place}
use Rattle.rows.proofs.put.place_of.Given as goal

abbrev pub invariant-loop-at : goal.invariant-loop-at
invariant-loop-at l = (j : ℕ) → j < l.at → key (place l.ids l.distances j) ≤ key (l.p, l.d)
