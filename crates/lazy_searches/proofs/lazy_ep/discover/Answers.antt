-- The byte that it tests is the mark of the node; a point is verified, and comes into its own row.
use Rattle.std.proofs.Common.{arith}
use borrow.Author.Tests.{lt-ltb, le-ltb}
use Rattle.lazy_searches.proofs.LazyEpLaws.{no_point, can_admit, discovered}
use Rattle.lazy_searches.proofs.lazy_ep.discover.Goals as goal

pub returns-then-lockers_at-eq0 : goal.returns-then-lockers_at-eq0
returns-then-lockers_at-eq0 c = no_point c.requires (le-ltb 0 _ (omega (arith, c.lockers_at.ensures.0, c.if-lockers_at-eq0.true)))

pub admit-requires : goal.admit-requires
admit-requires c = can_admit c.requires c.verify_point.ensures

pub returns : goal.returns
returns c = discovered c.requires c.verify_point.ensures (lt-ltb 0 _ (omega (arith, c.lockers_at.ensures.0, c.if-lockers_at-eq0.false))) c.admit.ensures
