-- The found points before the i-th are verified, and the words behind the flags are as they were.
use Rattle.searches.specs.Flags.{site_lists, VerifiedAll}
use Rattle.searches.proofs.look.verify_found.Given as goal

abbrev pub invariant-loop-i : goal.invariant-loop-i
invariant-loop-i l = VerifiedAll l.g (site_lists l.g l.points l.initial.f l.site l.k) l.initial.f l.f l.i
