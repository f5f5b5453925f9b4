-- The members before place i are followed (`Collecting`), from whatever words the site was taken in. The measure is how many nodes are left, as there are
-- no more members than nodes.
use Prim.Native.Nat.{ℕ, ◌-◌}
use mathlib.Core.List.{List}
use Rattle.network.specs.Network.{node_count}
use Rattle.sheet.specs.List.{CanList, MemberTaken}
use Rattle.sheet.proofs.Listing.{Collecting}
use Rattle.sheet.proofs.list.list_length.Given as goal

abbrev pub invariant-loop-i : goal.invariant-loop-i
invariant-loop-i l =
    (xs : List ℕ) → CanList l.g xs l.q → MemberTaken (node_count l.g) xs l.initial.s l.households l.q l.q 0 l.initial.members
    → Collecting l.g xs l.s l.households l.q l.members.size l.members.sum l.i

abbrev pub decreases-loop-i : goal.decreases-loop-i
decreases-loop-i l = node_count l.g - l.i
