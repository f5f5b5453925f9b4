-- The households that a site wins: those on its own node are among them. And what a list weighs as a sheet counts it: where nobody lives, nothing counts.
-- Assumes nothing.
use Prim.Native.Nat.{ℕ, ◌≤◌}
use mathlib.Core.Path.{◌≡◌, sym, ap, ◌∙◌}
use mathlib.Core.Bool.{true, not, false≢true}
use mathlib.Core.List.{List}
use native.Mathlib.Omega.{arith}
use lib.Dec.{eqb, ltb}
use borrow.Author.Tests.{ne_eqb, lt-ltb, le-ltb}
use Rattle.network.specs.Network.{Network, node_count}
use Rattle.network.specs.Accepted.{Accepted}
use Rattle.network.specs.Distance.{NONE, dist}
use Rattle.network.specs.Count.{sum_over}
use Rattle.network.specs.Points.{lockers, marked, is_nearer, count_nearer, is_expanded}
use Rattle.network.specs.Households.{is_won, won_length, OwnHouseholds}
use Rattle.network.proofs.Tests.{and_intro, and_parts, and_right}
use Rattle.network.proofs.Distances.{dist_self}
use Rattle.network.proofs.Totals.{total_same, sum_none}
use Rattle.network.proofs.Rank.{weighed_there}

-- nothing is nearer than 0
pub none_below : (g : Network) (T : List ℕ) (m : ℕ) → count_nearer g T m 0 ≡ 0
unfolding count_nearer is_nearer
none_below g T m =
    sum_none (is_nearer g T m 0) (lockers T) (node_count g)
    (λ x h a. absurd (false≢true (sym (and_right (marked T x) (ltb (dist g m x) 0) (le-ltb (dist g m x) 0 (omega arith))) ∙ a)))

own_expanded : {g : Network} → Accepted g → (T : List ℕ) (q k : ℕ) → 1 ≤ k → is_expanded g T q k q ≡ true
unfolding is_expanded
own_expanded {g} ok T q k some =
    let d = dist_self ok q in
    and_intro (not (eqb (dist g q q) NONE)) _ (ap not (ne_eqb (dist g q q) NONE (omega (arith, d))))
    (lt-ltb (count_nearer g T q (dist g q q)) k (rw (d, none_below g T q) (omega arith)))

-- 'Households on a site's node in Ask 1 still belong to the site' (Ask 6)
pub own_households : OwnHouseholds
unfolding is_won
own_households g ok H T q k some h = and_intro (marked H q) (is_expanded g T q k q) h (own_expanded ok T q k some)

-- who is won has a household on a node that is expanded
pub won_parts : (g : Network) (H T : List ℕ) (q k h : ℕ) → is_won g H T q k h ≡ true → (marked H h ≡ true) × (is_expanded g T q k h ≡ true)
unfolding is_won
won_parts g H T q k h e = and_parts (marked H h) (is_expanded g T q k h) e

pub parts_won : (g : Network) (H T : List ℕ) (q k h : ℕ) → marked H h ≡ true → is_expanded g T q k h ≡ true → is_won g H T q k h ≡ true
unfolding is_won
parts_won g H T q k h a b = and_intro (marked H h) (is_expanded g T q k h) a b

-- the length of a list as a sheet counts it: the households on the nodes that are expanded
pub won_length_lem : (g : Network) (H T : List ℕ) (q k : ℕ) → sum_over (is_expanded g T q k) (lockers H) (node_count g) ≡ won_length g H T q k
unfolding won_length is_won
won_length_lem g H T q k =
    total_same _ _ (node_count g)
    (λ x h. weighed_there H x (is_expanded g T q k x))
