-- What is near node i is near the next node of a shortest way to it, and reaches no fewer points on the way.
-- Assumes nothing.
use Prim.Native.Nat.{ℕ, ◌+◌, ◌≤◌}
use mathlib.Core.Path.{◌≡◌, ap}
use mathlib.Core.Bool.{true, not}
use mathlib.Core.Logic.{◌≢◌}
use mathlib.Core.List.{List}
use native.Mathlib.Omega.{arith}
use lib.Dec.{eqb}
use borrow.Author.Tests.{ltb-true, lt-ltb, ne_eqb}
use Rattle.network.specs.Network.{Network, Arc, node_count}
use Rattle.network.specs.Accepted.{Accepted}
use Rattle.network.specs.Distance.{NONE, dist}
use Rattle.network.specs.Points.{lockers, is_nearer, count_nearer, is_expanded}
use Rattle.network.specs.Nearest.{key}
use Rattle.network.specs.Order.{Nearer}
use Rattle.network.proofs.Tests.{and_parts, and_intro}
use Rattle.network.proofs.Totals.{sum_mono}
use Rattle.network.proofs.Distances.{Next, dist_at_most, dist_arc}
use Rattle.network.proofs.Rank.{Before, Near, before_mono, nearer_passes, passes_nearer}

module _ {g : Network} (ok : Accepted g) (P : List ℕ) {i c w : ℕ} (arc : Arc g i c w) where
  -- what c reaches i reaches
  pub reached_arc : {p : ℕ} → Nearer g P c NONE p → Nearer g P i NONE p
  reached_arc {p} r =
      let u = dist_arc ok p arc (omega (arith, r.less)) in
      record { inside = r.inside; point = r.point; less = omega (arith, u.some, dist_at_most g i p) }

  pub near_next : (K p : ℕ) → dist g i p ≡ w + dist g c p → Near g P i NONE K p → Near g P c NONE K p
  near_next K p e r =
      record {
        nearer = record { inside = r.nearer.inside; point = r.nearer.point; less = omega (arith, r.nearer.less) };
        few = omega (arith, r.few, before_mono g P c i NONE NONE (key (p, dist g c p)) (key (p, dist g i p)) earlier);
      }
    where
      earlier : (x : ℕ) → Before g P c NONE (key (p, dist g c p)) x → Before g P i NONE (key (p, dist g i p)) x
      earlier x b =
          record { nearer = reached_arc b.nearer; first = omega (arith, b.first, (dist_arc ok x arc (omega (arith, b.nearer.less))).most) }

-- An expanded node goes on to q, by the first arc of a shortest way, through an expanded node: what is nearer to that node than q is nearer to m
-- than q.
module _ {g : Network} (ok : Accepted g) (P : List ℕ) (q k m : ℕ) (n : Next g m q) where
  nearer_too : (x : ℕ) → Nearer g P n.to (dist g n.to q) x → Nearer g P m (dist g m q) x
  nearer_too x r =
      let s : dist g n.to x ≢ NONE = omega (arith, r.less, dist_at_most g n.to q) in
      record { inside = r.inside; point = r.point; less = omega (arith, r.less, (dist_arc ok x n.arc s).most, n.sum) }

  pub count_next : count_nearer g P n.to (dist g n.to q) ≤ count_nearer g P m (dist g m q)
  unfolding count_nearer
  count_next =
      sum_mono (is_nearer g P n.to (dist g n.to q)) (is_nearer g P m (dist g m q)) (lockers P) (node_count g)
      (λ x h a. nearer_passes (nearer_too x (passes_nearer h a)))

  pub expanded_next : is_expanded g P q k m ≡ true → is_expanded g P q k n.to ≡ true
  unfolding is_expanded
  expanded_next e =
      let r = and_parts (not (eqb (dist g m q) NONE)) _ e in
      and_intro (not (eqb (dist g n.to q) NONE)) _ (ap not (ne_eqb (dist g n.to q) NONE n.reach))
      (lt-ltb (count_nearer g P n.to (dist g n.to q)) k (omega (arith, count_next, ltb-true (count_nearer g P m (dist g m q)) k r.1)))
