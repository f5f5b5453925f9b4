-- Pruning a search from its origin, a site or the nodes of a route: where k marks are nearer to m than the nearest source, the search may stop, as they are
-- nearer than it to each node behind m too.
-- Assumes nothing.
use Prim.Native.Nat.{ℕ, ◌+◌, ◌≤◌, ◌<◌}
use mathlib.Core.Path.{◌≡◌, ap}
use mathlib.Core.Bool.{true, not}
use mathlib.Core.Logic.{◌≢◌, ◌↔◌}
use mathlib.Core.List.{List}
use native.Mathlib.Decide.{dec_le}
use native.Mathlib.Omega.{arith}
use lib.Dec.{eqb}
use borrow.Author.Tests.{ltb-true, lt-ltb, eqb-false, ne_eqb, not-true}
use Rattle.network.specs.Network.{Network, Arc, node_count}
use Rattle.network.specs.Accepted.{Accepted}
use Rattle.network.specs.Distance.{NONE, dist}
use Rattle.network.specs.Order.{Nearer}
use Rattle.network.proofs.Tests.{and_parts, and_intro}
use Rattle.network.specs.Points.{lockers, marked, is_nearer, count_nearer, is_expanded}
use Rattle.network.proofs.Totals.{sum_le}
use Rattle.network.proofs.Distances.{dist_symmetric, dist_arc}
use Rattle.network.proofs.Households.{none_below}
use Rattle.network.proofs.Rank.{nearer_passes, passes_nearer, count_nearer_mono, nearer_farther}
use Rattle.expansion.proofs.Origins.{Origin, Lawful, one}
use Rattle.expansion.proofs.Search.{ClosedBefore}

-- k marks are nearer to m than its nearest source; and they are not
abbrev pub Beaten : Network → List ℕ → Origin → ℕ → ℕ → Type 0
Beaten g M o k m = k ≤ count_nearer g M m (o.far m)

abbrev pub Unbeaten : Network → List ℕ → Origin → ℕ → ℕ → Type 0
Unbeaten g M o k m = Beaten g M o k m → ⊥

pub dec_beaten : (g : Network) (M : List ℕ) (o : Origin) (k m : ℕ) → Dec (Beaten g M o k m)
dec_beaten g M o k m = dec_le k (count_nearer g M m (o.far m))

-- M has no more lockers at a node than P
abbrev pub Part : List ℕ → List ℕ → Type 0
Part M P = (x : ℕ) → lockers M x ≤ lockers P x

pub part_marked : (M P : List ℕ) (x : ℕ) → Part M P → marked M x ≡ true → marked P x ≡ true
part_marked M P x sub m = lt-ltb 0 (lockers P x) (omega (arith, ltb-true 0 (lockers M x) m, sub x))

-- with more marks no fewer are nearer
pub beaten_part : (g : Network) (M P : List ℕ) (o : Origin) (k m : ℕ) → Part M P → Beaten g M o k m → Beaten g P o k m
unfolding count_nearer
beaten_part g M P o k m sub h =
    omega (
      arith,
      sum_le (is_nearer g M m (o.far m)) (is_nearer g P m (o.far m)) (lockers M) (lockers P) (node_count g)
          (λ x h a.
          let r = passes_nearer {P = M} h a in
          (nearer_passes {P = P} (record { inside = h; point = part_marked M P x sub r.point; less = r.less }), sub x)),
    )

pub unbeaten_part : (g : Network) (M P : List ℕ) (o : Origin) (k m : ℕ) → Part M P → Unbeaten g P o k m → Unbeaten g M o k m
unbeaten_part g M P o k m sub n b = n (beaten_part g M P o k m sub b)

-- What a search tells from the count at a label l that is the distance of m if m is unbeaten, and no less in any case.
module _ (g : Network) (M : List ℕ) (o : Origin) (k m l : ℕ) where
  pub stops : (Unbeaten g M o k m → l ≡ o.far m) → k ≤ count_nearer g M m l → Beaten g M o k m
  stops right h =
      elim (dec_beaten g M o k m) [
        | yes b ↦ b
        | no n ↦ absurd (n (rw (right n) at h))
      ]

  pub goes_on : Lawful g o → o.From m l → count_nearer g M m l < k → Unbeaten g M o k m
  goes_on lawful walk h b = omega (arith, nearer_farther g M m (o.far m) l (lawful.upto walk).most)

module _ {g : Network} (ok : Accepted g) {o : Origin} (lawful : Lawful g o) (M : List ℕ) (k : ℕ) where
  -- what is nearer to c than its source is nearer to the node behind it
  behind : (c m w x : ℕ) → Arc g c m w → o.far m ≡ o.far c + w → Nearer g M c (o.far c) x → Nearer g M m (o.far m) x
  behind c m w x r e h =
      let u = dist_arc ok x (ok.returns r) (omega (arith, h.less, lawful.most c)) in
      record { inside = h.inside; point = h.point; less = omega (arith, h.less, u.most) }

  -- what is beaten stays beaten along an arc of a shortest way from a source
  pub propagates : (c m w : ℕ) → Arc g c m w → o.far m ≡ o.far c + w → Beaten g M o k c → Beaten g M o k m
  propagates c m w r e h = omega (arith, count_nearer_mono g M c m (o.far c) (o.far m) (λ x a. behind c m w x r e a))

  pub unbeaten_closed : ClosedBefore g o (Unbeaten g M o k)
  unbeaten_closed = record { before = λ u v w n r e reach b. n (propagates u v w r e b) }

  -- nothing is nearer to a source than itself
  pub source_unbeaten : 1 ≤ k → (s : ℕ) → o.Source s → Unbeaten g M o k s
  source_unbeaten some s h b = omega (arith, ap (count_nearer g M s) (lawful.zero s h), none_below g M s)

-- the nodes of the whole search from a site
pub expanded_unbeaten : {g : Network} → Accepted g → (P : List ℕ) (q k m : ℕ) → (is_expanded g P q k m ≡ true) ↔ ((dist g q m ≢ NONE) × Unbeaten g P (one g q) k m)
unfolding is_expanded
expanded_unbeaten {g} ok P q k m = (
  λ e.
      let r = and_parts (not (eqb (dist g m q) NONE)) _ e in (
        omega (arith, s, eqb-false (dist g m q) NONE (not-true (eqb (dist g m q) NONE) r.0)),
        λ b. omega (arith, ltb-true (count_nearer g P m (dist g m q)) k r.1, ap (count_nearer g P m) s),
      ),
  λ h.
      and_intro (not (eqb (dist g m q) NONE)) _ (ap not (ne_eqb (dist g m q) NONE (omega (arith, s, h.0))))
      (lt-ltb (count_nearer g P m (dist g m q)) k (omega (arith, h.1, ap (count_nearer g P m) s))),
)
  where
    s : dist g q m ≡ dist g m q
    s = dist_symmetric ok q m
