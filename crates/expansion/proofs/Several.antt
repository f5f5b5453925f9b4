-- Several nodes as the origin of a search: a walk from one of them, and the distance of the nearest.
-- Assumes nothing.
use Prim.Native.Nat.{ℕ, ◌+◌}
use mathlib.Core.Logic.{◌≢◌, ⊎_elim}
use mathlib.Core.List.Memᴰ
use mathlib.Core.List.{List, [], ◌∷◌, Memᴰ}
use native.Mathlib.Decide.{ℕ_discrete}
use native.Mathlib.Omega.{arith}
use Rattle.network.specs.Network.{Network, Arc}
use Rattle.network.specs.Accepted.{Accepted}
use Rattle.network.specs.Walk.{Walk, here}
use Rattle.network.specs.Distance.{NONE, dist_from}
use Rattle.network.specs.Order.{Upto}
use Rattle.network.proofs.Walks.{join, arc_walk}
use Rattle.network.proofs.Least.{distance}
use Rattle.network.proofs.Distances.{dist_walk, dist_self, dist_at_most, dist_previous}
use Rattle.network.proofs.DistancesFrom.{from_most, from_any, from_nearest}
use Rattle.expansion.proofs.Origins.{Origin, Last, Lawful}

pub record WalkFrom (g : Network) (S : List ℕ) (v l : ℕ) : Type 0 where
  pub source : ℕ
  pub member : Memᴰ source S
  pub walk : Walk g source v l

abbrev pub several : Network → List ℕ → Origin
several g S = record { Source = λ v. Memᴰ v S; From = WalkFrom g S; far = dist_from g S }

member? : (v : ℕ) (S : List ℕ) → Dec (Memᴰ v S)
member? v [] = no (λ m. Memᴰ.not-nil m)
member? v (s ∷ ss) =
    elim (ℕ_discrete v s) [
      | yes e ↦ yes (Memᴰ.head e)
      | no n ↦ elim (member? v ss) [ yes m ↦ yes (Memᴰ.tail m) | no k ↦ no (λ m. ⊎_elim (λ e. n e) (λ t. k t) (Memᴰ.cases_cons m)) ]
    ]

module _ {g : Network} (ok : Accepted g) (S : List ℕ) where
  from_upto : {v l : ℕ} → WalkFrom g S v l → Upto (dist_from g S v) l
  from_upto {v} {l} k =
      let d = dist_walk ok k.walk in
      let a = from_any g S k.source v k.member in
      record { some = omega (arith, d.some, dist_at_most g k.source v); most = omega (arith, d.most) }

  from_attains : (v : ℕ) → dist_from g S v ≢ NONE → WalkFrom g S v (dist_from g S v)
  from_attains v n =
      let r = from_nearest g S v n in
      record { source = r.source; member = r.member; walk = rw r.is ((distance ok r.source v).walk (omega (arith, r.is))) }

  from_along : {u v l w : ℕ} → WalkFrom g S u l → Arc g u v w → WalkFrom g S v (l + w)
  from_along k r = record { source = k.source; member = k.member; walk = join k.walk (arc_walk r) }

  from_previous : (v : ℕ) → (Memᴰ v S → ⊥) → dist_from g S v ≢ NONE → Last g (several g S) v
  from_previous v off n =
      let r = from_nearest g S v n in
      let p = dist_previous ok r.source v (λ e. off (rw e r.member)) (omega (arith, r.is)) in
      let a = from_any g S r.source p.from r.member in
      let m : dist_from g S p.from ≢ NONE = omega (arith, p.reach, dist_at_most g r.source p.from) in
      let u = from_upto (from_along (from_attains p.from m) p.arc) in
      record { from = p.from; weight = p.weight; arc = p.arc; reach = m; sum = omega (arith, r.is, p.sum, u.most) }

  pub several_lawful : Lawful g (several g S)
  several_lawful =
      record {
        is_source = λ v. member? v S;
        most = λ v. from_most g S v;
        begins = λ s m. record { source = s; member = m; walk = here };
        zero = λ s m. omega (arith, from_any g S s s m, dist_self ok s);
        along = from_along;
        upto = from_upto;
        attains = from_attains;
        previous = from_previous;
      }
