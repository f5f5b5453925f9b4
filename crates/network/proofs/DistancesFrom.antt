-- The distance of the nearest of several nodes: no more than that of any, and that of one of them.
-- Assumes nothing.
use Prim.Native.Nat.{ℕ, ◌≤◌}
use mathlib.Core.Path.{◌≡◌, refl, ap}
use mathlib.Core.Logic.{◌≢◌, ⊎_elim}
use mathlib.Core.List.Memᴰ
use mathlib.Core.List.{List, [], ◌∷◌, Memᴰ}
use native.Mathlib.Decide.{ℕ_discrete, dec_le}
use native.Mathlib.Omega.{arith}
use Rattle.network.specs.Network.{Network}
use Rattle.network.specs.Distance.{NONE, dist, dist_from}
use Rattle.network.proofs.Distances.{dist_at_most}

pub record NearestOf (g : Network) (S : List ℕ) (v : ℕ) : Type 0 where
  pub source : ℕ
  pub member : Memᴰ source S
  pub is : dist_from g S v ≡ dist g source v

module _ (g : Network) where
  pub from_most : (S : List ℕ) (v : ℕ) → dist_from g S v ≤ NONE
  unfolding dist_from
  from_most [] v = omega arith
  from_most (s ∷ ss) v = omega (arith, dist_at_most g s v)

  pub from_any : (S : List ℕ) (s v : ℕ) → Memᴰ s S → dist_from g S v ≤ dist g s v
  unfolding dist_from
  from_any [] s v m = absurd (Memᴰ.not-nil m)
  from_any (t ∷ ss) s v m =
      ⊎_elim
      (λ e. omega (arith, ap (λ (x : ℕ). dist g x v) e))
      (λ i. omega (arith, from_any ss s v i))
      (Memᴰ.cases_cons m)

  pub from_nearest : (S : List ℕ) (v : ℕ) → dist_from g S v ≢ NONE → NearestOf g S v
  unfolding dist_from
  from_nearest [] v n = absurd (n refl)
  from_nearest (s ∷ ss) v n =
      elim (dec_le (dist g s v) (dist_from g ss v)) [
        | yes l ↦ record { source = s; member = Memᴰ.head refl; is = omega arith }
        | no l ↦ let r = from_nearest ss v (omega arith) in record { source = r.source; member = Memᴰ.tail r.member; is = omega (arith, r.is) }
      ]

  -- a list of one node
  pub from_one : (S : List ℕ) (s v : ℕ) → Memᴰ s S → ((x : ℕ) → Memᴰ x S → x ≡ s) → dist_from g S v ≡ dist g s v
  from_one S s v m only =
      elim (ℕ_discrete (dist_from g S v) NONE) [
        | yes e ↦ omega (arith, from_any S s v m, dist_at_most g s v)
        | no n ↦ let r = from_nearest S v n in omega (arith, r.is, ap (λ (x : ℕ). dist g x v) (only r.source r.member))
      ]

  -- lists of the same nodes
  pub from_same : (R S : List ℕ) (v : ℕ) → ((x : ℕ) → Memᴰ x R → Memᴰ x S) → ((x : ℕ) → Memᴰ x S → Memᴰ x R) → dist_from g R v ≡ dist_from g S v
  from_same R S v to back =
      omega (arith, no_more S R v back, no_more R S v to)
    where
      no_more : (X Y : List ℕ) (v : ℕ) → ((x : ℕ) → Memᴰ x X → Memᴰ x Y) → dist_from g Y v ≤ dist_from g X v
      no_more X Y v sub =
          elim (ℕ_discrete (dist_from g X v) NONE) [
            | yes e ↦ omega (arith, from_most Y v)
            | no n ↦ let r = from_nearest X v n in omega (arith, r.is, from_any Y r.source v (sub r.source r.member))
          ]
