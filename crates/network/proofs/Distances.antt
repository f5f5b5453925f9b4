-- The laws of the distance, each from `Least`: self, symmetry, triangle, along an arc, the first and the last arc of a shortest way.
-- Assumes nothing.
use Prim.Native.Nat.{ℕ, ◌+◌, ◌≤◌}
use mathlib.Core.Path.{◌≡◌, sym}
use mathlib.Core.Bool.{not}
use mathlib.Core.Logic.{◌≢◌, ⊎_elim}
use native.Mathlib.Decide.{ℕ_discrete}
use native.Mathlib.Omega.{arith}
use lib.Dec.{eqb, ltb}
use borrow.Author.Tests.{eq-eqb, ne_eqb, lt-ltb, le-ltb}
use Rattle.network.specs.Network.{Network, Arc, node_count}
use Rattle.network.specs.Accepted.{Accepted}
use Rattle.network.specs.Walk.{Walk, here, step}
use Rattle.network.specs.Distance.{NONE, dist}
use Rattle.network.specs.Order.{Upto}
use Rattle.network.proofs.Within.{within_le_none}
use Rattle.network.proofs.Least.{distance}
use Rattle.network.proofs.Walks.{join, First, first, back}

-- the first arc of a shortest way from a to b
pub record Next (g : Network) (a b : ℕ) : Type 0 where
  pub to : ℕ
  pub weight : ℕ
  pub arc : Arc g a to weight
  pub reach : dist g to b ≢ NONE
  pub sum : dist g a b ≡ weight + dist g to b

-- the last arc of a shortest way from s to v
pub record Previous (g : Network) (s v : ℕ) : Type 0 where
  pub from : ℕ
  pub weight : ℕ
  pub arc : Arc g from v weight
  pub reach : dist g s from ≢ NONE
  pub sum : dist g s v ≡ dist g s from + weight

pub dist_at_most : (g : Network) (a b : ℕ) → dist g a b ≤ NONE
unfolding dist
dist_at_most g a b = within_le_none g (node_count g) a b

-- what can be reached is nearer than NONE
pub reached_less : (g : Network) (a b : ℕ) → not (eqb (dist g a b) NONE) ≡ ltb (dist g a b) NONE
reached_less g a b =
    elim (ℕ_discrete (dist g a b) NONE) [
      | yes e ↦ rw (eq-eqb (dist g a b) NONE e) (sym (le-ltb (dist g a b) NONE (omega arith)))
      | no n ↦ rw (ne_eqb (dist g a b) NONE n) (sym (lt-ltb (dist g a b) NONE (omega (arith, dist_at_most g a b))))
    ]

module _ {g : Network} (ok : Accepted g) where
  pub dist_walk : {a b s : ℕ} → Walk g a b s → Upto (dist g a b) s
  dist_walk {a} {b} k = record { some = λ e. (distance ok a b).none e k; most = (distance ok a b).least_sum k }

  pub dist_self : (a : ℕ) → dist g a a ≡ 0
  dist_self a = omega (arith, (dist_walk {a = a} here).most)

  half_symmetric : (a b : ℕ) → dist g a b ≤ dist g b a
  half_symmetric a b =
      elim (ℕ_discrete (dist g b a) NONE) [
        | yes e ↦ omega (arith, dist_at_most g a b)
        | no n ↦ (dist_walk (back ok ((distance ok b a).walk n))).most
      ]

  pub dist_symmetric : (a b : ℕ) → dist g a b ≡ dist g b a
  dist_symmetric a b = omega (arith, half_symmetric a b, half_symmetric b a)

  pub dist_triangle : (a b c : ℕ) → dist g a b ≢ NONE → dist g b c ≢ NONE → Upto (dist g a c) (dist g a b + dist g b c)
  dist_triangle a b c m n = dist_walk (join ((distance ok a b).walk m) ((distance ok b c).walk n))

  pub dist_arc : {a c w : ℕ} (b : ℕ) → Arc g a c w → dist g c b ≢ NONE → Upto (dist g a b) (w + dist g c b)
  dist_arc {c} b r n = dist_walk (step r ((distance ok c b).walk n))

  pub dist_next : (a b : ℕ) → a ≢ b → dist g a b ≢ NONE → Next g a b
  dist_next a b ne n = ⊎_elim (λ e. absurd (ne e)) next (first ((distance ok a b).walk n))
    where
      next : First g a b (dist g a b) → Next g a b
      next f =
          let d = dist_walk f.walk in
          let u = dist_arc b f.arc d.some in
          record { to = f.to; weight = f.weight; arc = f.arc; reach = d.some; sum = omega (arith, d.most, u.most, f.sum) }

  pub dist_zero : (a b : ℕ) → dist g a b ≡ 0 → a ≡ b
  dist_zero a b e =
      elim (ℕ_discrete a b) [
        | yes q ↦ q
        | no n ↦ let x = dist_next a b n (omega arith) in absurd (omega (arith, x.sum, ok.weight_low x.arc))
      ]

  pub dist_previous : (s v : ℕ) → v ≢ s → dist g s v ≢ NONE → Previous g s v
  dist_previous s v ne n =
      let r = dist_next v s ne (omega (arith, dist_symmetric s v)) in
      let h = dist_symmetric s v in
      let k = dist_symmetric s r.to in
      record { from = r.to; weight = r.weight; arc = ok.returns r.arc; reach = omega (arith, r.reach); sum = omega (arith, r.sum) }
