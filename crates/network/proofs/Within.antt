-- How `within` came about: what its clauses say, as facts. What it gives is the sum of a walk.
-- Assumes nothing.
use Prim.Native.Nat.{ℕ, zero, suc, ◌+◌, ◌≤◌}
use mathlib.Core.Path.{◌≡◌, refl, ap, ◌∙◌}
use mathlib.Core.Logic.{◌≢◌, ⊎_elim}
use mathlib.Core.List.Memᴰ
use mathlib.Core.List.{List, [], ◌∷◌, Memᴰ}
use native.Mathlib.Decide.{ℕ_discrete, dec_le}
use native.Mathlib.Omega.{arith}
use borrow.Author.Tests.{eq-eqb, ne_eqb}
use Rattle.network.specs.Network.{Network, Arc, arcs_of}
use Rattle.network.proofs.NodeArcs.{arc_listed, listed_arc}
use Rattle.network.specs.Walk.{Walk, here, step}
use Rattle.network.specs.Distance.{NONE, plus, least_over, within}

pub plus_some : (w v : ℕ) → v ≢ NONE → plus w v ≡ w + v
unfolding plus
plus_some w v h = rw (ne_eqb v NONE h, plus)

pub plus_none : (w v : ℕ) → v ≡ NONE → plus w v ≡ NONE
unfolding plus
plus_none w v h = rw (eq-eqb v NONE h, plus)

module _ (f : ℕ → ℕ) where
  least_le : (ps : List (ℕ × ℕ)) (c w : ℕ) → Memᴰ (c, w) ps → least_over f ps ≤ plus w (f c)
  unfolding least_over
  least_le [] c w m = absurd (Memᴰ.not-nil m)
  least_le (p ∷ ps) c w m =
      ⊎_elim
      (λ e. omega (arith, ap (λ (x : ℕ × ℕ). plus x.1 (f x.0)) e))
      (λ t. let h = least_le ps c w t in omega arith)
      (Memᴰ.cases_cons m)

  least_le_none : (ps : List (ℕ × ℕ)) → least_over f ps ≤ NONE
  unfolding least_over
  least_le_none [] = omega arith
  least_le_none (p ∷ ps) = let h = least_le_none ps in omega arith

  -- the arc at which the least stands
  pub record Best (ps : List (ℕ × ℕ)) : Type 0 where
    pub to : ℕ
    pub weight : ℕ
    pub mem : Memᴰ (to, weight) ps
    pub sum : least_over f ps ≡ plus weight (f to)

  best : (ps : List (ℕ × ℕ)) → least_over f ps ≢ NONE → Best ps
  unfolding least_over
  best [] h = absurd (h refl)
  best (p ∷ ps) h =
      elim (dec_le (plus p.1 (f p.0)) (least_over f ps)) [
        | yes l ↦ record { to = p.0; weight = p.1; mem = Memᴰ.head refl; sum = omega arith }
        | no n ↦
            let r = best ps (omega (arith, h)) in
            record { to = r.to; weight = r.weight; mem = Memᴰ.tail r.mem; sum = omega arith }
      ]

-- the clauses of `within`
pub within_same : (g : Network) (j a b : ℕ) → a ≡ b → within g j a b ≡ 0
unfolding within
within_same g zero a b e = rw (eq-eqb a b e, within)
within_same g (suc j) a b e = rw (eq-eqb a b e, within)

within_zero : (g : Network) (a b : ℕ) → a ≢ b → within g zero a b ≡ NONE
unfolding within
within_zero g a b n = rw (ne_eqb a b n, within)

within_suc : (g : Network) (j a b : ℕ) → a ≢ b → within g (suc j) a b ≡ least_over (λ c. within g j c b) (arcs_of g a)
unfolding within
within_suc g j a b n = rw (ne_eqb a b n, within)

-- along an arc
pub within_arc : {g : Network} {a c w : ℕ} (j b : ℕ) → Arc g a c w → within g (suc j) a b ≤ plus w (within g j c b)
within_arc {g} {a} {c} {w} j b r =
    elim (ℕ_discrete a b) [
      | yes e ↦ rw (within_same g (suc j) a b e) (omega arith)
      | no n ↦ rw (within_suc g j a b n) (least_le (λ x. within g j x b) (arcs_of g a) c w (arc_listed r))
    ]

pub within_le_none : (g : Network) (j a b : ℕ) → within g j a b ≤ NONE
within_le_none g j a b = elim (ℕ_discrete a b) [ yes e ↦ rw (within_same g j a b e) (omega arith) | no n ↦ go j n ]
  where
    go : (i : ℕ) → a ≢ b → within g i a b ≤ NONE
    go zero n = rw (within_zero g a b n) (omega arith)
    go (suc i) n = rw (within_suc g i a b n) (least_le_none (λ x. within g i x b) (arcs_of g a))

-- what is not NONE is the sum of a walk
pub within_walk : (g : Network) (j a b : ℕ) → within g j a b ≢ NONE → Walk g a b (within g j a b)
within_walk g zero a b h =
    elim (ℕ_discrete a b) [
      | yes e ↦ rw (within_same g zero a b e, ← e) here
      | no n ↦ absurd (h (within_zero g a b n))
    ]
within_walk g (suc j) a b h =
    elim (ℕ_discrete a b) [
      | yes e ↦ rw (within_same g (suc j) a b e, ← e) here
      | no n ↦ along (λ c. within_walk g j c b) n (best (λ x. within g j x b) (arcs_of g a) (rw (within_suc g j a b n) at h))
    ]
  where
    along : ((c : ℕ) → within g j c b ≢ NONE → Walk g c b (within g j c b)) → a ≢ b → Best (λ x. within g j x b) (arcs_of g a) → Walk g a b (within g (suc j) a b)
    along ih n r =
        elim (ℕ_discrete (within g j r.to b) NONE) [
          | yes e ↦ absurd (h (within_suc g j a b n ∙ r.sum ∙ plus_none r.weight _ e))
          | no f ↦ rw (within_suc g j a b n, r.sum, plus_some r.weight (within g j r.to b) f) (step (listed_arc r.mem) (ih r.to f))
        ]
