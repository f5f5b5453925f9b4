-- Where a search comes from: one node, or several. What the law of a search asks of it are a few laws of the distance from its nearest source.
-- Assumes nothing.
use Prim.Native.Nat.{ℕ, ◌+◌, ◌≤◌}
use mathlib.Core.Path.{◌≡◌}
use mathlib.Core.Logic.{◌≢◌}
use native.Mathlib.Decide.{ℕ_discrete}
use native.Mathlib.Nat.{add_assoc, add-zero}
use Rattle.network.specs.Network.{Network, Arc}
use Rattle.network.specs.Accepted.{Accepted}
use Rattle.network.specs.Walk.{Walk, here, step}
use Rattle.network.specs.Distance.{NONE, dist}
use Rattle.network.specs.Order.{Upto}
use Rattle.network.proofs.Walks.{join, arc_walk}
use Rattle.network.proofs.Least.{distance}
use Rattle.network.proofs.Distances.{dist_walk, dist_self, dist_at_most, dist_previous}

-- which nodes are sources; which sums walks from a source to v have; how far v is from its nearest source, NONE where none reaches it
pub record Origin : Type 1 where
  pub Source : ℕ → Type 0
  pub From : ℕ → ℕ → Type 0
  pub far : ℕ → ℕ

-- the last arc of a shortest way from a source to v
pub record Last (g : Network) (o : Origin) (v : ℕ) : Type 0 where
  pub from : ℕ
  pub weight : ℕ
  pub arc : Arc g from v weight
  pub reach : o.far from ≢ NONE
  pub sum : o.far v ≡ o.far from + weight

pub record Lawful (g : Network) (o : Origin) : Type 0 where
  pub is_source : (v : ℕ) → Dec (o.Source v)
  pub most : (v : ℕ) → o.far v ≤ NONE
  pub begins : (s : ℕ) → o.Source s → o.From s 0
  pub zero : (s : ℕ) → o.Source s → o.far s ≡ 0
  pub along : {u v l w : ℕ} → o.From u l → Arc g u v w → o.From v (l + w)
  pub upto : {v l : ℕ} → o.From v l → Upto (o.far v) l
  pub attains : (v : ℕ) → o.far v ≢ NONE → o.From v (o.far v)
  pub previous : (v : ℕ) → (o.Source v → ⊥) → o.far v ≢ NONE → Last g o v

-- a walk from a source goes on along another
onward : {g : Network} {o : Origin} → Lawful g o → {u v l s : ℕ} → o.From u l → Walk g u v s → o.From v (l + s)
onward lawful h here = rw add-zero h
onward lawful h (step r k) = rw (← add_assoc) (onward lawful (lawful.along h r) k)

-- so what a source reaches through u is no farther than u and the rest
pub far_through : {g : Network} {o : Origin} → Accepted g → Lawful g o → (u v : ℕ) → o.far u ≢ NONE → dist g u v ≢ NONE → Upto (o.far v) (o.far u + dist g u v)
far_through ok lawful u v m n = lawful.upto (onward lawful (lawful.attains u m) ((distance ok u v).walk n))

-- one node
abbrev pub one : Network → ℕ → Origin
one g s = record { Source = λ v. v ≡ s; From = Walk g s; far = dist g s }

pub one_lawful : {g : Network} → Accepted g → (s : ℕ) → Lawful g (one g s)
one_lawful {g} ok s =
    record {
      is_source = λ v. ℕ_discrete v s;
      most = λ v. dist_at_most g s v;
      begins = λ v e. rw e here;
      zero = λ v e. rw (e, dist_self ok s);
      along = λ k r. join k (arc_walk r);
      upto = λ k. dist_walk ok k;
      attains = λ v n. (distance ok s v).walk n;
      previous =
          λ v ne n.
          let p = dist_previous ok s v ne n in
          record { from = p.from; weight = p.weight; arc = p.arc; reach = p.reach; sum = p.sum };
    }
