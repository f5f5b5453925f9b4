-- What a search from a site or a route has found where it has settled all that it comes to.
-- Assumes nothing.
use Prim.Native.Nat.{ℕ, suc, ◌<◌}
use mathlib.Core.Path.{◌≡◌}
use mathlib.Core.Bool.{Bool, true}
use mathlib.Core.Logic.{◌≢◌}
use mathlib.Core.List.{List}
use native.Mathlib.Omega.{arith}
use Rattle.network.specs.Network.{Network, node_count}
use Rattle.network.specs.Accepted.{Accepted}
use Rattle.network.specs.Walk.{Walk}
use Rattle.network.specs.Distance.{NONE, dist}
use Rattle.network.specs.Points.{lockers, count_nearer, is_expanded}
use Rattle.network.specs.Nearest.{key}
use Rattle.network.specs.Order.{Nearer, before}
use borrow.Author.Tests.{ltb-true}
use Rattle.network.proofs.Distances.{dist_walk}
use Rattle.network.proofs.Rank.{Near, before_step, before_most}
use Rattle.expansion.proofs.Origins.{Origin, Lawful, one}
use Rattle.searches.proofs.Beaten.{Unbeaten, expanded_unbeaten}
use Rattle.searches.proofs.Finds.{Receives, Met, eager_finds}

-- a point does not come before itself
pub before_less : {g : Network} → Accepted g → {P : List ℕ} {i e p : ℕ} → Nearer g P i e p → before g P i e (key (p, dist g i p)) < count_nearer g P i e
before_less {g} ok {P} {i} {e} {p} h =
    omega (
      arith,
      before_step ok P i e p h,
      before_most g P i e (suc (key (p, dist g i p))),
      ltb-true 0 (lockers P p) h.point,
    )

-- with the marks P: each point that is received is among the k that are found from a node that is settled at its distance
pub record Found (g : Network) (P : List ℕ) (Settled : ℕ → ℕ → Type 0) (o : Origin) (k p : ℕ) : Type 0 where
  pub node : ℕ
  pub settled : Settled node (o.far node)
  pub near : Near g P node (o.far node) k p

module _ {g : Network} (ok : Accepted g) {o : Origin} (lawful : Lawful g o) (P : List ℕ) (k : ℕ) (Settled : ℕ → ℕ → Type 0)
    (all : (v : ℕ) → Met g P o k v → o.far v ≢ NONE → Settled v (o.far v)) where
  eager_finished : (p : ℕ) → p < node_count g → Receives g P o k p → Found g P Settled o k p
  eager_finished p low h =
      let f = eager_finds ok lawful P k p h in
      let n : Nearer g P f.node (o.far f.node) p = record { inside = low; point = h.mark; less = f.nearer } in
      record {
        node = f.node;
        settled = all f.node f.met f.reach;
        near = record { nearer = n; few = omega (arith, before_less ok n, f.few) };
      }

  -- so each point of a list is flagged, where it is received, and those on it that are found from a settled node are flagged
  pub listed_flagged : (L : ℕ → Bool) (Flagged : ℕ → Type 0) → ((p : ℕ) → L p ≡ true → Receives g P o k p)
      → ((v m p : ℕ) → Settled v m → Near g P v m k p → L p ≡ true → Flagged p)
      → (p : ℕ) → p < node_count g → L p ≡ true → Flagged p
  listed_flagged L Flagged receives told p low h =
      let f = eager_finished p low (receives p h) in
      told f.node (o.far f.node) p f.settled f.near h

-- the nodes come to that are unbeaten are those that the search goes through
pub come_expanded : {g : Network} → Accepted g → (P : List ℕ) (q k m : ℕ) {l : ℕ} → Walk g q m l → Unbeaten g P (one g q) k m → is_expanded g P q k m ≡ true
come_expanded ok P q k m walk n = (expanded_unbeaten ok P q k m).1 ((dist_walk ok walk).some, n)
