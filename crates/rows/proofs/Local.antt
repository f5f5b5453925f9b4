-- The exact table is the one whose every row agrees with the rows of its neighbours: conditions that a check of the table can test.
-- Assumes nothing.
use Prim.Native.Nat.{ℕ, zero, suc, ◌+◌, ◌≤◌, ◌<◌}
use mathlib.Core.Path.{◌≡◌, refl, sym, ◌∙◌}
use mathlib.Core.Bool.{true}
use mathlib.Core.Logic.{◌↔◌}
use mathlib.Core.List.{List, Memᴰ}
use native.Mathlib.Decide.{ℕ_discrete, dec_lt}
use native.Mathlib.Omega.{arith}
use lib.ListN.{length}
use Rattle.network.specs.Network.{Network, Arc, node_count}
use Rattle.network.proofs.NodeArcs.{arc_source}
use Rattle.network.specs.Accepted.{Accepted}
use Rattle.network.specs.Walk.{here, step}
use Rattle.network.specs.Distance.{NONE, dist}
use Rattle.network.proofs.Distances.{dist_self, dist_arc, dist_next}
use Rattle.network.specs.Points.{lockers, marked}
use Rattle.network.specs.Nearest.{key, nearest}
use Rattle.network.specs.Order.{before, times}
use Rattle.network.proofs.Ordered.{below, below_all}
use Rattle.network.proofs.Rank.{Before, before_mono, before_most, before_step}
use Rattle.network.proofs.Rows.{nearest_ordered, nearest_length, nearest_below, nearest_times, nearest_no_more, near_listed, listed_near, nearest_source}
use Rattle.network.proofs.Prefix.{reached_arc, near_next}
use Rattle.rows.specs.Exact.{Full, Sorted, Sound, Placed, stands, full, Table, Support, own, via, Local}
use Rattle.rows.proofs.Exact.{exact}

module _ {g : Network} (ok : Accepted g) {P : List ℕ} {K : ℕ} {T : ℕ → List (ℕ × ℕ)} where
  -- the arcs that support an entry make a walk
  walked : Local g P K T → (b i p d : ℕ) → d < b → i < node_count g → Memᴰ (p, d) (T i) → Sound g P i p d
  walked loc zero i p d l h m = absurd (omega arith)
  walked loc (suc b) i p d l h m = from (λ c e. walked loc b c p e) (loc.supported i p d h m)
    where
      from : ((c e : ℕ) → e < b → c < node_count g → Memᴰ (p, e) (T c) → Sound g P c p e) → Support g P T i p d → Sound g P i p d
      from ih (own q z e) = record { inside = omega arith; point = e; walk = rw (q, z) here }
      from ih (via {c} {w} {e} arc n q) =
          let s = ih c e (omega (arith, ok.weight_low arc)) (ok.leads_in arc) n in
          record { inside = s.inside; point = s.point; walk = rw q (step arc s.walk) }

  local_table : Local g P K T → Table g P K T
  local_table loc =
      record {
        sorted = loc.sorted;
        sound = λ i p d h m. walked loc (suc d) i p d (omega arith) h m;
        source = loc.source;
        closed = loc.closed;
      }

  pub local_exact : Local g P K T → (i : ℕ) → i < node_count g → T i ≡ nearest g P i NONE K
  local_exact loc i h = exact ok (local_table loc) i h

-- the exact table has these properties
module _ {g : Network} (ok : Accepted g) (P : List ℕ) (K : ℕ) where
  nearest_sorted : (i : ℕ) → Sorted P K (nearest g P i NONE K)
  nearest_sorted i =
      record {
        ordered = nearest_ordered ok P i NONE K;
        short = omega (arith, nearest_length g P i NONE K);
        once = λ p d e m n. (listed_near ok P i NONE K p d m).far ∙ sym (listed_near ok P i NONE K p e n).far;
        most = nearest_no_more ok P i NONE K;
        whole = whole;
      }
    where
      -- a node that lacks a place ends a full row
      whole : (p d : ℕ) → Memᴰ (p, d) (nearest g P i NONE K) → times p (nearest g P i NONE K) < lockers P p → Full K (nearest g P i NONE K) p d
      whole p d m l =
          let r = listed_near ok P i NONE K p d m in
          let k = key (p, dist g i p) in
          let a = nearest_times ok P i NONE K p r.near.nearer in
          let s = before_step ok P i NONE p r.near.nearer in
          let n : length (nearest g P i NONE K) ≡ K = omega (arith, a, s, r.near.few, nearest_length g P i NONE K, before_most g P i NONE (suc k)) in
          let b : length (nearest g P i NONE K) ≤ below (suc k) (nearest g P i NONE K) = omega (arith, a, s, n, r.near.few, nearest_below ok P i NONE K (suc k)) in
          record { filled = n; ends = λ y u. omega (arith, below_all (suc k) (nearest g P i NONE K) b y u, r.far) }

  nearest_supported : (i p d : ℕ) → Memᴰ (p, d) (nearest g P i NONE K) → Support g P (λ c. nearest g P c NONE K) i p d
  nearest_supported i p d m =
      let r = listed_near ok P i NONE K p d m in
      let n = r.near in
      elim (ℕ_discrete p i) [
        | yes e ↦ own e (r.far ∙ rw (e, dist_self ok i)) n.nearer.point
        | no q ↦
            let x = dist_next ok i p (λ e. q (sym e)) (omega (arith, n.nearer.less)) in
            via x.arc (near_listed ok P x.to NONE K p (near_next ok P x.arc K p x.sum n)) (r.far ∙ x.sum)
      ]

  -- what has more than K before it has the whole row before it
  ahead : (i p : ℕ) → K ≤ before g P i NONE (key (p, dist g i p)) → (y : ℕ × ℕ) → Memᴰ y (nearest g P i NONE K) → key y ≤ key (p, dist g i p)
  ahead i p h y m =
      let r = listed_near ok P i NONE K y.0 y.1 m in
      elim (dec_lt (key (p, dist g i p)) (key y)) [
        | yes l ↦ absurd (omega (arith, r.near.few, before_mono g P i i NONE NONE (key (p, dist g i p)) (key (y.0, dist g i y.0)) (further l r.far)))
        | no n ↦ omega arith
      ]
    where
      further : key (p, dist g i p) < key y → y.1 ≡ dist g i y.0 → (x : ℕ) → Before g P i NONE (key (p, dist g i p)) x → Before g P i NONE (key (y.0, dist g i y.0)) x
      further l e x b = record { nearer = b.nearer; first = omega (arith, b.first) }

  nearest_closed : {i c w : ℕ} → Arc g i c w → (p d : ℕ) → Memᴰ (p, d) (nearest g P c NONE K) → Placed K (nearest g P i NONE K) p (d + w)
  nearest_closed {i} {c} arc p d m =
      let r = listed_near ok P c NONE K p d m in
      let u = dist_arc ok p arc (omega (arith, r.near.nearer.less)) in
      elim (dec_lt (before g P i NONE (key (p, dist g i p))) K) [
        | yes l ↦
            stands {e = dist g i p} (omega (arith, u.most, r.far))
            (near_listed ok P i NONE K p (record { nearer = reached_arc ok P arc r.near.nearer; few = l }))
        | no n ↦
            full
            (record {
              filled = omega (arith, nearest_length g P i NONE K, before_most g P i NONE (key (p, dist g i p)));
              ends = λ y t. omega (arith, u.most, r.far, ahead i p (omega arith) y t);
            })
      ]

  nearest_sourced : (i : ℕ) → 1 ≤ K → i < node_count g → marked P i ≡ true → Memᴰ (i, 0) (nearest g P i NONE K)
  nearest_sourced i k h e = rw (nearest_source ok P i NONE K k (omega arith) h e).first (Memᴰ.head refl)

-- so it is the only one that has
module _ {g : Network} (ok : Accepted g) {P : List ℕ} {K : ℕ} {T : ℕ → List (ℕ × ℕ)} where
  pub exact_local : 1 ≤ K → ((i : ℕ) → i < node_count g → T i ≡ nearest g P i NONE K) → Local g P K T
  exact_local k e =
      record {
        sorted = λ i h. rw (e i h) (nearest_sorted ok P K i);
        supported = λ i p d h m. moved (nearest_supported ok P K i p d (rw (e i h) at m));
        source = λ i h q. rw (e i h) (nearest_sourced ok P K i k h q);
        closed = λ arc p d m. rw (e _ (arc_source arc)) (nearest_closed ok P K arc p d (rw (e _ (ok.leads_in arc)) at m));
      }
    where
      moved : {i p d : ℕ} → Support g P (λ c. nearest g P c NONE K) i p d → Support g P T i p d
      moved (own q z m) = own q z m
      moved (via {c} arc m q) = via arc (rw (← (e c (ok.leads_in arc))) at m) q

  pub local_iff_exact : 1 ≤ K → Local g P K T ↔ ((i : ℕ) → i < node_count g → T i ≡ nearest g P i NONE K)
  local_iff_exact k = (λ loc. local_exact ok loc, λ e. exact_local k e)
