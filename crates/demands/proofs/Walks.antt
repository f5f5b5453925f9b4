-- The tests of a site by walks: who is listed, and which nodes are steps.
-- Assumes nothing.
use Prim.Native.Nat.{ℕ, ◌-◌, ◌≤◌, ◌<◌}
use mathlib.Core.Path.{◌≡◌, refl, sym, ap, ◌∙◌}
use mathlib.Core.Bool.{Bool, true, false, not, ◌&&◌}
use mathlib.Core.Logic.{◌≢◌, ◌↔◌, inl, inr, ⊎_elim}
use mathlib.Core.List.{List, Memᴰ}
use native.Mathlib.Decide.{ℕ_discrete, dec_lt}
use native.Mathlib.Omega.{arith}
use lib.Dec.{eqb, ltb}
use lib.ListN.{length, get_or}
use lib.Seq.{get_or-set_same, get_or-set_other}
use borrow.Author.Tests.{ltb-true, lt-ltb, le-ltb, eq-eqb, ne_eqb, eqb-false, not-true}
use Rattle.network.specs.Network.{Network, node_count}
use Rattle.network.specs.Accepted.{Accepted}
use Rattle.network.specs.Count.{weighed, sum_over}
use Rattle.network.specs.Distance.{NONE, dist}
use Rattle.network.specs.Points.{lockers, marked, is_nearer, count_nearer, others_at, others_nearer, is_listed, listed, is_expanded, fewer_at}
use Rattle.network.specs.Visits.{visits, Earlier}
use Rattle.network.proofs.Least.{distance}
use Rattle.network.proofs.Distances.{dist_symmetric, dist_at_most}
use Rattle.network.proofs.Tests.{and_parts, and_intro}
use Rattle.network.proofs.Counts.{selected, select_passed, member_at}
use Rattle.network.proofs.Totals.{total_same, sum_mono}
use Rattle.network.proofs.Visits.{visits_are}
use Rattle.searches.proofs.Listed.{listed_parts}
use Rattle.demands.specs.Demand2.{Joined, Closer, LockersCloser, OnList, IsStep, Precedes, AreSteps}

-- a node without a locker weighs nothing, whether it is looked at or not
unmarked_weighs : (P : List ℕ) (b : Bool) (x w : ℕ) → (lockers P x ≡ 0 → w ≡ 0) → weighed b w ≡ weighed (marked P x && b) w
unmarked_weighs P b x w h =
    elim (dec_lt 0 (lockers P x)) [
      | yes l ↦ rw (lt-ltb 0 (lockers P x) l)
      | no l ↦ rw (le-ltb 0 (lockers P x) (omega arith), h (omega arith)) (zero b)
    ]
  where
    zero : (b : Bool) → weighed b 0 ≡ 0
    zero true = refl
    zero false = refl

-- all lockers of the network but one of p's own are the others
others_are : (P : List ℕ) (p x : ℕ) → p < length P → lockers (fewer_at P p) x ≡ others_at P p x
others_are P p x l =
    elim (ℕ_discrete x p) [
      | yes e ↦ rw (e, eq-eqb p p refl) (get_or-set_same P p (lockers P p - 1) 0 l)
      | no n ↦ rw (ne_eqb x p n) (get_or-set_other P p x (lockers P p - 1) 0 n ∙ omega arith)
    ]

module _ {g : Network} (ok : Accepted g) (q : ℕ) where
  abbrev joined : (a b : ℕ) → dist g a b ≢ NONE → Joined g a b
  joined a b n = record { sum = dist g a b; walk = (distance ok a b).walk n }

  reached : {a b : ℕ} → Joined g a b → dist g a b ≢ NONE
  reached {a} {b} w e = (distance ok a b).none e w.walk

  -- the test of distances is that of walks
  closer : (m x : ℕ) → dist g m q ≢ NONE → (ltb (dist g m x) (dist g m q) ≡ true) ↔ Closer g m q x
  closer m x r = (
    λ e.
        let l = ltb-true (dist g m x) (dist g m q) e in
        record {
          way = joined m x (λ z. omega (arith, l, z, dist_at_most g m q));
          shorter = λ s w. omega (arith, l, (distance ok m q).least_sum w);
        },
    λ h.
        let w = h.shorter (dist g m q) ((distance ok m q).walk r) in
        lt-ltb (dist g m x) (dist g m q) (omega (arith, w, (distance ok m x).least_sum h.way.walk)),
  )

  -- the lockers counted by that test, and by any other that passes the same nodes
  abbrev nearer : List ℕ → ℕ → ℕ
  nearer L m = sum_over (λ x. ltb (dist g m x) (dist g m q)) (lockers L) (node_count g)

  counted : (L : List ℕ) (m : ℕ) → dist g m q ≢ NONE → LockersCloser g L m q (nearer L m)
  counted L m r = record { test = λ x. ltb (dist g m x) (dist g m q); passes = λ x _. closer m x r; counted = refl }

  no_more : (L : List ℕ) (m some : ℕ) → dist g m q ≢ NONE → LockersCloser g L m q some → nearer L m ≤ some
  no_more L m some r h =
      let c = sum_mono (λ x. ltb (dist g m x) (dist g m q)) h.test (lockers L) (node_count g) (λ x i e. (h.passes x i).1 ((closer m x r).0 e)) in
      omega (arith, c, h.counted)

  -- of all lockers, and of the others
  all_nearer : (P : List ℕ) (m : ℕ) → count_nearer g P m (dist g m q) ≡ nearer P m
  unfolding count_nearer is_nearer
  all_nearer P m =
      total_same _ _ (node_count g) (λ x l. sym (unmarked_weighs P (ltb (dist g m x) (dist g m q)) x (lockers P x) (λ e. e)))

  others_nearer_lem : (P : List ℕ) (p : ℕ) → p < length P → others_nearer g P p (dist g p q) ≡ nearer (fewer_at P p) p
  unfolding others_nearer is_nearer
  others_nearer_lem P p i =
      total_same _ _ (node_count g)
      (λ x l.
      rw (others_are P p x i)
      (sym (unmarked_weighs P (ltb (dist g p x) (dist g p q)) x (others_at P p x) (λ e. omega (arith, e)))))

  pub on_list : (P : List ℕ) → length P ≡ node_count g → (k p : ℕ) → (Memᴰ p (listed g P q k)) ↔ OnList g P q k p
  unfolding listed
  on_list P size k p = (
    λ m.
        let s = select_passed (is_listed g P q k) (node_count g) p m in
        let h = (listed_parts g P q k p).0 s.1 in
        record {
          inside = s.0;
          other = h.other;
          locker = h.mark;
          reach = joined q p (λ e. h.reach (dist_symmetric ok p q ∙ e));
          some = nearer (fewer_at P p) p;
          nearer = counted (fewer_at P p) p h.reach;
          few = omega (arith, others_nearer_lem P p (omega (arith, size, s.0)), h.few);
        },
    λ o.
        let r : dist g p q ≢ NONE = λ e. reached o.reach (dist_symmetric ok q p ∙ e) in
        let c = no_more (fewer_at P p) p o.some r o.nearer in
        selected (is_listed g P q k) (node_count g) p o.inside
        ((listed_parts g P q k p).1
        (record {
          mark = o.locker;
          other = o.other;
          reach = r;
          few = omega (arith, others_nearer_lem P p (omega (arith, size, o.inside)), c, o.few);
        })),
  )

  step_of : (P : List ℕ) (k m : ℕ) → ((m < node_count g) × (is_expanded g P q k m ≡ true)) ↔ IsStep g P q k m
  unfolding is_expanded
  step_of P k m = (
    λ s.
        let a = and_parts (not (eqb (dist g m q) NONE)) _ s.1 in
        let r = eqb-false (dist g m q) NONE (not-true (eqb (dist g m q) NONE) a.0) in
        record {
          inside = s.0;
          reach = joined q m (λ e. r (dist_symmetric ok m q ∙ e));
          some = nearer P m;
          nearer = counted P m r;
          few = omega (arith, all_nearer P m, ltb-true (count_nearer g P m (dist g m q)) k a.1);
        },
    λ o.
        let r : dist g m q ≢ NONE = λ e. reached o.reach (dist_symmetric ok q m ∙ e) in
        let c = no_more P m o.some r o.nearer in (
          o.inside,
          and_intro (not (eqb (dist g m q) NONE)) _ (ap not (ne_eqb (dist g m q) NONE r))
              (lt-ltb (count_nearer g P m (dist g m q)) k (omega (arith, all_nearer P m, c, o.few))),
        ),
  )

  -- one that is reached comes before another, by walks
  precedes : (a b : ℕ) → dist g q a ≢ NONE → Earlier g q a b → Precedes g q a b
  precedes a b r h =
      record {
        way = joined q a r;
        before =
            ⊎_elim (λ l. inl (λ s w. omega (arith, l, (distance ok q b).least_sum w)))
            (λ e. inr (e.1, λ s w. omega (arith, e.0, (distance ok q b).least_sum w))) h;
      }

  pub are_steps : (P : List ℕ) (k : ℕ) → AreSteps g P q k (visits g P q k)
  are_steps P k =
      let v = visits_are ok P q k in
      record {
        members = λ m. (λ h. (step_of P k m).0 ((v.members m).0 h), λ h. (v.members m).1 ((step_of P k m).1 h));
        rises =
            λ i j l h.
            let m = member_at 0 (visits g P q k) i (omega (arith, l, h)) in
            let s = (step_of P k (get_or (visits g P q k) i 0)).0 ((v.members (get_or (visits g P q k) i 0)).0 m) in
            precedes (get_or (visits g P q k) i 0) (get_or (visits g P q k) j 0) (reached s.reach) (v.rises i j l h);
      }
