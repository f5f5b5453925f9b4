-- The lockers on q are at the distance of q, never nearer: no count and no verdict but their own turns on them.
-- Assumes nothing.
use Prim.Native.Nat.{ℕ, ◌-◌}
use mathlib.Core.Path.{◌≡◌, refl, sym, ap, ◌∙◌}
use mathlib.Core.Bool.{false, not, ◌&&◌}
use mathlib.Core.Logic.{◌≢◌}
use mathlib.Core.List.{List, map}
use native.Mathlib.Decide.{ℕ_discrete}
use native.Mathlib.Omega.{arith}
use lib.Dec.{eqb, ltb}
use lib.ListN.{set}
use lib.Seq.{get_or-set_other}
use borrow.Author.Tests.{le-ltb, eq-eqb, ne_eqb}
use Rattle.network.specs.Network.{Network, node_count}
use Rattle.network.specs.Distance.{NONE, dist}
use Rattle.network.specs.Count.{bit, weighed}
use Rattle.network.specs.Points.{lockers, marked, is_nearer, count_nearer, others_nearer, verified, is_listed, listed, is_expanded, expanded}
use Rattle.network.specs.Nearest.{by_distance}
use Rattle.network.specs.Visits.{visits}
use Rattle.network.specs.OwnLockers.{OwnLockers}
use Rattle.network.proofs.Tests.{and_right}
use Rattle.network.proofs.Counts.{count_same, select_same}
use Rattle.network.proofs.Tabulate.{tabulate_same}
use Rattle.network.proofs.Totals.{total_same}

module _ (g : Network) (P : List ℕ) (q k w : ℕ) where
  abbrev P' : List ℕ
  P' = set P q w

  -- a locker on q is not nearer to m than q is
  not_nearer : (M : List ℕ) (m : ℕ) → is_nearer g M m (dist g m q) q ≡ false
  unfolding is_nearer
  not_nearer M m = and_right (marked M q) _ (le-ltb (dist g m q) (dist g m q) (omega arith))

  elsewhere : (x : ℕ) → x ≢ q → lockers P' x ≡ lockers P x
  elsewhere x n = get_or-set_other P q x w 0 n

  nearer_elsewhere : (m e x : ℕ) → x ≢ q → is_nearer g P' m e x ≡ is_nearer g P m e x
  unfolding is_nearer
  nearer_elsewhere m e x n = ap (λ (l : ℕ). ltb 0 l && ltb (dist g m x) e) (elsewhere x n)

  -- so a sum over the lockers that are nearer than q is the same, whatever weight a node has by its lockers
  same_weight : (of : ℕ → ℕ → ℕ) (m x : ℕ)
      → weighed (is_nearer g P' m (dist g m q) x) (of x (lockers P' x)) ≡ weighed (is_nearer g P m (dist g m q) x) (of x (lockers P x))
  same_weight of m x =
      elim (ℕ_discrete x q) [
        | yes e ↦ rw (e, not_nearer P' m, not_nearer P m)
        | no n ↦ rw (nearer_elsewhere m (dist g m q) x n, elsewhere x n)
      ]

  same_nearer : (m : ℕ) → count_nearer g P' m (dist g m q) ≡ count_nearer g P m (dist g m q)
  unfolding count_nearer
  same_nearer m = total_same _ _ (node_count g) (λ x h. same_weight (λ _ l. l) m x)

  same_others : (p : ℕ) → others_nearer g P' p (dist g p q) ≡ others_nearer g P p (dist g p q)
  unfolding others_nearer
  same_others p = total_same _ _ (node_count g) (λ x h. same_weight (λ x l. l - bit (eqb x p)) p x)

  same_expanded : (m : ℕ) → is_expanded g P' q k m ≡ is_expanded g P q k m
  unfolding is_expanded
  same_expanded m = rw (same_nearer m)

  same_listed : (p : ℕ) → is_listed g P' q k p ≡ is_listed g P q k p
  unfolding is_listed verified
  same_listed p =
      elim (ℕ_discrete p q) [
        | yes e ↦ rw (eq-eqb p q e) (and_right (marked P' p) false refl ∙ sym (and_right (marked P p) false refl))
        | no n ↦ rw (elsewhere p n, same_others p)
      ]

  same_list_lem : listed g P' q k ≡ listed g P q k
  unfolding listed
  same_list_lem = select_same (is_listed g P' q k) (is_listed g P q k) (node_count g) (λ p h. same_listed p)

  same_count : expanded g P' q k ≡ expanded g P q k
  unfolding expanded
  same_count = count_same (is_expanded g P q k) (is_expanded g P' q k) (node_count g) (λ m h. same_expanded m)

  same_visits : visits g P' q k ≡ visits g P q k
  unfolding visits
  same_visits =
      ap (λ (l : List ℕ). map (λ x. x.0) (by_distance g l q NONE (node_count g)))
      (tabulate_same (λ m. bit (is_expanded g P' q k m)) (λ m. bit (is_expanded g P q k m)) (node_count g) (λ m h. ap bit (same_expanded m)))

says_no : (g : Network) (P : List ℕ) (q k : ℕ) → verified g P q q k ≡ false
unfolding verified
says_no g P q k = rw (eq-eqb q q refl)

unlisted : (g : Network) (P : List ℕ) (q k : ℕ) → is_listed g P q k q ≡ false
unfolding is_listed
unlisted g P q k = and_right (marked P q) (verified g P q q k) (says_no g P q k)

others : (g : Network) (P : List ℕ) (q k p : ℕ) → p ≢ q → verified g P p q k ≡ (not (eqb (dist g p q) NONE) && ltb (others_nearer g P p (dist g p q)) k)
unfolding verified
others g P q k p n = rw (ne_eqb p q n)

pub own_lockers : (g : Network) (P : List ℕ) (q k : ℕ) → OwnLockers g P q k
own_lockers g P q k =
    record {
      says_no = says_no g P q k;
      unlisted = unlisted g P q k;
      others = others g P q k;
      same_list_lem = same_list_lem g P q k;
      same_count = same_count g P q k;
      same_visits = same_visits g P q k;
    }
