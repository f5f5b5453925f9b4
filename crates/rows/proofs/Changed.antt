-- How many rows one more locker changes, and one fewer: as many as the nodes whose row has a place for it.
-- Assumes nothing.
use Prim.Native.Nat.{ℕ, ◌<◌}
use mathlib.Core.Path.{◌≡◌, refl, sym, ap, ◌∙◌}
use mathlib.Core.Bool.{Bool, true, false, not, ◌&&◌, false≢true}
use mathlib.Core.Logic.{◌≢◌}
use mathlib.Core.List.{List, [], ◌∷◌}
use lib.Dec.{eqb}
use borrow.Author.Tests.{eqb-true, eq-eqb}
use Rattle.network.specs.Network.{Network, node_count}
use Rattle.network.specs.Accepted.{Accepted}
use Rattle.network.specs.Count.{count}
use Rattle.network.specs.Rows.{row, same_row, rows_changed}
use Rattle.network.proofs.Tests.{and_parts, and_intro}
use Rattle.network.proofs.Counts.{count_same}
use Rattle.rows.specs.Update.{Added, Gains}
use Rattle.rows.proofs.Update.{changed_gains}

-- the test of two rows is their equality
pub same_row_lem : (xs ys : List (ℕ × ℕ)) → same_row xs ys ≡ true → xs ≡ ys
unfolding same_row
same_row_lem [] [] e = refl
same_row_lem [] (y ∷ ys) e = absurd (false≢true e)
same_row_lem (x ∷ xs) [] e = absurd (false≢true e)
same_row_lem (x ∷ xs) (y ∷ ys) e =
    let r = and_parts (eqb x.0 y.0 && eqb x.1 y.1) _ e in
    let s = and_parts (eqb x.0 y.0) _ r.0 in
    let p = eqb-true x.0 y.0 s.0 in
    let d = eqb-true x.1 y.1 s.1 in
    let q = same_row_lem xs ys r.1 in
    λ k. (p k, d k) ∷ q k

row_same : (xs : List (ℕ × ℕ)) → same_row xs xs ≡ true
unfolding same_row
row_same [] = refl
row_same (x ∷ xs) =
    and_intro (eqb x.0 x.0 && eqb x.1 x.1) _
    (and_intro (eqb x.0 x.0) _ (eq-eqb x.0 x.0 refl) (eq-eqb x.1 x.1 refl))
    (row_same xs)

-- a test that rows differ passes exactly if they do
differs : (xs ys : List (ℕ × ℕ)) (b : Bool) → (xs ≢ ys → b ≡ true) → (b ≡ true → xs ≢ ys) → not (same_row xs ys) ≡ b
differs xs ys b h k = from (same_row xs ys) refl b h k
  where
    from : (s : Bool) → same_row xs ys ≡ s → (b : Bool) → (xs ≢ ys → b ≡ true) → (b ≡ true → xs ≢ ys) → not s ≡ b
    from true e true h k = absurd (k refl (same_row_lem xs ys e))
    from true e false h k = refl
    from false e b h k = sym (h (λ q. false≢true (sym e ∙ ap (same_row xs) (sym q) ∙ row_same xs)))

-- t tells the nodes whose row has a place for one more at x: as many rows differ as pass
module _ {g : Network} (ok : Accepted g) {P P' : List ℕ} {x : ℕ} (low : x < node_count g) (a : Added P P' x) (K : ℕ) (t : ℕ → Bool)
    (only : (i : ℕ) → i < node_count g → t i ≡ true → Gains g P K i x) (all : (i : ℕ) → i < node_count g → Gains g P K i x → t i ≡ true) where
  -- one more: the points were P and are P'
  pub added_changes : rows_changed g P P' K ≡ count t (node_count g)
  unfolding rows_changed
  added_changes =
      count_same t (λ i. not (same_row (row g P K i) (row g P' K i))) (node_count g)
      (λ i h.
      differs (row g P K i) (row g P' K i) (t i)
      (λ n. all i h ((changed_gains ok low a K i).0 n))
      (λ e. (changed_gains ok low a K i).1 (only i h e)))

  -- one fewer: the points were P' and are P
  pub removed_changes : rows_changed g P' P K ≡ count t (node_count g)
  unfolding rows_changed
  removed_changes =
      count_same t (λ i. not (same_row (row g P' K i) (row g P K i))) (node_count g)
      (λ i h.
      differs (row g P' K i) (row g P K i) (t i)
      (λ n. all i h ((changed_gains ok low a K i).0 (λ e. n (sym e))))
      (λ e q. (changed_gains ok low a K i).1 (only i h e) (sym q)))
