-- A chain over two lists of one length, such as a row's, or over the numbers below n, as a test of `any`.
-- Assumes nothing.
use Prim.Native.Nat.{ℕ, ◌<◌}
use Rattle.std.proofs.Common.{zero-add}
use Rattle.std.proofs.Math.Nat.{sub-zero}
use mathlib.Core.Path.{◌≡◌, refl, sym, ap, ◌∙◌, subst}
use mathlib.Core.Bool.{Bool, true, false, false≢true}
use mathlib.Core.Logic.{⊎_elim}
use mathlib.Core.List.{List}
use native.Mathlib.Omega.{arith}
use lib.ListN.{length, get_or}
use denote.Param.Members.{Mut}
use denote.Ref.{Bor}
use Rattle.std.proofs.Common.{Option, Some, Iter}
use Rattle.std.specs.declared.iter.Zip.{Zip}
use Rattle.std.specs.declared.ops.Range.{Range}
use Rattle.std.specs.Fn.{Called}
use Rattle.std.specs.Iterator.{YieldsThen, CallableAtEachTurn}
use Rattle.std.specs.Iterator.Adapters.{zip_first, zip_second}
use Rattle.std.specs.List.{zip, range_with_len, list_any, FoldsTo}
use Rattle.std.specs.Option.{MatchOption}
use Rattle.std.specs.Slice.Iter.{iter_rest}
use Rattle.std.proofs.iter.Yields.{fronts, nat_range_steps}
use Rattle.std.proofs.lemmas.Iterator.{zips, YieldsList-from_slice, YieldsList-from_range, YieldsList-from_zip}
use Rattle.std.proofs.lemmas.Iterator.Search.{any_from_yields_List}
use Rattle.std.proofs.lemmas.Fn.{chained_keeps}
use Rattle.std.proofs.lemmas.List.Folds.{list_any_none, list_any_at}
use Rattle.std.proofs.lemmas.List.FromFn.{length-range_with_len, get_or-range_with_len}
use Rattle.std.proofs.lemmas.List.Elements.{All-from_get_or}
use Rattle.std.proofs.lemmas.Slice.Zip.{length-zip, get_or-zip, zip_turn}
use Rattle.network.specs.Count.{any}
use Rattle.network.proofs.Tests.{alike, bool_cases, any_none, any_passes}

-- a test of a list's members is a test of their indices
any_listed : {X : Type 0} (p : X → Bool) (zs : List X) (d : X) (t : ℕ → Bool) (n : ℕ) → length zs ≡ n → ((j : ℕ) → j < n → p (get_or zs j d) ≡ t j) → list_any p zs ≡ any t n
any_listed p zs d t n size each = alike _ _ there back
  where
    there : list_any p zs ≡ true → any t n ≡ true
    there e =
        ⊎_elim
        (λ q. q)
        (λ q.
        absurd
        (false≢true
        (sym (list_any_none p zs (All-from_get_or (λ x. p x ≡ false) zs d (λ j l. each j (omega (arith, size)) ∙ any_none t n j q (omega (arith, size))))) ∙ e)))
        (bool_cases (any t n))

    back : any t n ≡ true → list_any p zs ≡ true
    back e = let r = any_passes t n e in list_any_at p zs r.at d (omega (arith, size, r.low)) (each r.at r.low ∙ r.passes)

any_zip : (t : ℕ × ℕ → Bool) (xs ys : List ℕ) → length ys ≡ length xs → list_any t (zip xs ys) ≡ any (λ j. t (get_or xs j 0, get_or ys j 0)) (length xs)
any_zip t xs ys even =
    any_listed t (zip xs ys) (0, 0) (λ j. t (get_or xs j 0, get_or ys j 0)) (length xs) (omega (arith, length-zip xs ys, even))
    (λ j l. ap t (get_or-zip xs ys j (0, 0) l (omega arith)))

any_range : (t : ℕ → Bool) (n : ℕ) → list_any t (range_with_len 0 n) ≡ any t n
any_range t n = any_listed t (range_with_len 0 n) 0 t n (length-range_with_len 0 n) (λ j l. ap t (get_or-range_with_len 0 n j 0 l ∙ zero-add j))

-- what `xs.iter().zip(ys).any(..)` returned, by the step that `any` ran, and the test that its closure computes of a pair
pub zip_finds : {F : Type 0} {g : Mut F ((Bor ℕ × Bor ℕ) × Unit {0}) Bool} {s : Zip (Iter ℕ) (Iter ℕ)} (t : ℕ × ℕ → Bool) (xs ys : List ℕ) (u : Zip (Iter ℕ) (Iter ℕ)) (f : F) (r : Bool)
    → (zs : List (Bor ℕ × Bor ℕ)) × (o : Option (Bor ℕ × Bor ℕ)) × (j : F) × YieldsThen (zips fronts fronts) s zs o u × FoldsTo (λ p x q. Called g p (x, tt) false q) f zs j × MatchOption o (r ≡ false) (λ x. (r ≡ true) × ((h : F) × Called g j (x, tt) true h))
    → iter_rest (zip_first s) ≡ xs → iter_rest (zip_second s) ≡ ys → length ys ≡ length xs
    → ((x : Bor ℕ × Bor ℕ) (b : Bool) (q : F) → Called g f (x, tt) b q → (q ≡ f) × (b ≡ t (x.0.now, x.1.now)))
    → r ≡ any (λ j. t (get_or xs j 0, get_or ys j 0)) (length xs)
zip_finds t xs ys u f r ran first second even calls =
    any_from_yields_List t u f r ran (YieldsList-from_zip (YieldsList-from_slice xs first) (YieldsList-from_slice ys second)) calls ∙ any_zip t xs ys even

-- the closure of such a chain may be called at each pair, if it may at the members at each index
pub zip_serves : {P : Type 0} {R : P → Bor ℕ × Bor ℕ → P → Type 0} {Q : P → Bor ℕ × Bor ℕ → Type 0} {s : Zip (Iter ℕ) (Iter ℕ)} (xs ys : List ℕ) (f : P)
    → iter_rest (zip_first s) ≡ xs → iter_rest (zip_second s) ≡ ys → ((p : P) (x : Bor ℕ × Bor ℕ) (q : P) → R p x q → q ≡ p)
    → ((x : Bor ℕ × Bor ℕ) (j : ℕ) → j < length xs → x.0.now ≡ get_or xs j 0 → x.1.now ≡ get_or ys j 0 → Q f x)
    → CallableAtEachTurn (zips fronts fronts) R Q s f
zip_serves {R = R} {Q = Q} {s = s} xs ys f first second keeps serves =
    record {
      at = λ zs t q x u y folds step.
          let h = zip_turn xs ys zs s t u (Some x) first second y x refl step in
          let same = chained_keeps R (λ _ v. v ≡ f) (λ _ q x v e r. keeps q x v r ∙ e) zs f q refl folds in
          subst (λ v. Q v x) (sym same) (serves x (length zs) h.0 (h.2 0) (h.3 0));
    }

-- what `(0..n).any(..)` returned
pub range_finds : {F : Type 0} {g : Mut F (ℕ × Unit {0}) Bool} {s : Range ℕ} (t : ℕ → Bool) (n : ℕ) (u : Range ℕ) (f : F) (r : Bool)
    → (zs : List ℕ) × (o : Option ℕ) × (j : F) × YieldsThen nat_range_steps s zs o u × FoldsTo (λ p x q. Called g p (x, tt) false q) f zs j × MatchOption o (r ≡ false) (λ x. (r ≡ true) × ((h : F) × Called g j (x, tt) true h))
    → s ≡ record { start = 0; end = n } → ((x : ℕ) (b : Bool) (q : F) → Called g f (x, tt) b q → (q ≡ f) × (b ≡ t x))
    → r ≡ any t n
range_finds t n u f r ran from calls = any_from_yields_List t u f r ran (YieldsList-from_range 0 n n from (sub-zero n)) calls ∙ any_range t n
