-- Laws of `tabulate` and `answered`: length, entries, and the loop that stores one entry after the other.
-- Assumes nothing.
use Prim.Native.Nat.{ℕ, zero, suc, ◌+◌, ◌≤◌, ◌<◌}
use mathlib.Core.Path.{◌≡◌, refl, sym, ◌∙◌}
use mathlib.Core.Logic.{⊎_elim}
use mathlib.Core.List.{List, [], ◌∷◌, ◌++◌, append_assoc}
use native.Mathlib.Nat.{eq-or-lt_of_le, le_of_suc-le-suc}
use native.Mathlib.Numerals.{add-one}
use native.Mathlib.Omega.{arith}
use lib.ListN.{length, get_or, set, drop, length-append, length-set, length-drop, get_or-append}
use lib.Seq.{set_at, drop-cons, ext_get_or, get_or_at}
use Rattle.network.specs.Count.{tabulate}
use Rattle.network.specs.Answers.{answered}

pub tabulate_length : (f : ℕ → ℕ) (n : ℕ) → length (tabulate f n) ≡ n
unfolding tabulate
tabulate_length f zero = refl
tabulate_length f (suc n) = simp length-append (omega (arith, tabulate_length f n))

pub tabulate_same : (f h : ℕ → ℕ) (n : ℕ) → ((x : ℕ) → x < n → f x ≡ h x) → tabulate f n ≡ tabulate h n
unfolding tabulate
tabulate_same f h zero e = refl
tabulate_same f h (suc n) e = rw (tabulate_same f h n (λ x l. e x (omega arith)), e n (omega arith))

pub tabulate_at : (f : ℕ → ℕ) (n i : ℕ) → i < n → get_or (tabulate f n) i 0 ≡ f i
unfolding tabulate
tabulate_at f zero i h = absurd (omega arith)
tabulate_at f (suc n) i h =
    ⊎_elim
    (λ (e : i ≡ n). rw e (get_or_at (tabulate f n) (f n) [] 0 n (tabulate_length f n)))
    (λ l. get_or-append (tabulate f n) (f n ∷ []) 0 i (omega (arith, tabulate_length f n)) ∙ tabulate_at f n i l)
    (eq-or-lt_of_le (le_of_suc-le-suc h))

-- a list is the table of its entries
pub tabulate_list : (f : ℕ → ℕ) (xs : List ℕ) → ((i : ℕ) → i < length xs → f i ≡ get_or xs i 0) → tabulate f (length xs) ≡ xs
tabulate_list f xs h =
    ext_get_or 0 (tabulate f (length xs)) xs (tabulate_length f (length xs))
    (λ i l.
    let low : i < length xs = omega (arith, tabulate_length f (length xs)) in
    tabulate_at f (length xs) i low ∙ h i low)

-- what a loop has stored in an array that it fills from the front
pub record Stored (f : ℕ → ℕ) (n : ℕ) (old new : List ℕ) : Type 0 where
  pub size : length new ≡ length old
  pub is : new ≡ tabulate f n ++ drop n old

pub stored_none : (f : ℕ → ℕ) (old : List ℕ) → Stored f 0 old old
unfolding tabulate
stored_none f old = record { size = refl; is = refl }

one_more : (f : ℕ → ℕ) (n : ℕ) (old : List ℕ) → n < length old → set (tabulate f n ++ drop n old) n (f n) ≡ tabulate f (n + 1) ++ drop (n + 1) old
unfolding tabulate
one_more f n old h =
    rw (add-one, drop-cons old n 0 h, set_at (tabulate f n) (get_or old n 0) (drop (suc n) old) (f n) n (tabulate_length f n))
    (sym (append_assoc (tabulate f n) (f n ∷ []) (drop (suc n) old)))

pub stored_more : {f : ℕ → ℕ} {n : ℕ} {old new : List ℕ} (x : ℕ) → Stored f n old new → n < length old → x ≡ f n → Stored f (n + 1) old (set new n x)
stored_more {f} {n} {old} x s h e =
    record {
      size = simp length-set s.size;
      is = rw (e, s.is) (one_more f n old h);
    }

-- an array is as long as it was when an answer is stored in it
pub answered_length : (f : ℕ → ℕ) (n : ℕ) (old : List ℕ) {new : List ℕ} → new ≡ answered (tabulate f n) old → n ≤ length old → length new ≡ length old
unfolding answered
answered_length f n old e h = rw e (simp (length-append, length-drop) (omega (arith, tabulate_length f n)))

pub stored_all : {f : ℕ → ℕ} {n : ℕ} {old new : List ℕ} → Stored f n old new → new ≡ answered (tabulate f n) old
unfolding answered
stored_all {f} {n} s = rw (tabulate_length f n) s.is
