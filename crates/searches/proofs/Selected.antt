-- The loop that writes the numbers below n that pass a test, ascending, over the start of an array.
-- Assumes nothing.
use Prim.Native.Nat.{ℕ, suc, ◌+◌, ◌≤◌, ◌<◌}
use mathlib.Core.Path.{◌≡◌, refl, sym, ◌∙◌}
use mathlib.Core.Bool.{Bool, true, false}
use mathlib.Core.List.{List, [], ◌∷◌, ◌++◌, append_assoc, append-nil}
use native.Mathlib.Numerals.{add-one}
use native.Mathlib.Omega.{arith}
use lib.ListN.{length, get_or, set, drop, length-append, length-set}
use lib.Seq.{set_at, drop-cons}
use Rattle.network.specs.Count.{select}
use Rattle.network.specs.Answers.{answered}

select_yes : (t : ℕ → Bool) (n : ℕ) → t n ≡ true → select t (suc n) ≡ select t n ++ n ∷ []
unfolding select
select_yes t n e = rw e

select_no : (t : ℕ → Bool) (n : ℕ) → t n ≡ false → select t (suc n) ≡ select t n
unfolding select
select_no t n e = rw (e, append-nil)

-- the numbers below v that pass are written, len of them
pub record WrittenList (t : ℕ → Bool) (v : ℕ) (old new : List ℕ) (len : ℕ) : Type 0 where
  pub size : length new ≡ length old
  pub few : len ≤ v
  pub count : len ≡ length (select t v)
  pub is : new ≡ select t v ++ drop len old

pub written_none : (t : ℕ → Bool) (old : List ℕ) → WrittenList t 0 old old 0
unfolding select
written_none t old = record { size = refl; few = omega arith; count = refl; is = refl }

module _ {t : ℕ → Bool} {v : ℕ} {old new : List ℕ} {len : ℕ} (w : WrittenList t v old new len) where
  pub written_more : v < length old → t v ≡ true → WrittenList t (v + 1) old (set new len v) (len + 1)
  written_more h e =
      let l : len < length old = omega (arith, w.few) in
      record {
        size = length-set new len v ∙ w.size;
        few = omega (arith, w.few);
        count = rw (add-one v, select_yes t v e) (simp length-append (omega (arith, w.count)));
        is =
            rw (w.is, add-one v, add-one len, select_yes t v e, drop-cons old len 0 l)
            (set_at (select t v) (get_or old len 0) (drop (suc len) old) v len (sym w.count) ∙ sym (append_assoc (select t v) (v ∷ []) (drop (suc len) old)));
      }

  pub written_skip : t v ≡ false → WrittenList t (v + 1) old new len
  written_skip e =
      record { size = w.size; few = omega (arith, w.few); count = rw (add-one v, select_no t v e) w.count; is = rw (add-one v, select_no t v e) w.is }

  pub written_all : new ≡ answered (select t v) old
  unfolding answered
  written_all = rw (← w.count) w.is
