-- One call more: the run of the first j calls and that call's contract are a run of the first j + 1, and its answers are stored behind the others.
-- Assumes nothing.
use Prim.Native.Nat.{ℕ, zero, suc, ◌+◌, ◌≤◌, ◌<◌}
use mathlib.Core.Path.{◌≡◌, refl, sym, ap, ◌∙◌}
use mathlib.Core.Logic.{◌≢◌}
use mathlib.Core.List.{List, [], ◌∷◌, ◌++◌, map, append_assoc}
use native.Mathlib.Decide.{ℕ_discrete}
use native.Mathlib.Numerals.{add-one}
use native.Mathlib.Omega.{arith}
use lib.ListN.{length, get_or, set, take, drop, replicate, length-append, length-map, length-replicate, length-set, take-append-drop}
use lib.Seq.{set_at, drop-cons, length-take-le}
use Rattle.network.specs.Network.{Network}
use Rattle.conditions.specs.declared.answers.Update.{Update}
use Rattle.conditions.specs.declared.kind.Kind.{Kind}
use Rattle.numbers.specs.Numbers.{change_number}
use Rattle.table_calls.specs.Updated.{Arrays, ChangeExported}
use Rattle.table_calls.proofs.Outcomes.{change_refused, change_accepted}
use Rattle.demands.specs.Book.{Call}
use Rattle.demands.specs.Demand3.{Run, ends, call, foreign}
use Rattle.replay.specs.declared.CallWords.{CallWords}
use Rattle.replay.specs.Calls.{CallArrays, call_at, calls_below}
use Rattle.replay.specs.Outcome.{Lent}
use Rattle.replay.specs.Followed.{words_at, ListFits, CallsFollowed}

-- a run goes on
run_more : {g : Network} {P ids distances : List ℕ} {cs : List Call} {rs : List Update} {P' ids' distances' : List ℕ}
    → Run g P ids distances cs rs P' ids' distances' → (c : Call) (r : Update) (scratch : List ℕ) (new : Arrays) → length scratch ≡ c.scratch_length
    → ChangeExported c.kind g c.node c.places (record { points = P'; scratch = scratch; ids = ids'; distances = distances' }) new r
    → Run g P ids distances (cs ++ c ∷ []) (rs ++ r ∷ []) new.points new.ids new.distances
run_more ends c r scratch new l h = call scratch new l h ends
run_more (call s made q d rest) c r scratch new l h = call s made q d (run_more rest c r scratch new l h)
run_more (foreign kind other node L old made u d n p i e rest) c r scratch new l h =
    foreign kind other node L old made u d n p i e (run_more rest c r scratch new l h)

-- one more answer is stored in an array that holds the first j
stored_next : (f : Update → ℕ) (rs : List Update) (r : Update) (old : List ℕ) (j : ℕ) → length rs ≡ j → j < length old
    → set (map f rs ++ drop j old) j (f r) ≡ map f (rs ++ r ∷ []) ++ drop (j + 1) old
stored_next f rs r old j e h =
    rw (add-one, drop-cons old j 0 h, set_at (map f rs) (get_or old j 0) (drop (suc j) old) (f r) j (length-map rs f ∙ e), snoc rs)
    (sym (append_assoc (map f rs) (f r ∷ []) (drop (suc j) old)))
  where
    snoc : (xs : List Update) → map f (xs ++ r ∷ []) ≡ map f xs ++ f r ∷ []
    snoc [] = refl
    snoc (x ∷ xs) = ap (λ (ys : List ℕ). f x ∷ ys) (snoc xs)

-- the front of a zero scratch is zero; and it stays zero whether the front is cleared or left alone
front_zero : (k n : ℕ) → take {A = ℕ} k (replicate n 0) ≡ replicate (length (take {A = ℕ} k (replicate n 0))) 0
front_zero zero n = refl
front_zero (suc k) zero = refl
front_zero (suc k) (suc n) = ap (λ (xs : List ℕ). 0 ∷ xs) (front_zero k n)

left_zero : (kind : Kind) (g : Network) (node K : ℕ) (old new : Arrays) (r : Update) (k n : ℕ) (scratch : List ℕ)
    → ChangeExported kind g node K old new r → old.scratch ≡ take k scratch → scratch ≡ replicate n 0 → new.scratch ++ drop k scratch ≡ replicate n 0
left_zero kind g node K old new r k n scratch h p z =
    elim (ℕ_discrete (change_number kind g old.points node K old.scratch old.ids old.distances) 0) [
      | yes e ↦
          let front : take k scratch ≡ replicate (length (take k scratch)) 0 = rw z (front_zero k n) in
          back ((change_accepted h e).1.zero ∙ ap (λ (xs : List ℕ). replicate (length xs) 0) p ∙ sym front)
      | no e ↦ back (ap (λ (y : Arrays). y.scratch) (change_refused h e).1 ∙ p)
    ]
  where
    back : new.scratch ≡ take k scratch → new.scratch ++ drop k scratch ≡ replicate n 0
    back q = rw q (take-append-drop k scratch ∙ z)

-- what the loop keeps before call j: the calls before it are followed, and no array's length has changed
pub record Before (g : Network) (list : CallArrays) (j : ℕ) (old at : Lent) : Type 0 where
  pub within : j ≤ length list.kinds
  pub followed : CallsFollowed g list j old at
  pub points : length at.points ≡ length old.points
  pub scratch : length at.scratch ≡ length old.scratch
  pub ids : length at.ids ≡ length old.ids
  pub distances : length at.distances ≡ length old.distances
  pub numbers : length at.numbers ≡ length old.numbers
  pub counts : length at.counts ≡ length old.counts

pub none_before : (g : Network) (list : CallArrays) (old : Lent) → ListFits list old → Before g list 0 old old
unfolding calls_below
none_before g list old fit =
    record {
      within = omega arith;
      followed = record { answers = []; each = refl; run = ends; numbers = refl; counts = refl; zero = fit.zero };
      points = refl;
      scratch = refl;
      ids = refl;
      distances = refl;
      numbers = refl;
      counts = refl;
    }

-- call j is made, with the words `w` that were read
module _ {g : Network} {list : CallArrays} {j : ℕ} {old at : Lent} (fit : ListFits list old) (b : Before g list j old at) (h : j < length list.kinds)
    (w : CallWords) (read : w ≡ words_at list j) (made : Arrays) (r : Update)
    (d : ChangeExported w.kind g w.node w.places (record { points = at.points; scratch = take w.length at.scratch; ids = at.ids; distances = at.distances }) made r) where
  -- the arrays behind it
  abbrev after : Lent
  after =
      record {
        points = made.points;
        scratch = made.scratch ++ drop w.length at.scratch;
        ids = made.ids;
        distances = made.distances;
        numbers = set at.numbers j r.number;
        counts = set at.counts j r.changed;
      }

  followed : CallsFollowed g list (j + 1) old after
  unfolding calls_below
  followed =
      let c = call_at list j in
      let f = b.followed in
      record {
        answers = f.answers ++ r ∷ [];
        each = simp length-append (omega (arith, f.each));
        run = rw add-one (run_more f.run c r (take c.scratch_length at.scratch) made (length-take-le c.scratch_length at.scratch (omega (arith, fit.room j h, b.scratch))) (rw read at d));
        numbers = rw f.numbers (stored_next (λ u. u.number) f.answers r old.numbers j f.each (omega (arith, fit.numbers)));
        counts = rw f.counts (stored_next (λ u. u.changed) f.answers r old.counts j f.each (omega (arith, fit.counts)));
        zero = left_zero w.kind g w.node w.places _ made r w.length (length old.scratch) at.scratch d refl f.zero;
      }

  pub one_more : length made.points ≡ length at.points → length made.ids ≡ length at.ids → length made.distances ≡ length at.distances → Before g list (j + 1) old after
  one_more p i e =
      record {
        within = omega arith;
        followed = followed;
        points = p ∙ b.points;
        scratch = ap length followed.zero ∙ length-replicate (length old.scratch) 0;
        ids = i ∙ b.ids;
        distances = e ∙ b.distances;
        numbers = simp length-set b.numbers;
        counts = simp length-set b.counts;
      }
