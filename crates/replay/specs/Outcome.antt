-- Build, then a list of calls: the answer, and the final contents of the lent arrays. Document 01, 'The plain book'.
-- Assumes nothing.
use Rattle.std.specs.Prelude.{ℕ, Bool, Result, Ok, Err, true, false, not, ◌||◌, List, map, eqb, ltb, length, get_or, replicate}
use Rattle.network.specs.Count.{any}
use Rattle.network.specs.Network.{Network}
use Rattle.network.specs.Rows.{table_ids, table_distances}
use Rattle.conditions.specs.declared.answers.Update.{Update}
use Rattle.numbers.specs.Numbers.{build_number}
use Rattle.demands.specs.Book.{Call, book_answers, book_marks}
use Rattle.replay.specs.declared.ReplayError.{ReplayError}
use Rattle.replay.specs.declared.ReplayError.TheVariants.{Unfit, Refused}
use Rattle.replay.specs.Calls.{CallArrays, calls_of}

-- the arrays that a replay may write
pub record Lent : Type 0 where
  pub points : List ℕ
  pub scratch : List ℕ
  pub ids : List ℕ
  pub distances : List ℕ
  pub numbers : List ℕ
  pub counts : List ℕ

-- call j asks more words of scratch than are lent
unfoldable pub asks_more_at : ℕ → List ℕ → ℕ → Bool
asks_more_at words lengths j = ltb words (get_or lengths j 0)

-- an array has not one entry for each call, or a call asks a scratch longer than the one lent: of a scratch and answer arrays of so many entries
unfoldable pub is_unfit : CallArrays → ℕ → ℕ → ℕ → Bool
is_unfit list words numberCount countCount =
    not (eqb (length list.nodes) (length list.kinds))
    || not (eqb (length list.places) (length list.kinds))
    || not (eqb (length list.lengths) (length list.kinds))
    || not (eqb numberCount (length list.kinds))
    || not (eqb countCount (length list.kinds))
    || any (asks_more_at words list.lengths) (length list.lengths)

-- 'Each call's number and changed count equal the book's. After the list the lent marks equal the book's, [..] and both table arrays hold the rows of
-- those marks.' 'An accepted call with scratch leaves it all zero.'
abbrev pub book_left : Network → ℕ → List Call → Lent → Lent
book_left g K calls old =
    record {
      points = book_marks g K old.points calls;
      scratch = replicate (length old.scratch) 0;
      ids = table_ids g (book_marks g K old.points calls) K;
      distances = table_distances g (book_marks g K old.points calls) K;
      numbers = map (λ (u : Update). u.number) (book_answers g K old.points calls);
      counts = map (λ (u : Update). u.changed) (book_answers g K old.points calls);
    }

-- the answer, and the final contents of the lent arrays
pub record Outcome : Type 0 where
  pub answer : Result (Unit {0}) ReplayError
  pub left : Lent

-- an unfit list is not begun; then 'a refusal returns its number [..] and changes no buffer'; behind an accepted build, the book
abbrev pub replay_by : ℕ → Network → ℕ → List Call → Lent → Bool → Bool → Outcome
replay_by number g K calls old true accepted = record { answer = Err Unfit; left = old }
replay_by number g K calls old false false = record { answer = Err (Refused number); left = old }
replay_by number g K calls old false true = record { answer = Ok tt; left = book_left g K calls old }

abbrev pub build_of : Network → ℕ → Lent → ℕ
build_of g K old = build_number g old.points K old.scratch old.ids old.distances

abbrev pub unfit_of : CallArrays → Lent → Bool
unfit_of list old = is_unfit list (length old.scratch) (length old.numbers) (length old.counts)

unfoldable pub replay_outcome : Network → ℕ → CallArrays → Lent → Outcome
replay_outcome g K list old = replay_by (build_of g K old) g K (calls_of list) old (unfit_of list old) (eqb (build_of g K old) 0)
