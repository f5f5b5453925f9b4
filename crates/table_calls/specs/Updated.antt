-- The calls that change the table, insert and remove: 1 to 5, 6, 7, 8, 10, 11; m is K. Document 01, 'The table', with Ask 8: 'Insert adds one, remove
-- takes one'; 'each brings the table up to date and returns the number of rows whose contents differ before and after.'
-- Assumes nothing.
use Rattle.std.specs.Prelude.{Result, Ok, Err, ℕ, ◌≤◌, ◌≡◌, ◌≢◌, List, length, replicate}
use Rattle.network.specs.Network.{Network, node_count}
use Rattle.network.specs.Rows.{rows_changed, Sized, IsTable}
use Rattle.network.specs.Points.{more_at, fewer_at}
use Rattle.conditions.specs.declared.kind.Kind.{Kind}
use Rattle.conditions.specs.declared.kind.Kind.TheVariants.{Insert, Remove}
use Rattle.conditions.specs.declared.answers.Update.{Update}
use Rattle.numbers.specs.Numbers.{change_number}
use Rattle.conditions.specs.Values.{updated_update}

-- 'Insert adds one, remove takes one' (Ask 8): the bytes after
abbrev pub kind_marks : Kind → List ℕ → ℕ → List ℕ
kind_marks Insert P node = more_at P node
kind_marks Remove P node = fewer_at P node

-- the arrays that such a call may write
pub record Arrays : Type 0 where
  pub points : List ℕ
  pub scratch : List ℕ
  pub ids : List ℕ
  pub distances : List ℕ

-- What an accepted call leaves, where Q are the marks by the rule: 'Insert, remove and table query don't test a lent table. On one that the check
-- would deny, [..] the changed count (at most n) and the table are free; the marks still change by the rule.'
pub record UpdateDone (g : Network) (Q : List ℕ) (K : ℕ) (old new : Arrays) (changed : ℕ) : Type 0 where
  pub marks : new.points ≡ Q
  pub zero : new.scratch ≡ replicate (length old.scratch) 0
  pub sized : Sized g K new.ids new.distances
  pub most : changed ≤ node_count g
  pub table : IsTable g old.points K old.ids old.distances → IsTable g Q K new.ids new.distances
  pub counted : IsTable g old.points K old.ids old.distances → changed ≡ rows_changed g old.points Q K

-- what an accepted call answers: so many rows changed
pub record UpdateAccepted (g : Network) (Q : List ℕ) (K : ℕ) (old new : Arrays) (answer : Result ℕ ℕ) : Type 0 where
  pub changed : ℕ
  pub answered_so : answer ≡ Ok changed
  pub done : UpdateDone g Q K old new changed

-- what a call of this number answers and leaves: 'A refusal returns its number, count 0 [..], and changes no buffer'
pub record UpdateByNumber (number : ℕ) (g : Network) (Q : List ℕ) (K : ℕ) (old new : Arrays) (answer : Result ℕ ℕ) : Type 0 where
  pub refused : number ≢ 0 → (answer ≡ Err number) × (new ≡ old)
  pub accepted : number ≡ 0 → UpdateAccepted g Q K old new answer

-- of insert and of remove
abbrev pub ChangeLeft : Kind → Network → ℕ → ℕ → Arrays → Arrays → Result ℕ ℕ → Type 0
ChangeLeft kind g node K old new answer =
    UpdateByNumber (change_number kind g old.points node K old.scratch old.ids old.distances) g (kind_marks kind old.points node) K old new answer

-- what the exported calls return of it
pub record ChangeExported (kind : Kind) (g : Network) (node K : ℕ) (old new : Arrays) (r : Update) : Type 0 where
  pub answer : Result ℕ ℕ
  pub values : r ≡ updated_update answer
  pub left : ChangeLeft kind g node K old new answer
