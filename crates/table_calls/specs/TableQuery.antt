-- The table query: 1 to 5, 6, 7, 8, 9, 10; m is k. Document 01, 'The table': 'Table query (eager-M): the list, k from 1 to K - 1, since a point's row
-- spends one place on itself.'
-- Assumes nothing.
use Rattle.std.specs.Prelude.{Result, Ok, Err, ℕ, ◌≡◌, ◌≢◌, List, length, replicate}
use Rattle.network.specs.Network.{Network}
use Rattle.network.specs.Points.{listed}
use Rattle.network.specs.Answers.{answered, SomePoints}
use Rattle.network.specs.Rows.{IsTable}
use Rattle.conditions.specs.declared.answers.Listing.{Listing}
use Rattle.conditions.specs.declared.answers.Listed.{Listed}
use Rattle.numbers.specs.Numbers.{table_query_number}
use Rattle.conditions.specs.Values.{found_list, listed_listing}

-- the arrays that the call is lent: it reads the table, and writes scratch and answers
pub record QueryArrays : Type 0 where
  pub ids : List ℕ
  pub distances : List ℕ
  pub scratch : List ℕ
  pub answers : List ℕ

-- What an accepted call leaves. 'Insert, remove and table query don't test a lent table. On one that the check would deny, the list (marked nodes,
-- ascending) [..] free'
pub record QueryDone (g : Network) (P : List ℕ) (q k K : ℕ) (lent : QueryArrays) (scratch answers : List ℕ) (found : ℕ) : Type 0 where
  pub zero : scratch ≡ replicate (length lent.scratch) 0
  pub any : SomePoints g P lent.answers answers found
  pub sized : IsTable g P K lent.ids lent.distances → found ≡ length (listed g P q k)
  pub list : IsTable g P K lent.ids lent.distances → answers ≡ answered (listed g P q k) lent.answers

-- what it answers: a list so long, and count 0
pub record QueryAccepted (g : Network) (P : List ℕ) (q k K : ℕ) (lent : QueryArrays) (scratch answers : List ℕ) (answer : Result Listed ℕ) : Type 0 where
  pub found : ℕ
  pub answered_so : answer ≡ Ok (found_list found 0)
  pub done : QueryDone g P q k K lent scratch answers found

-- what a call of this number answers and leaves: 'A refusal returns its number, count 0 [..], and changes no buffer'
pub record QueryByNumber (number : ℕ) (g : Network) (P : List ℕ) (q k K : ℕ) (lent : QueryArrays) (scratch answers : List ℕ) (answer : Result Listed ℕ) : Type 0 where
  pub refused : number ≢ 0 → (answer ≡ Err number) × (scratch ≡ lent.scratch) × (answers ≡ lent.answers)
  pub accepted : number ≡ 0 → QueryAccepted g P q k K lent scratch answers answer

-- of the table query
abbrev pub TableQueryLeft : Network → List ℕ → ℕ → ℕ → ℕ → QueryArrays → List ℕ → List ℕ → Result Listed ℕ → Type 0
TableQueryLeft g P q k K lent = QueryByNumber (table_query_number g P q k K lent.ids lent.distances lent.scratch lent.answers) g P q k K lent

-- what the exported call returns of it
pub record TableQueryExported (g : Network) (P : List ℕ) (q k K : ℕ) (lent : QueryArrays) (scratch answers : List ℕ) (r : Listing) : Type 0 where
  pub answer : Result Listed ℕ
  pub values : r ≡ listed_listing answer
  pub left : TableQueryLeft g P q k K lent scratch answers answer
