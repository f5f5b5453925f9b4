-- Document 01, 'Numbers of refusal': the number of each refusal, and of an outcome.
-- Assumes nothing.
use Rattle.std.specs.Prelude.{ℕ, Result, Ok, Err}
use Rattle.network.specs.declared.refusal.Refusal.{Refusal}
use Rattle.network.specs.declared.refusal.Refusal.TheVariants.{Size, Starts, Neighbours, Weights, Returns, Points, Node, Table, Nearest, Short, Lockers, Limit, Route}

-- 1 to 5 are the network's, 6 to 12 the calls', and 14 document 02's
abbrev pub number_of : Refusal → ℕ
number_of Size = 1
number_of Starts = 2
number_of Neighbours = 3
number_of Weights = 4
number_of Returns = 5
number_of Points = 6
number_of Node = 7
number_of Table = 8
number_of Nearest = 9
number_of Short = 10
number_of Lockers = 11
number_of Limit = 12
number_of Route = 14

-- 'An accepted call returns number 0 [..]. A refusal returns its number'
abbrev pub number : {A : Type 0} → Result A Refusal → ℕ
number (Ok a) = 0
number (Err r) = number_of r

-- the outcome with the number in the place of the refusal
abbrev pub numbered : {A : Type 0} → Result A Refusal → Result A ℕ
numbered (Ok a) = Ok a
numbered (Err r) = Err (number_of r)
