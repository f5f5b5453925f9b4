-- What several calls share: the outcome of a call that lists nodes, and of one that writes an entry for each node, by its number. 'An accepted call with
-- scratch leaves it all zero. Answer arrays hold the answer, then their old entries.' 'A refusal [..] changes no buffer' (document 01).
-- Assumes nothing.
use Rattle.std.specs.Prelude.{Result, Ok, Err, ℕ, List, length, replicate}
use Rattle.network.specs.Answers.{answered}
use Rattle.conditions.specs.declared.answers.Listed.{Listed}
use Rattle.conditions.specs.Conditions.{by_number}
use Rattle.conditions.specs.Values.{found_list}

-- the answer, and the final contents of the lent arrays
pub record SearchOutcome : Type 0 where
  pub answer : Result Listed ℕ
  pub scratch : List ℕ
  pub answers : List ℕ

-- of a call that lists nodes and counts nothing
unfoldable pub list_outcome : ℕ → List ℕ → List ℕ → List ℕ → SearchOutcome
list_outcome number list scratch answers =
    by_number number
    (record { answer = Err number; scratch = scratch; answers = answers })
    (record { answer = Ok (found_list (length list) 0); scratch = replicate (length scratch) 0; answers = answered list answers })

-- the number returned, and the final contents of the lent arrays
pub record EntriesOutcome : Type 0 where
  pub number : ℕ
  pub scratch : List ℕ
  pub answers : List ℕ

-- of a call that writes entries and returns its number alone
unfoldable pub entries_outcome : ℕ → List ℕ → List ℕ → List ℕ → EntriesOutcome
entries_outcome number entries scratch answers =
    by_number number
    (record { number = number; scratch = scratch; answers = answers })
    (record { number = 0; scratch = replicate (length scratch) 0; answers = answered entries answers })
