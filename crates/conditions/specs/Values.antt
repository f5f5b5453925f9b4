-- 'When an answer is an enum, a definition gives this paper's number and values for every case of the enum, and the promises use that definition'
-- (document 01, 'Forms to use in the code'): overlap.h's struct for each case of a Result: what the call found, or the number of its refusal.
-- Assumes nothing.
use Rattle.std.specs.Prelude.{ℕ, Bool, cond, Result, Ok, Err}
use Rattle.conditions.specs.declared.answers.Listing.{Listing}
use Rattle.conditions.specs.declared.answers.Verdict.{Verdict}
use Rattle.conditions.specs.declared.answers.Update.{Update}
use Rattle.conditions.specs.declared.answers.Listed.{Listed}

-- document 01's number and values for each case: 'An accepted call returns number 0; a listing or nearest call also the length of its list. A
-- refusal returns its number, count 0'; eager 'returns the list and the count of nodes expanded'
abbrev pub listed_listing : Result Listed ℕ → Listing
listed_listing (Ok found) = record { number = 0; count = found.count; length = found.length }
listed_listing (Err number) = record { number = number; count = 0; length = 0 }

-- document 01's number and values for each case: 'A refusal returns its number, count 0 and no'
abbrev pub rule_verdict : Result Bool ℕ → Verdict
rule_verdict (Ok holds) = record { number = 0; yes = cond holds 1 0 }
rule_verdict (Err number) = record { number = number; yes = 0 }

-- document 01's number and values for each case
abbrev pub updated_update : Result ℕ ℕ → Update
updated_update (Ok changed) = record { number = 0; changed = changed }
updated_update (Err number) = record { number = number; changed = 0 }

-- what a search or nearest found: the length of the list, and the nodes expanded
abbrev pub found_list : ℕ → ℕ → Listed
found_list size count = record { length = size; count = count }
