-- overlap.h, Ask 1: 'A reference can't be returned across the boundary: this says which part of which lent array the row's distances are, all 0 on a
-- refusal but the number.'
-- Assumes nothing.
use Rattle.std.specs.Prelude.{ℕ, ◌+◌, ◌*◌, ◌≤◌, ◌≡◌, cond, List, eqb, length, take, drop}
use Rattle.network.specs.Network.{Network}
use Rattle.conditions.specs.Conditions.{by_number}
use Rattle.conditions.specs.declared.answers.RowPart.{RowPart}
use Rattle.nearer_row.specs.Nearer.{own_nearer, row_number, row_outcome}

-- the struct of the nearer row: K entries from i × K on, of the own distances (0) or of the rival's (1)
unfoldable pub nearer_part : ℕ → ℕ → List ℕ → List ℕ → RowPart
nearer_part K i own rival = record { number = 0; rival = cond (own_nearer K i own rival) 0 1; start = i * K; length = K }

-- 'all 0 on a refusal but the number'
abbrev pub refused_part : ℕ → RowPart
refused_part number = record { number = number; rival = 0; start = 0; length = 0 }

-- the struct for every case
unfoldable pub part_outcome : Network → ℕ → ℕ → List ℕ → List ℕ → List ℕ → List ℕ → RowPart
part_outcome g junction K ownIds own rivalIds rival =
    by_number (row_number g junction K ownIds own rivalIds rival) (refused_part (row_number g junction K ownIds own rivalIds rival)) (nearer_part K junction own rival)

-- which lent array a struct names, and the part of it that it is: so many entries from its start on
unfoldable pub named_array : RowPart → List ℕ → List ℕ → List ℕ
named_array part own rival = cond (eqb part.rival 0) own rival

unfoldable pub named_part : RowPart → List ℕ → List ℕ → List ℕ
named_part part own rival = take part.length (drop part.start (named_array part own rival))

-- what the call returns: the struct of its case; the part that it names lies in its array, and is what the call that returns the part itself returns
pub record PartReturned (g : Network) (junction K : ℕ) (ownIds own rivalIds rival : List ℕ) (part : RowPart) : Type 0 where
  pub values : part ≡ part_outcome g junction K ownIds own rivalIds rival
  pub inside : part.start + part.length ≤ length (named_array part own rival)
  pub denotes : named_part part own rival ≡ row_outcome g junction K ownIds own rivalIds rival

-- the struct of each case is that, whatever is lent
abbrev pub PartIsRow : Type 0
PartIsRow =
    (g : Network) (junction K : ℕ) (ownIds own rivalIds rival : List ℕ)
    → PartReturned g junction K ownIds own rivalIds rival (part_outcome g junction K ownIds own rivalIds rival)
