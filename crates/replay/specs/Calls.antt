-- A list of calls in four lent arrays, as the plain book is fed it. Document 01, 'The plain book': 'each call's kind, node, K and scratch length, and
-- nothing that the engine returned or wrote'.
-- Assumes nothing.
use Rattle.std.specs.Prelude.{ℕ, zero, suc, List, [], ◌∷◌, ◌++◌, length, get_or}
use Rattle.conditions.specs.declared.kind.Kind.{Kind}
use Rattle.conditions.specs.declared.kind.Kind.TheVariants.{Insert, Remove}
use Rattle.demands.specs.Book.{Call}

-- entry j of each array is of call j
pub record CallArrays : Type 0 where
  pub kinds : List ℕ
  pub nodes : List ℕ
  pub places : List ℕ
  pub lengths : List ℕ

-- a kind's word: 0 is insert, every other is remove
abbrev pub kind_of : ℕ → Kind
kind_of zero = Insert
kind_of (suc word) = Remove

abbrev pub call_at : CallArrays → ℕ → Call
call_at list j =
    record {
      kind = kind_of (get_or list.kinds j 0);
      node = get_or list.nodes j 0;
      places = get_or list.places j 0;
      scratch_length = get_or list.lengths j 0;
    }

-- the first j calls, and all: there are as many as kinds
unfoldable pub calls_below : CallArrays → ℕ → List Call
calls_below list zero = []
calls_below list (suc j) = calls_below list j ++ call_at list j ∷ []

abbrev pub calls_of : CallArrays → List Call
calls_of list = calls_below list (length list.kinds)
