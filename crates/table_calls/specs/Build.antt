-- The build call: 1 to 5, 6, 8, 10; m is K. Document 01, 'The table': 'Build fills it.'
-- Assumes nothing.
use Rattle.std.specs.Prelude.{ℕ, List, length, replicate}
use Rattle.network.specs.Network.{Network}
use Rattle.network.specs.Rows.{table_ids, table_distances}
use Rattle.conditions.specs.Conditions.{by_number}
use Rattle.numbers.specs.Numbers.{build_number}

-- the number returned, and the final contents of the lent arrays
pub record BuildOutcome : Type 0 where
  pub number : ℕ
  pub scratch : List ℕ
  pub ids : List ℕ
  pub distances : List ℕ

-- 'An accepted call with scratch leaves it all zero.' 'A refusal [..] changes no buffer'
unfoldable pub build_outcome : Network → List ℕ → ℕ → List ℕ → List ℕ → List ℕ → BuildOutcome
build_outcome g P K scratch ids distances =
    by_number (build_number g P K scratch ids distances)
    (record { number = build_number g P K scratch ids distances; scratch = scratch; ids = ids; distances = distances })
    (record { number = 0; scratch = replicate (length scratch) 0; ids = table_ids g P K; distances = table_distances g P K })
