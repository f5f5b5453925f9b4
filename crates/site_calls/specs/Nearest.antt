-- The nearest call: 1 to 5, 6, 7, 9, 10; m is k. Document 01, 'What a site receives': 'Nearest: the points p with d(node, p) < e, e any 32-bit
-- number, by distance then node, cut after the first k; ids and distances in two arrays.'
-- Assumes nothing.
use Rattle.std.specs.Prelude.{Result, Ok, Err, ℕ, List, map, length, replicate}
use Rattle.network.specs.Network.{Network}
use Rattle.network.specs.Nearest.{nearest}
use Rattle.network.specs.Answers.{answered}
use Rattle.conditions.specs.declared.answers.Listed.{Listed}
use Rattle.numbers.specs.Numbers.{nearest_number}
use Rattle.conditions.specs.Conditions.{by_number}
use Rattle.conditions.specs.Values.{found_list}

-- 'ids and distances in two arrays'
unfoldable pub nearest_ids : Network → List ℕ → ℕ → ℕ → ℕ → List ℕ
nearest_ids g P node e k = map (λ x. x.0) (nearest g P node e k)

unfoldable pub nearest_distances : Network → List ℕ → ℕ → ℕ → ℕ → List ℕ
nearest_distances g P node e k = map (λ x. x.1) (nearest g P node e k)

-- the answer, and the final contents of the lent arrays
pub record NearestOutcome : Type 0 where
  pub answer : Result Listed ℕ
  pub scratch : List ℕ
  pub ids : List ℕ
  pub distances : List ℕ

unfoldable pub nearest_outcome : Network → List ℕ → ℕ → ℕ → ℕ → List ℕ → List ℕ → List ℕ → NearestOutcome
nearest_outcome g P node e k scratch ids distances =
    by_number (nearest_number g P node k scratch ids distances)
    (record { answer = Err (nearest_number g P node k scratch ids distances); scratch = scratch; ids = ids; distances = distances })
    (record {
      answer = Ok (found_list (length (nearest g P node e k)) 0);
      scratch = replicate (length scratch) 0;
      ids = answered (nearest_ids g P node e k) ids;
      distances = answered (nearest_distances g P node e k) distances;
    })
