-- The eager call and the short query, the searches with a limit (the short query's is 65,535): 1 to 5, 6, 7, 9, 10, 12. Document 01, 'What a site
-- receives': eager 'returns the list and the count of nodes expanded'; document 02, Ask 4: it 'also lists the nodes that its count counts [..]; the
-- short query doesn't'.
-- Assumes nothing.
use Rattle.std.specs.Prelude.{Ok, Err, ℕ, List, length, replicate}
use Rattle.network.specs.Network.{Network}
use Rattle.network.specs.Points.{listed, expanded, short_k}
use Rattle.network.specs.Visits.{visits}
use Rattle.network.specs.Answers.{answered}
use Rattle.conditions.specs.Conditions.{by_number, limit_number}
use Rattle.numbers.specs.Numbers.{limited_number, eager_number}
use Rattle.site_calls.specs.Shared.{SearchOutcome}
use Rattle.conditions.specs.Values.{found_list}

-- what a search with a limit leaves, by its number: 'A refusal .. changes no buffer; 12 alone leaves the scratch all zero.'
unfoldable pub limited_outcome : ℕ → Network → List ℕ → ℕ → ℕ → ℕ → List ℕ → List ℕ → SearchOutcome
limited_outcome number g P q k limit scratch answers =
    by_number number
    (record { answer = Err number; scratch = scratch; answers = answers })
    (by_number (limit_number g P q k limit)
    (record { answer = Err (limit_number g P q k limit); scratch = replicate (length scratch) 0; answers = answers })
    (record {
      answer = Ok (found_list (length (listed g P q k)) (expanded g P q k));
      scratch = replicate (length scratch) 0;
      answers = answered (listed g P q k) answers;
    }))

-- what it leaves in the array for the visits: they and then the old entries; every refusal, 12 included, leaves it as it was
unfoldable pub visits_outcome : ℕ → Network → List ℕ → ℕ → ℕ → ℕ → List ℕ → List ℕ
visits_outcome number g P q k limit old = by_number number old (by_number (limit_number g P q k limit) old (answered (visits g P q k) old))

-- eager: the answer and the final contents of the lent arrays
pub record EagerOutcome : Type 0 where
  pub search : SearchOutcome
  pub visits : List ℕ

unfoldable pub eager_outcome : Network → List ℕ → ℕ → ℕ → ℕ → List ℕ → List ℕ → List ℕ → EagerOutcome
eager_outcome g P q k limit scratch answers steps =
    let number = eager_number g P q k scratch answers steps in
    record {
      search = limited_outcome number g P q k limit scratch answers;
      visits = visits_outcome number g P q k limit steps;
    }

-- 'The short query: no k and no limit; eager with [..] limit 65,535', and 'k = 2 from now on' (Ask 10), without the visits
unfoldable pub short_outcome : Network → List ℕ → ℕ → List ℕ → List ℕ → SearchOutcome
short_outcome g P q scratch answers = limited_outcome (limited_number g P q short_k scratch answers) g P q short_k 65535 scratch answers
