-- The lockers that a route touches: number, length and count 0, and the final contents of the lent arrays; and that a route of one node is answered as a
-- site, as a statement (`one_node` of proofs/OneNode.antt). Document 02, Ask 7.
-- Assumes nothing.
use Rattle.std.specs.Prelude.{ℕ, ◌≡◌, List, [], ◌∷◌}
use Rattle.network.specs.Network.{Network}
use Rattle.network.specs.Routes.{touched}
use Rattle.conditions.specs.Values.{listed_listing}
use Rattle.site_calls.specs.Shared.{SearchOutcome, list_outcome}
use Rattle.site_calls.specs.Eager.{eager_outcome}
use Rattle.site_calls.specs.Lazy.{lazy_outcome}
use Rattle.route_calls.specs.Numbers.{route_call_number}

unfoldable pub route_outcome : Network → List ℕ → List ℕ → ℕ → List ℕ → List ℕ → SearchOutcome
route_outcome g P R k scratch answers = list_outcome (route_call_number g P R k scratch answers) (touched g P R k) scratch answers

-- where two searches both return number 0, they return the same length and leave the same answers
abbrev pub ListAlike : SearchOutcome → SearchOutcome → Type 0
ListAlike a b =
    (listed_listing a.answer).number ≡ 0 → (listed_listing b.answer).number ≡ 0
    → ((listed_listing a.answer).length ≡ (listed_listing b.answer).length) × (a.answers ≡ b.answers)

-- 'and agree with eager on a route of one node', for every network, points, node and k, accepted or not
pub record OneNode (g : Network) (P : List ℕ) (q k : ℕ) : Type 0 where
  -- lent the same, the call answers and leaves what lazy and lazy-EP do: the same number, list and arrays
  pub as_search : (scratch answers : List ℕ) → route_outcome g P (q ∷ []) k scratch answers ≡ lazy_outcome g P q k scratch answers
  -- lent the same array for the answers it lists as eager does, whatever scratch each is lent, and eager's limit and array for the visits
  pub as_eager : (limit : ℕ) (scratch eager-scratch answers visits : List ℕ)
      → ListAlike (route_outcome g P (q ∷ []) k scratch answers) (eager_outcome g P q k limit eager-scratch answers visits).search
