-- Document 02, Ask 4: 'Eager also lists the nodes that its count counts, by distance from the site and then by node'.
-- Assumes nothing.
use Rattle.std.specs.Prelude.{ℕ, ◌<◌, ◌≡◌, true, ◌⊎◌, ◌↔◌, length, get_or}
use mathlib.Core.List.{List, map, Memᴰ}
use Rattle.network.specs.Network.{Network, node_count}
use Rattle.network.specs.Accepted.{Accepted}
use Rattle.network.specs.Distance.{NONE, dist}
use Rattle.network.specs.Count.{bit, tabulate}
use Rattle.network.specs.Points.{is_expanded, expanded}
use Rattle.network.specs.Nearest.{by_distance}

-- 'the nodes that its count counts': those of `expanded`, as points
abbrev pub counted : Network → List ℕ → ℕ → ℕ → List ℕ
counted g P q k = tabulate (λ m. bit (is_expanded g P q k m)) (node_count g)

-- 'by distance from the site and then by node'; all of them can be reached
unfoldable pub visits : Network → List ℕ → ℕ → ℕ → List ℕ
visits g P q k = map (λ x. x.0) (by_distance g (counted g P q k) q NONE (node_count g))

-- node a comes before node b, seen from q
abbrev pub Earlier : Network → ℕ → ℕ → ℕ → Type 0
Earlier g q a b = (dist g q a < dist g q b) ⊎ ((dist g q a ≡ dist g q b) × (a < b))

-- a list of the counted nodes, and no others, that rises strictly by distance and node
pub record AreVisits (g : Network) (P : List ℕ) (q k : ℕ) (xs : List ℕ) : Type 0 where
  pub members : (m : ℕ) → Memᴰ m xs ↔ ((m < node_count g) × (is_expanded g P q k m ≡ true))
  pub rises : (i j : ℕ) → i < j → j < length xs → Earlier g q (get_or xs i 0) (get_or xs j 0)

-- `visits` is such a list, and the only one; it is as long as the count says. The proof is `visits_lawful` of proofs/Visits.antt.
pub record VisitsLaw (g : Network) (P : List ℕ) (q k : ℕ) : Type 0 where
  pub count : length (visits g P q k) ≡ expanded g P q k
  pub are : AreVisits g P q k (visits g P q k)
  pub only : (xs : List ℕ) → AreVisits g P q k xs → xs ≡ visits g P q k

abbrev pub visits_law : Type 0
visits_law = (g : Network) → Accepted g → (P : List ℕ) (q k : ℕ) → VisitsLaw g P q k
