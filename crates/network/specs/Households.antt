-- Document 02, Ask 1: 'which households a site wins', and the sheet of all sites. 'Two byte arrays are lent, households and sites, both laid out as
-- points': a byte is how many stand at a node, 0 to 15, and each counts (Ask 8).
-- Assumes nothing.
use Rattle.std.specs.Prelude.{ℕ, ◌≤◌, ◌≡◌, Bool, true, cond, ◌&&◌, List}
use Rattle.network.specs.Network.{Network, node_count}
use Rattle.network.specs.Accepted.{Accepted}
use Rattle.network.specs.Count.{sum_over, select, tabulate}
use Rattle.network.specs.Points.{lockers, marked, is_expanded}

-- 'A household is listed for q exactly if it can be reached and fewer than k sites are strictly nearer to it than q': of node h with a household that is
-- `is_expanded` with the sites as points: d(h, q) is not NONE, which is to be reached from q, as roads run both ways (`dist_symmetric`), and fewer than k sites
-- t, each counted, have d(h, t) < d(h, q). A site on h itself is such a site, where q is another node; q need not be a site.
unfoldable pub is_won : Network → List ℕ → List ℕ → ℕ → ℕ → ℕ → Bool
is_won g H T q k h = marked H h && is_expanded g T q k h

-- the list: ascending by node, a node once
unfoldable pub won : Network → List ℕ → List ℕ → ℕ → ℕ → List ℕ
won g H T q k = select (is_won g H T q k) (node_count g)

-- 'A sheet's length counts each household on a listed node' (Ask 8)
unfoldable pub won_length : Network → List ℕ → List ℕ → ℕ → ℕ → ℕ
won_length g H T q k = sum_over (is_won g H T q k) (lockers H) (node_count g)

-- 'The sheet of Ask 1 relied on 1 and existing sheets must compare, so the sheet now names 1 itself' (Ask 10): its k, whatever the short query's is
abbrev pub sheet_k : ℕ
sheet_k = 1

-- 'A sheet call writes, for each node, the length of the list of a site there, 0 without a site', with this k
unfoldable pub sheet_entry : Network → List ℕ → List ℕ → ℕ → ℕ
sheet_entry g H T v = cond (marked T v) (won_length g H T v sheet_k) 0

unfoldable pub sheet : Network → List ℕ → List ℕ → List ℕ
sheet g H T = tabulate (sheet_entry g H T) (node_count g)

-- 'Households on a site's node in Ask 1 still belong to the site' (Ask 6). The proof is `own_households` of proofs/Households.antt.
abbrev pub OwnHouseholds : Type 0
OwnHouseholds = (g : Network) → Accepted g → (H T : List ℕ) (q k : ℕ) → 1 ≤ k → marked H q ≡ true → is_won g H T q k q ≡ true
