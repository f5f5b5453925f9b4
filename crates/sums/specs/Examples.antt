-- Ask 13 worked out by hand on the network N of document 01. Its proof, by computation, is `worked_out` of proofs/Examples.antt.
-- Assumes nothing.
use Rattle.std.specs.Prelude.{ℕ, ◌≡◌, List, [], ◌∷◌}
use Rattle.network.specs.Network.{Network}
use Rattle.network.specs.Distance.{NONE}
use Rattle.network.specs.Cases.{roads}
use Rattle.network.specs.Households.{sheet}
use Rattle.sums.specs.Sums.{sites_reached, lists_of, site_distance, all_lengths, all_lists_of, column_sum}

-- a household on node 1, two on 2, one on 3, three on 5, which is alone
abbrev pub seven_households : List ℕ
seven_households = 0 ∷ 1 ∷ 2 ∷ 1 ∷ 0 ∷ 3 ∷ []

-- a site at 0, two at 4, one at 5
abbrev pub four_sites : List ℕ
four_sites = 1 ∷ 0 ∷ 0 ∷ 0 ∷ 2 ∷ 1 ∷ []

pub record WorkedOut (N : Network) (H T : List ℕ) : Type 0 where
  -- two sites at one node: of node 1 the site at 0 is 4 away and both at 4 are 10. For k = 1 the first and next differ, one list; for k = 2 they do not, three
  pub reached_1 : sites_reached N T 1 ≡ 3
  pub order_1 : (site_distance N T 1 1 ≡ 4) × (site_distance N T 1 2 ≡ 10) × (site_distance N T 1 3 ≡ 10) × (site_distance N T 1 4 ≡ NONE)
  pub lists_1 : (lists_of N H T 1 1 ≡ 1) × (lists_of N H T 2 1 ≡ 3) × (lists_of N H T 3 1 ≡ 3)
  -- a tie of two nodes: of node 2 all three sites that it reaches are 7 away, so each household there stands on all three lists, for k = 1 too
  pub reached_2 : sites_reached N T 2 ≡ 3
  pub order_2 : (site_distance N T 2 1 ≡ 7) × (site_distance N T 2 2 ≡ 7) × (site_distance N T 2 3 ≡ 7)
  pub lists_2 : (lists_of N H T 1 2 ≡ 3) × (lists_of N H T 2 2 ≡ 3) × (lists_of N H T 3 2 ≡ 3)
  -- of node 3 both sites at 4 are 3 away, and that at 0 is 5: two lists for k = 1 and for k = 2
  pub reached_3 : sites_reached N T 3 ≡ 3
  pub order_3 : (site_distance N T 3 1 ≡ 3) × (site_distance N T 3 2 ≡ 3) × (site_distance N T 3 3 ≡ 5)
  pub lists_3 : (lists_of N H T 1 3 ≡ 2) × (lists_of N H T 2 3 ≡ 2) × (lists_of N H T 3 3 ≡ 3)
  -- fewer than k: a household on node 5 reaches the site there alone
  pub reached_5 : sites_reached N T 5 ≡ 1
  pub order_5 : (site_distance N T 5 1 ≡ 0) × (site_distance N T 5 2 ≡ NONE)
  pub lists_5 : (lists_of N H T 1 5 ≡ 1) × (lists_of N H T 2 5 ≡ 1)
  -- where no household is, none stands on a list
  pub lists_0 : lists_of N H T 1 0 ≡ 0
  -- the sheet, and its column, of which an old entry behind it is no part: 1 × 3 + 2 × 3 + 1 × 3; the households: 1 × 1 + 2 × 3 + 1 × 2 + 3 × 1
  pub entries : sheet N H T ≡ 3 ∷ 0 ∷ 0 ∷ 0 ∷ 3 ∷ 3 ∷ []
  pub column : column_sum N T (3 ∷ 0 ∷ 0 ∷ 0 ∷ 3 ∷ 3 ∷ 9 ∷ []) ≡ 12
  pub lengths_1 : (all_lengths N H T 1 ≡ 12) × (all_lists_of N H T 1 ≡ 12)
  -- for k = 2 both sites at 4 have the household on node 1 too, and for k = 3 that at 0 the one on node 3
  pub lengths_2 : (all_lengths N H T 2 ≡ 14) × (all_lists_of N H T 2 ≡ 14)
  pub lengths_3 : (all_lengths N H T 3 ≡ 15) × (all_lists_of N H T 3 ≡ 15)

-- of N, with these
abbrev pub OnN : Type 0
OnN = WorkedOut (roads 7) seven_households four_sites
