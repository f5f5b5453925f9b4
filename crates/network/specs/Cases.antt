-- Document 01, 'The network N': P1 to P10, with Ask 4's visits, and cases of document 02, as one statement about the definitions. Its proof, by
-- computation, is `cases` of proofs/Cases.antt.
-- Assumes nothing.
use Rattle.std.specs.Prelude.{ℕ, true, false, ◌≡◌, List, [], ◌∷◌, ◌++◌, set, replicate}
use Rattle.network.specs.Network.{Network, network}
use Rattle.network.specs.Accepted.{Accepted}
use Rattle.network.specs.Distance.{NONE}
use Rattle.network.specs.Points.{listed, expanded, exceeds_limit, short_k}
use Rattle.network.specs.Nearest.{nearest}
use Rattle.network.specs.Visits.{visits}
use Rattle.network.specs.Households.{won, sheet}
use Rattle.network.specs.Routes.{bad_route, touched}
use Rattle.network.specs.Rows.{row, rows_changed}

-- 'Six nodes, roads 0-1 of 4, 0-3 of 5, 1-2 of 3, 2-4 of 7, 3-4 of 3; node 5 alone': N is `roads 7`
abbrev pub roads : ℕ → Network
roads x =
    network
    (0 ∷ 2 ∷ 4 ∷ 6 ∷ 8 ∷ 10 ∷ 10 ∷ [])
    (1 ∷ 3 ∷ 0 ∷ 2 ∷ 1 ∷ 4 ∷ 0 ∷ 4 ∷ 2 ∷ 3 ∷ [])
    (4 ∷ 5 ∷ 4 ∷ 3 ∷ 3 ∷ x ∷ 5 ∷ 3 ∷ x ∷ 3 ∷ [])

-- 'points 2, 4, 5'; no points
abbrev pub points : List ℕ
points = 0 ∷ 0 ∷ 1 ∷ 0 ∷ 1 ∷ 1 ∷ []

abbrev pub no_points : List ℕ
no_points = 0 ∷ 0 ∷ 0 ∷ 0 ∷ 0 ∷ 0 ∷ []

-- Ask 8, marks of several lockers: two at 2; three at 0, and two there; fifteen at 4
abbrev pub two_at2 : List ℕ
two_at2 = 0 ∷ 0 ∷ 2 ∷ 0 ∷ 1 ∷ 1 ∷ []

abbrev pub three_at0 : List ℕ
three_at0 = 3 ∷ 0 ∷ 1 ∷ 0 ∷ 1 ∷ 1 ∷ []

abbrev pub two_at0 : List ℕ
two_at0 = 2 ∷ 0 ∷ 1 ∷ 0 ∷ 1 ∷ 1 ∷ []

abbrev pub fifteen_at4 : List ℕ
fifteen_at4 = 0 ∷ 0 ∷ 1 ∷ 0 ∷ 15 ∷ 1 ∷ []

-- Ask 1, households: one at 0, two at 1, one at 3, three at 5; one at 2 alone. And sites at 0 and 4
abbrev pub some_households : List ℕ
some_households = 1 ∷ 2 ∷ 0 ∷ 1 ∷ 0 ∷ 3 ∷ []

abbrev pub one_at2 : List ℕ
one_at2 = 0 ∷ 0 ∷ 1 ∷ 0 ∷ 0 ∷ 0 ∷ []

abbrev pub sites_at0_and4 : List ℕ
sites_at0_and4 = 1 ∷ 0 ∷ 0 ∷ 0 ∷ 1 ∷ 0 ∷ []

pub record Cases : Type 0 where
  -- the networks of the cases are accepted
  pub accepted_N : Accepted (roads 7)
  pub accepted_P7 : Accepted (roads 6)
  -- P1: q 0, k 1
  pub P1 : listed (roads 7) points 0 1 ≡ 2 ∷ []
  pub P1_expanded : expanded (roads 7) points 0 1 ≡ 1
  pub P1_visits : visits (roads 7) points 0 1 ≡ 0 ∷ []
  -- 'P1 as a short query gives 2, 4' (Ask 10), with its count
  pub P1_short : listed (roads 7) points 0 short_k ≡ 2 ∷ 4 ∷ []
  pub P1_short_expanded : expanded (roads 7) points 0 short_k ≡ 4
  -- P2: q 0, k 2; 'Limit 4 answers P2, limit 3 refuses.'
  pub P2 : listed (roads 7) points 0 2 ≡ 2 ∷ 4 ∷ []
  pub P2_expanded : expanded (roads 7) points 0 2 ≡ 4
  pub P2_visits : visits (roads 7) points 0 2 ≡ 0 ∷ 1 ∷ 3 ∷ 2 ∷ []
  pub P2_limit_4 : exceeds_limit (roads 7) points 0 2 4 ≡ false
  pub P2_limit_3 : exceeds_limit (roads 7) points 0 2 3 ≡ true
  -- P3: q 1, k 1
  pub P3 : listed (roads 7) points 1 1 ≡ 2 ∷ []
  pub P3_expanded : expanded (roads 7) points 1 1 ≡ 2
  pub P3_visits : visits (roads 7) points 1 1 ≡ 1 ∷ 0 ∷ []
  -- P4: q 2, k 1; 'In P4 the list becomes 4, in P5 it becomes empty. Expanded counts are untouched' (Ask 6)
  pub P4 : listed (roads 7) points 2 1 ≡ 4 ∷ []
  pub P4_expanded : expanded (roads 7) points 2 1 ≡ 3
  pub P4_visits : visits (roads 7) points 2 1 ≡ 2 ∷ 1 ∷ 0 ∷ []
  -- P5: q 5, k 1
  pub P5 : listed (roads 7) points 5 1 ≡ []
  pub P5_expanded : expanded (roads 7) points 5 1 ≡ 1
  pub P5_visits : visits (roads 7) points 5 1 ≡ 5 ∷ []
  -- P6: q 0, k 1, no points
  pub P6 : listed (roads 7) no_points 0 1 ≡ []
  pub P6_expanded : expanded (roads 7) no_points 0 1 ≡ 5
  pub P6_visits : visits (roads 7) no_points 0 1 ≡ 0 ∷ 1 ∷ 3 ∷ 2 ∷ 4 ∷ []
  -- Ask 4, a tie: 0 and 4 are both 7 from 2
  pub tie_visits : visits (roads 7) no_points 2 1 ≡ 2 ∷ 1 ∷ 0 ∷ 4 ∷ 3 ∷ []
  -- P7: as P1, road 2-4 of 6
  pub P7 : listed (roads 6) points 0 1 ≡ []
  -- P8: row 0, K 2
  pub P8 : row (roads 7) points 2 0 ≡ (2, 7) ∷ (4, 8) ∷ []
  -- P9: row 5, K 2
  pub P9 : row (roads 7) points 2 5 ≡ (5, 0) ∷ (NONE, NONE) ∷ []
  -- P10: row 2 after insert 0, K 2
  pub P10 : row (roads 7) (set points 0 1) 2 2 ≡ (2, 0) ∷ (0, 7) ∷ []
  pub P10_changed : rows_changed (roads 7) points (set points 0 1) 2 ≡ 4
  -- Ask 8 on N, worked out by hand from the distances of N. Two lockers at 2: 'a locker has its companions on the node as others at distance 0'; both
  -- are nearer to 4 than 0 is
  pub two_k1 : listed (roads 7) two_at2 0 1 ≡ []
  pub two_k2 : listed (roads 7) two_at2 0 2 ≡ 2 ∷ []
  pub two_k3 : listed (roads 7) two_at2 0 3 ≡ 2 ∷ 4 ∷ []
  -- node 1 has both at 3 < 4
  pub two_expanded_k2 : expanded (roads 7) two_at2 0 2 ≡ 2
  pub two_expanded_k3 : expanded (roads 7) two_at2 0 3 ≡ 4
  -- a row repeats the node, and is cut after K
  pub two_row0_K2 : row (roads 7) two_at2 2 0 ≡ (2, 7) ∷ (2, 7) ∷ []
  pub two_row0_K3 : row (roads 7) two_at2 3 0 ≡ (2, 7) ∷ (2, 7) ∷ (4, 8) ∷ []
  pub two_row2_K3 : row (roads 7) two_at2 3 2 ≡ (2, 0) ∷ (2, 0) ∷ (4, 7) ∷ []
  -- insert 2 on N: rows 0, 1 and 2 take one more of 2; in rows 3 and 4 it falls behind the second place; remove it again
  pub two_changed : rows_changed (roads 7) points two_at2 2 ≡ 3
  pub two_removed : rows_changed (roads 7) two_at2 points 2 ≡ 3
  -- three lockers at 0: a locker there has two companions nearer than 1; from 4, which 1 is 10 from, 2 is nearer at 7 and the three at 8
  pub three_k2 : listed (roads 7) three_at0 1 2 ≡ 2 ∷ []
  pub three_k3 : listed (roads 7) three_at0 1 3 ≡ 0 ∷ 2 ∷ []
  pub three_k4 : listed (roads 7) three_at0 1 4 ≡ 0 ∷ 2 ∷ []
  pub three_k5 : listed (roads 7) three_at0 1 5 ≡ 0 ∷ 2 ∷ 4 ∷ []
  -- three are nearer to 0 than 1 is, four to 3 and five to 4
  pub three_expanded_k3 : expanded (roads 7) three_at0 1 3 ≡ 2
  pub three_expanded_k4 : expanded (roads 7) three_at0 1 4 ≡ 3
  pub three_expanded_k5 : expanded (roads 7) three_at0 1 5 ≡ 4
  -- a row is cut between the copies of a node; there one more or one fewer changes nothing: of rows 0 to 4 row 4 stays
  pub three_row4_K4 : row (roads 7) three_at0 4 4 ≡ (4, 0) ∷ (2, 7) ∷ (0, 8) ∷ (0, 8) ∷ []
  pub three_row4_K6 : row (roads 7) three_at0 6 4 ≡ (4, 0) ∷ (2, 7) ∷ (0, 8) ∷ (0, 8) ∷ (0, 8) ∷ (NONE, NONE) ∷ []
  pub three_changed : rows_changed (roads 7) two_at0 three_at0 4 ≡ 4
  pub three_removed : rows_changed (roads 7) three_at0 two_at0 4 ≡ 4
  -- fifteen lockers at 4: fourteen companions; from 2, all fifteen are nearer than 3
  pub fifteen_k14 : listed (roads 7) fifteen_at4 3 14 ≡ []
  pub fifteen_k15 : listed (roads 7) fifteen_at4 3 15 ≡ 4 ∷ []
  pub fifteen_k16 : listed (roads 7) fifteen_at4 3 16 ≡ 2 ∷ 4 ∷ []
  -- Ask 6: of several lockers on q none is listed, whatever k; from 2, those on 4 are no nearer than q
  pub fifteen_on_q : listed (roads 7) fifteen_at4 4 1 ≡ 2 ∷ []
  pub fifteen_on_q_k16 : listed (roads 7) fifteen_at4 4 16 ≡ 2 ∷ []
  pub fifteen_nearest : nearest (roads 7) fifteen_at4 3 10 16 ≡ replicate 15 (4, 3)
  pub fifteen_cut : nearest (roads 7) fifteen_at4 3 10 4 ≡ replicate 4 (4, 3)
  pub fifteen_row4 : row (roads 7) fifteen_at4 17 4 ≡ replicate 15 (4, 0) ++ (2, 7) ∷ (NONE, NONE) ∷ []
  pub fifteen_row0 : row (roads 7) fifteen_at4 3 0 ≡ (2, 7) ∷ (4, 8) ∷ (4, 8) ∷ []
  -- Ask 1, with the points of N as sites: 0 is no site, and wins what is on its node; 1 is 3 from 2 and 4 from 0, so one site is nearer; 5 can't be reached
  pub won_0 : won (roads 7) some_households points 0 1 ≡ 0 ∷ []
  pub won_0_k2 : won (roads 7) some_households points 0 2 ≡ 0 ∷ 1 ∷ 3 ∷ []
  pub won_2 : won (roads 7) some_households points 2 1 ≡ 0 ∷ 1 ∷ []
  pub won_5 : won (roads 7) some_households points 5 1 ≡ 5 ∷ []
  -- two sites at 2 are two that are nearer to 1, and one is nearer to 3
  pub won_two : won (roads 7) some_households two_at2 0 2 ≡ 0 ∷ 3 ∷ []
  -- 2 wins the household at 0 and the two at 1
  pub sheet_N : sheet (roads 7) some_households points ≡ 0 ∷ 0 ∷ 3 ∷ 0 ∷ 1 ∷ 3 ∷ []
  -- 0 and 4 are both 7 from 2, so both win its household
  pub sheet_tie : sheet (roads 7) one_at2 sites_at0_and4 ≡ 1 ∷ 0 ∷ 0 ∷ 0 ∷ 1 ∷ 0 ∷ []
  -- Ask 7 on N, worked out by hand from the distances of N. Off the route, 2 and 4 are listed for k 1 where the route is at most 7 from them, as they
  -- are 7 from each other; for k 2 always; 5 is reached from no other node. Along the road 0-3, 2 is 7 from 0 and 4 is 3 from 3: by the
  -- distance to the first node alone, one of them would be lost either way round
  pub route_two : touched (roads 7) points (0 ∷ 3 ∷ []) 1 ≡ 2 ∷ 4 ∷ []
  pub route_turned : touched (roads 7) points (3 ∷ 0 ∷ []) 1 ≡ 2 ∷ 4 ∷ []
  -- along the road 0-1, 4 is 8 from 0 and 10 from 1
  pub route_far : touched (roads 7) points (0 ∷ 1 ∷ []) 1 ≡ 2 ∷ []
  pub route_far_k2 : touched (roads 7) points (0 ∷ 1 ∷ []) 2 ≡ 2 ∷ 4 ∷ []
  -- a route of one node lists what P1 does, and P4, without the point on it; nothing is reached from 5
  pub route_one : touched (roads 7) points (0 ∷ []) 1 ≡ 2 ∷ []
  pub route_one_on : touched (roads 7) points (2 ∷ []) 1 ≡ 4 ∷ []
  pub route_alone : touched (roads 7) points (5 ∷ []) 1 ≡ []
  -- 1 lists 2 (P3), which stands on the route, and 2 lists 4 (P4): the union alone would be 2, 4
  pub route_on : touched (roads 7) points (1 ∷ 2 ∷ []) 1 ≡ 4 ∷ []
  -- 2 lists 4 and 4 lists 2, and both stand on the route
  pub route_both_on : touched (roads 7) points (2 ∷ 4 ∷ []) 1 ≡ []
  -- back and forth: 1 twice, 4 is 7 from 2; without 2 on the route, 2 is 3 from 1 and 4 is 8 from 0
  pub route_back : touched (roads 7) points (0 ∷ 1 ∷ 2 ∷ 1 ∷ []) 1 ≡ 4 ∷ []
  pub route_to_and_fro : touched (roads 7) points (1 ∷ 0 ∷ 1 ∷ []) 1 ≡ 2 ∷ []
  -- over all nodes that are joined nothing is left but 5
  pub route_all : touched (roads 7) points (0 ∷ 1 ∷ 2 ∷ 4 ∷ 3 ∷ []) 1 ≡ []
  pub route_all_k16 : touched (roads 7) points (0 ∷ 1 ∷ 2 ∷ 4 ∷ 3 ∷ []) 16 ≡ []
  -- two lockers at 2: each has the other at 0; along 0-1 both are nearer to 4 than the route is, along 0-3 none is
  pub route_lockers : touched (roads 7) two_at2 (0 ∷ 3 ∷ []) 1 ≡ 4 ∷ []
  pub route_lockers_k1 : touched (roads 7) two_at2 (0 ∷ 1 ∷ []) 1 ≡ []
  pub route_lockers_k2 : touched (roads 7) two_at2 (0 ∷ 1 ∷ []) 2 ≡ 2 ∷ []
  pub route_lockers_k3 : touched (roads 7) two_at2 (0 ∷ 1 ∷ []) 3 ≡ 2 ∷ 4 ∷ []
  -- 14: not back and forth over roads, nor for one node, which needs none; a road that is missing in the middle, first or last; a node twice in
  -- sequence; no node; a node without a road
  pub good_route : bad_route (roads 7) (0 ∷ 1 ∷ 2 ∷ 1 ∷ []) ≡ false
  pub good_alone : bad_route (roads 7) (5 ∷ []) ≡ false
  pub missing_middle : bad_route (roads 7) (0 ∷ 1 ∷ 3 ∷ 4 ∷ []) ≡ true
  pub missing_first : bad_route (roads 7) (0 ∷ 2 ∷ 4 ∷ []) ≡ true
  pub missing_last : bad_route (roads 7) (0 ∷ 1 ∷ 4 ∷ []) ≡ true
  pub twice : bad_route (roads 7) (0 ∷ 1 ∷ 1 ∷ 2 ∷ []) ≡ true
  pub no_node : bad_route (roads 7) [] ≡ true
  pub no_road : bad_route (roads 7) (4 ∷ 5 ∷ []) ≡ true
