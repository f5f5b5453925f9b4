-- Calls with a route on N, by computing: the list along the road 0-3, in S words with k = 1, which are 16 × 6 + 8 × (10 + 6) × 1 = 224; the numbers, and which
-- comes first where two conditions are met.
-- Assumes nothing.
use Rattle.std.specs.Prelude.{Ok, Err}
use Prim.Native.Nat.{ℕ}
use mathlib.Core.Path.{◌≡◌, refl}
use mathlib.Core.List.{List, [], ◌∷◌}
use lib.ListN.{replicate}
use Rattle.network.specs.Count.{any, total, select}
use Rattle.network.specs.Network.{arcs_from, arcs_of, part_of}
use Rattle.network.specs.Check.{bad_size, falls_at, bad_starts, bad_neighbour_at, bad_part, bad_neighbours_of, bad_neighbours, bad_weight_at, bad_weights, is_arc_at, has_arc, lacks_return_at, lacks_return_of, lacks_return, network_number}
use Rattle.network.specs.Distance.{plus, least_over, within, dist}
use Rattle.network.specs.Points.{is_nearer, others_nearer, verified, is_listed}
use Rattle.network.specs.Routes.{has_road, breaks_from, bad_route, on_route, listed_for_any, is_touched, touched}
use Rattle.network.specs.Answers.{answered}
use Rattle.network.specs.Cases.{roads, points}
use Rattle.conditions.specs.Conditions.{first_number, bad_byte_at, points_number, node_number, nodes_number, k_number, short_number, route_number}
use Rattle.numbers.specs.Numbers.{network_points_number}
use Rattle.site_calls.specs.Shared.{SearchOutcome, list_outcome}
use Rattle.route_calls.specs.Numbers.{route_call_number}
use Rattle.route_calls.specs.Route.{route_outcome}
use Rattle.conditions.specs.Values.{found_list}

-- seven old answers; the call on N with its lockers; its number with k = 1, that scratch and these answers
abbrev old : List ℕ
old = replicate 7 9

abbrev outcome : List ℕ → ℕ → SearchOutcome
outcome R words = route_outcome (roads 7) points R 1 (replicate words 9) old

abbrev number : List ℕ → ℕ → ℕ → ℕ → ℕ
number R k words places = route_call_number (roads 7) points R k (replicate words 9) (replicate places 9)

record RouteCalls : Type 0 where
  -- S words are enough; one less is refused
  listed : outcome (0 ∷ 3 ∷ []) 224 ≡ record { answer = Ok (found_list 2 0); scratch = replicate 224 0; answers = 2 ∷ 4 ∷ 9 ∷ 9 ∷ 9 ∷ 9 ∷ 9 ∷ [] }
  short : outcome (0 ∷ 3 ∷ []) 223 ≡ record { answer = Err 10; scratch = replicate 223 9; answers = old }
  -- 14: a road is missing, a node follows itself, no node
  missing : outcome (0 ∷ 1 ∷ 3 ∷ 4 ∷ []) 224 ≡ record { answer = Err 14; scratch = replicate 224 9; answers = old }
  twice : number (0 ∷ 0 ∷ []) 1 224 6 ≡ 14
  no_node : number [] 1 224 6 ≡ 14
  -- the m of 10 is k: S is 352 for k = 2
  words : number (0 ∷ 3 ∷ []) 2 352 6 ≡ 0
  fewer_words : number (0 ∷ 3 ∷ []) 2 351 6 ≡ 10
  -- 7, wherever the node stands, and before 14: there is no road 0-2 and none to 6
  node_last : number (0 ∷ 2 ∷ 6 ∷ []) 1 224 6 ≡ 7
  node_first : number (6 ∷ 0 ∷ []) 1 224 6 ≡ 7
  node_alone : number (6 ∷ []) 1 224 6 ≡ 7
  -- 7 before 9 and 10; 9 before 10 and 14; 10, of scratch and of answers, before 14
  node_and_k : number (6 ∷ []) 0 0 0 ≡ 7
  no_k : number [] 0 0 0 ≡ 9
  k_17 : number (0 ∷ 2 ∷ []) 17 224 6 ≡ 9
  short_scratch : number [] 1 223 6 ≡ 10
  short_answers : number [] 1 224 5 ≡ 10

route_calls : RouteCalls
unfolding any total select arcs_from arcs_of part_of bad_size falls_at bad_starts bad_neighbour_at bad_part bad_neighbours_of bad_neighbours bad_weight_at bad_weights is_arc_at has_arc lacks_return_at lacks_return_of lacks_return network_number plus least_over within dist is_nearer others_nearer verified is_listed has_road breaks_from bad_route on_route listed_for_any is_touched touched answered first_number bad_byte_at points_number node_number nodes_number k_number short_number route_number network_points_number list_outcome route_call_number route_outcome
route_calls =
    record {
      listed = refl;
      short = refl;
      missing = refl;
      twice = refl;
      no_node = refl;
      words = refl;
      fewer_words = refl;
      node_last = refl;
      node_first = refl;
      node_alone = refl;
      node_and_k = refl;
      no_k = refl;
      k_17 = refl;
      short_scratch = refl;
      short_answers = refl;
    }
