-- P1 to P10 of document 01, and the cases of document 02, by computation.
-- Assumes nothing.
use mathlib.Core.Path.{refl}
use Rattle.network.specs.Count.{any, count, total, select, tabulate}
use Rattle.network.specs.Network.{arcs_from, arcs_of, part_of}
use Rattle.network.specs.Check.{bad_size, falls_at, bad_starts, bad_neighbour_at, bad_part, bad_neighbours_of, bad_neighbours, bad_weight_at, bad_weights, is_arc_at, has_arc, lacks_return_at, lacks_return_of, lacks_return, network_number}
use Rattle.network.specs.Distance.{plus, least_over, within, dist}
use Rattle.network.specs.Points.{is_nearer, count_nearer, others_nearer, verified, is_listed, listed, is_expanded, expanded, exceeds_limit}
use Rattle.network.specs.Nearest.{insert, insert_times, by_distance, nearest}
use Rattle.network.specs.Visits.{visits}
use Rattle.network.specs.Households.{is_won, won, won_length, sheet_entry, sheet}
use Rattle.network.specs.Routes.{has_road, breaks_from, bad_route, on_route, listed_for_any, is_touched, touched}
use Rattle.network.specs.Rows.{row, same_row, rows_changed}
use Rattle.network.specs.Cases.{Cases, roads}
use Rattle.network.proofs.NumberZero.{number_zero}

pub cases : Cases
unfolding any count total select arcs_from arcs_of part_of bad_size falls_at bad_starts bad_neighbour_at bad_part bad_neighbours_of bad_neighbours bad_weight_at bad_weights is_arc_at has_arc lacks_return_at lacks_return_of lacks_return network_number plus least_over within dist is_nearer count_nearer others_nearer verified is_listed listed is_expanded expanded exceeds_limit insert insert_times by_distance nearest tabulate visits row same_row rows_changed is_won won won_length sheet_entry sheet has_road breaks_from bad_route on_route listed_for_any is_touched touched
cases =
    record {
      accepted_N = (number_zero (roads 7)).0 refl;
      accepted_P7 = (number_zero (roads 6)).0 refl;
      P1 = refl;
      P1_expanded = refl;
      P1_visits = refl;
      P1_short = refl;
      P1_short_expanded = refl;
      P2 = refl;
      P2_expanded = refl;
      P2_visits = refl;
      P2_limit_4 = refl;
      P2_limit_3 = refl;
      P3 = refl;
      P3_expanded = refl;
      P3_visits = refl;
      P4 = refl;
      P4_expanded = refl;
      P4_visits = refl;
      P5 = refl;
      P5_expanded = refl;
      P5_visits = refl;
      P6 = refl;
      P6_expanded = refl;
      P6_visits = refl;
      tie_visits = refl;
      P7 = refl;
      P8 = refl;
      P9 = refl;
      P10 = refl;
      P10_changed = refl;
      two_k1 = refl;
      two_k2 = refl;
      two_k3 = refl;
      two_expanded_k2 = refl;
      two_expanded_k3 = refl;
      two_row0_K2 = refl;
      two_row0_K3 = refl;
      two_row2_K3 = refl;
      two_changed = refl;
      two_removed = refl;
      three_k2 = refl;
      three_k3 = refl;
      three_k4 = refl;
      three_k5 = refl;
      three_expanded_k3 = refl;
      three_expanded_k4 = refl;
      three_expanded_k5 = refl;
      three_row4_K4 = refl;
      three_row4_K6 = refl;
      three_changed = refl;
      three_removed = refl;
      fifteen_k14 = refl;
      fifteen_k15 = refl;
      fifteen_k16 = refl;
      fifteen_on_q = refl;
      fifteen_on_q_k16 = refl;
      fifteen_nearest = refl;
      fifteen_cut = refl;
      fifteen_row4 = refl;
      fifteen_row0 = refl;
      won_0 = refl;
      won_0_k2 = refl;
      won_2 = refl;
      won_5 = refl;
      won_two = refl;
      sheet_N = refl;
      sheet_tie = refl;
      route_two = refl;
      route_turned = refl;
      route_far = refl;
      route_far_k2 = refl;
      route_one = refl;
      route_one_on = refl;
      route_alone = refl;
      route_on = refl;
      route_both_on = refl;
      route_back = refl;
      route_to_and_fro = refl;
      route_all = refl;
      route_all_k16 = refl;
      route_lockers = refl;
      route_lockers_k1 = refl;
      route_lockers_k2 = refl;
      route_lockers_k3 = refl;
      good_route = refl;
      good_alone = refl;
      missing_middle = refl;
      missing_first = refl;
      missing_last = refl;
      twice = refl;
      no_node = refl;
      no_road = refl;
    }
