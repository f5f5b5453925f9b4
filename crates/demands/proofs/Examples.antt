-- The examples of document 01's numbers of refusal, by computation.
-- Assumes nothing.
use mathlib.Core.Path.{refl}
use Rattle.network.specs.Count.{any, count, total, select, tabulate}
use Rattle.network.specs.Network.{arcs_from, arcs_of, part_of}
use Rattle.network.specs.Check.{bad_size, falls_at, bad_starts, bad_neighbour_at, bad_part, bad_neighbours_of, bad_neighbours, bad_weight_at, bad_weights, is_arc_at, has_arc, lacks_return_at, lacks_return_of, lacks_return, network_number}
use Rattle.network.specs.Distance.{plus, least_over, within, dist, distances_from}
use Rattle.network.specs.Points.{is_nearer, count_nearer, others_nearer, verified, is_listed, listed, is_expanded, expanded, exceeds_limit}
use Rattle.network.specs.Nearest.{insert, insert_times, by_distance, nearest}
use Rattle.network.specs.Visits.{visits}
use Rattle.network.specs.Rows.{row, rows_below, same_row, rows_changed, table_ids, table_distances, same_list, same_table}
use Rattle.network.specs.Answers.{answered}
use Rattle.conditions.specs.Conditions.{limit_number, first_number, bad_byte_at, points_number, node_number, k_number, table_k_number, table_number, short_number, full_number, unmarked_number}
use Rattle.numbers.specs.Numbers.{query_number, table_check_number, build_number, table_node_number, network_points_number, site_number, table_query_number, distances_number, nearest_number, verify_number, search_number, limited_number, eager_number, change_number}
use Rattle.site_calls.specs.Distances.{distances_outcome}
use Rattle.site_calls.specs.Nearest.{nearest_ids, nearest_distances, nearest_outcome}
use Rattle.site_calls.specs.Verify.{verify_outcome}
use Rattle.site_calls.specs.Eager.{limited_outcome, visits_outcome, eager_outcome, short_outcome}
use Rattle.site_calls.specs.Shared.{list_outcome, entries_outcome}
use Rattle.site_calls.specs.Lazy.{lazy_outcome}
use Rattle.table_calls.specs.TableCheck.{table_check_answer}
use Rattle.table_calls.specs.Build.{build_outcome}
use Rattle.demands.specs.Book.{book_number, book_call, book_answers}
use Rattle.demands.specs.Examples.{Examples}

pub examples : Examples
unfolding any count total select tabulate arcs_from arcs_of part_of bad_size falls_at bad_starts bad_neighbour_at bad_part bad_neighbours_of bad_neighbours bad_weight_at bad_weights is_arc_at has_arc lacks_return_at lacks_return_of lacks_return network_number plus least_over within dist distances_from is_nearer count_nearer others_nearer verified is_listed listed is_expanded expanded exceeds_limit insert insert_times by_distance nearest row rows_below table_ids table_distances answered same_list same_table first_number bad_byte_at points_number node_number k_number table_k_number table_number short_number full_number unmarked_number query_number table_check_number build_number table_node_number network_points_number site_number table_query_number distances_number distances_outcome nearest_number nearest_ids nearest_distances nearest_outcome verify_number verify_outcome search_number limited_number eager_number limited_outcome visits_outcome eager_outcome short_outcome visits list_outcome entries_outcome lazy_outcome change_number limit_number table_check_answer build_outcome same_row rows_changed book_number book_call book_answers
examples =
    record {
      no_1 = refl;
      no_2 = refl;
      no_3 = refl;
      no_4 = refl;
      no_5 = refl;
      no_6 = refl;
      no_7 = refl;
      no_8 = refl;
      no_9 = refl;
      no_10 = refl;
      no_11 = refl;
      at_15 = refl;
      at_0 = refl;
      second = refl;
      no_12 = refl;
      limit_4 = refl;
      few_visits = refl;
      short_P1 = refl;
      short = refl;
      in_72 = refl;
      in_71 = refl;
      verify_in_72 = refl;
      verify_in_71 = refl;
      lazy_in_72 = refl;
      in_24 = refl;
      first = refl;
      from_0 = refl;
      none_nearer = refl;
      by_node = refl;
      repeats = refl;
      companion = refl;
      on_site = refl;
      two_on_site = refl;
      none_on_site = refl;
      equal = refl;
      nearer = refl;
      yes = refl;
      another = refl;
      half = refl;
      missing = refl;
      copies = refl;
      lone_eager = refl;
      lone_built = refl;
      k_16 = refl;
      k_17 = refl;
      book = refl;
    }
