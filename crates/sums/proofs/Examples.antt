-- Ask 13 on N, by computation.
-- Assumes nothing.
use mathlib.Core.Path.{refl}
use Rattle.network.specs.Count.{total, tabulate}
use Rattle.network.specs.Network.{arcs_from, arcs_of}
use Rattle.network.specs.Distance.{plus, least_over, within, dist}
use Rattle.network.specs.Points.{is_nearer, count_nearer, is_expanded}
use Rattle.network.specs.Nearest.{insert, insert_times, by_distance, nearest}
use Rattle.network.specs.Households.{is_won, won_length, sheet_entry, sheet}
use Rattle.sums.specs.Sums.{added_over, sites_reached, lists_of, site_distance, all_lengths, all_lists_of, column_sum}
use Rattle.sums.specs.Examples.{OnN}

pub worked_out : OnN
unfolding total tabulate arcs_from arcs_of plus least_over within dist is_nearer count_nearer is_expanded insert insert_times by_distance nearest is_won won_length sheet_entry sheet added_over sites_reached lists_of site_distance all_lengths all_lists_of column_sum
worked_out =
    record {
      reached_1 = refl;
      order_1 = (refl, refl, refl, refl);
      lists_1 = (refl, refl, refl);
      reached_2 = refl;
      order_2 = (refl, refl, refl);
      lists_2 = (refl, refl, refl);
      reached_3 = refl;
      order_3 = (refl, refl, refl);
      lists_3 = (refl, refl, refl);
      reached_5 = refl;
      order_5 = (refl, refl);
      lists_5 = (refl, refl);
      lists_0 = refl;
      entries = refl;
      column = refl;
      lengths_1 = (refl, refl);
      lengths_2 = (refl, refl);
      lengths_3 = (refl, refl);
    }
