-- The sheet of N, by computing: accepted in S words with m = 1, which are 16 × 6 + 8 × (10 + 6) × 1 = 224, with the entries for k = 1, and refused in one
-- word less (Ask 10: 'the sheet now names 1 itself').
-- Assumes nothing.
use Prim.Native.Nat.{ℕ}
use mathlib.Core.Path.{◌≡◌, refl}
use mathlib.Core.List.{List, [], ◌∷◌}
use lib.ListN.{replicate}
use Rattle.network.specs.Count.{any, count, total, select, tabulate}
use Rattle.network.specs.Network.{arcs_from, arcs_of, part_of}
use Rattle.network.specs.Check.{bad_size, falls_at, bad_starts, bad_neighbour_at, bad_part, bad_neighbours_of, bad_neighbours, bad_weight_at, bad_weights, is_arc_at, has_arc, lacks_return_at, lacks_return_of, lacks_return, network_number}
use Rattle.network.specs.Distance.{plus, least_over, within, dist}
use Rattle.network.specs.Points.{is_nearer, count_nearer, is_expanded}
use Rattle.network.specs.Households.{is_won, won_length, sheet_entry, sheet}
use Rattle.network.specs.Answers.{answered}
use Rattle.network.specs.Cases.{roads, points, some_households}
use Rattle.conditions.specs.Conditions.{first_number, bad_byte_at, points_number, short_number}
use Rattle.numbers.specs.Numbers.{network_points_number}
use Rattle.site_calls.specs.Shared.{entries_outcome}
use Rattle.household_calls.specs.Numbers.{both_number, sheet_number}
use Rattle.household_calls.specs.Sheet.{sheet_outcome}

-- seven old answers
abbrev old : List ℕ
old = replicate 7 9

sheet_of_N :
    (sheet_outcome (roads 7) some_households points (replicate 224 9) old
    ≡ record { number = 0; scratch = replicate 224 0; answers = 0 ∷ 0 ∷ 3 ∷ 0 ∷ 1 ∷ 3 ∷ 9 ∷ [] })
    × (sheet_outcome (roads 7) some_households points (replicate 223 9) old ≡ record { number = 10; scratch = replicate 223 9; answers = old })
unfolding any count total select tabulate arcs_from arcs_of part_of bad_size falls_at bad_starts bad_neighbour_at bad_part bad_neighbours_of bad_neighbours bad_weight_at bad_weights is_arc_at has_arc lacks_return_at lacks_return_of lacks_return network_number plus least_over within dist is_nearer count_nearer is_expanded is_won won_length sheet_entry sheet answered first_number bad_byte_at points_number short_number network_points_number entries_outcome both_number sheet_number sheet_outcome
sheet_of_N = (refl, refl)
