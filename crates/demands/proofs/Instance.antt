-- The hypotheses of demand 3 can be met: for every list of calls there is a run that the contracts allow; and network N with an insertion, a removal,
-- a refused call, and a refused call that is lent another network and another table, is one.
-- Assumes nothing.
use Rattle.std.specs.Prelude.{Ok, Err}
use Prim.Native.Nat.{ℕ, ◌≤◌}
use mathlib.Core.Path.{◌≡◌, refl}
use mathlib.Core.Bool.{not}
use mathlib.Core.Logic.{◌≢◌, inl, inr}
use mathlib.Core.List.{List, [], ◌∷◌}
use native.Mathlib.Decide.{ℕ_discrete}
use native.Mathlib.Omega.{arith}
use lib.ListN.{length, replicate, length-replicate}
use Rattle.network.specs.Network.{Network, node_count, arcs_from, arcs_of, part_of}
use Rattle.network.specs.Count.{any, count, total}
use Rattle.network.specs.Check.{bad_size, falls_at, bad_starts, bad_neighbour_at, bad_part, bad_neighbours_of, bad_neighbours, bad_weight_at, bad_weights, is_arc_at, has_arc, lacks_return_at, lacks_return_of, lacks_return, network_number}
use Rattle.network.specs.Distance.{plus, least_over, within, dist}
use Rattle.network.specs.Points.{is_nearer}
use Rattle.network.specs.Nearest.{insert, insert_times, by_distance, nearest}
use Rattle.network.specs.Rows.{row, same_row, table_ids, table_distances, rows_changed}
use Rattle.network.specs.Cases.{roads, points}
use Rattle.network.proofs.Counts.{count_few}
use Rattle.rows.proofs.Laid.{table_sized}
use Rattle.conditions.specs.declared.kind.Kind.{Kind}
use Rattle.conditions.specs.declared.kind.Kind.TheVariants.{Insert, Remove}
use Rattle.conditions.specs.declared.answers.Update.{Update}
use Rattle.conditions.specs.Conditions.{first_number, bad_byte_at, points_number, node_number, table_number, short_number, full_number, unmarked_number}
use Rattle.numbers.specs.Numbers.{network_points_number, site_number, table_check_number, table_node_number, build_number, change_number}
use Rattle.table_calls.specs.Build.{build_outcome}
use Rattle.table_calls.specs.Updated.{kind_marks, Arrays, ChangeExported}
use Rattle.demands.specs.Book.{Call, book_number, book_call, book_answers, book_marks}
use Rattle.demands.specs.Demand3.{Run, ends, call, foreign, Demand3}
use Rattle.demands.proofs.Demand3.{demand}

-- no more rows change than there are
changed_most : (g : Network) (P Q : List ℕ) (K : ℕ) → rows_changed g P Q K ≤ node_count g
unfolding rows_changed
changed_most g P Q K = count_few (λ i. not (same_row (row g P K i) (row g Q K i))) (node_count g)

-- what a call may leave
record Leaves (kind : Kind) (g : Network) (node K : ℕ) (old : Arrays) : Type 0 where
  new : Arrays
  answer : Update
  left : ChangeExported kind g node K old new answer

leaves : (kind : Kind) (g : Network) (node K : ℕ) (old : Arrays) → Leaves kind g node K old
leaves kind g node K old =
    let Q = kind_marks kind old.points node in
    elim (ℕ_discrete (change_number kind g old.points node K old.scratch old.ids old.distances) 0) [
      | yes z ↦
          record {
            new =
                record {
                  points = Q;
                  scratch = replicate (length old.scratch) 0;
                  ids = table_ids g Q K;
                  distances = table_distances g Q K;
                };
            answer = record { number = 0; changed = rows_changed g old.points Q K };
            left =
                record {
                  answer = Ok (rows_changed g old.points Q K);
                  values = refl;
                  left =
                      record {
                        refused = λ n. absurd (n z);
                        accepted =
                            λ _.
                            record {
                              changed = rows_changed g old.points Q K;
                              answered_so = refl;
                              done =
                                  record {
                                    marks = refl;
                                    zero = refl;
                                    sized = table_sized g Q K;
                                    most = changed_most g old.points Q K;
                                    table = λ _. record { same_ids = refl; same_dists = refl };
                                    counted = λ _. refl;
                                  };
                            };
                      };
                };
          }
      | no n ↦
          record {
            new = old;
            answer =
                record {
                  number = change_number kind g old.points node K old.scratch old.ids old.distances;
                  changed = 0;
                };
            left =
                record {
                  answer = Err (change_number kind g old.points node K old.scratch old.ids old.distances);
                  values = refl;
                  left = record { refused = λ _. (refl, refl); accepted = λ z. absurd (n z) };
                };
          }
    ]

-- a run of a list of calls
pub record Runs (g : Network) (P ids distances : List ℕ) (cs : List Call) : Type 0 where
  pub answers : List Update
  pub marks : List ℕ
  pub last_ids : List ℕ
  pub last_distances : List ℕ
  pub run : Run g P ids distances cs answers marks last_ids last_distances

pub runs : (g : Network) (P ids distances : List ℕ) (cs : List Call) → Runs g P ids distances cs
runs g P ids distances [] = record { answers = []; marks = P; last_ids = ids; last_distances = distances; run = ends }
runs g P ids distances (c ∷ cs) =
    let scratch : List ℕ = replicate c.scratch_length 0 in
    let l = leaves c.kind g c.node c.places (record { points = P; scratch = scratch; ids = ids; distances = distances }) in
    let rest = runs g l.new.points l.new.ids l.new.distances cs in
    record {
      answers = l.answer ∷ rest.answers;
      marks = rest.marks;
      last_ids = rest.last_ids;
      last_distances = rest.last_distances;
      run = call scratch l.new (length-replicate c.scratch_length 0) l.left rest.run;
    }

-- N built with K = 2; then node 0 gets a locker (P10), node 2 loses its only one, node 4 gets a second, and node 2 is to lose one more, which is
-- refused
abbrev pub calls : List Call
calls =
    record { kind = Insert; node = 0; places = 2; scratch_length = 352 }
    ∷ record { kind = Remove; node = 2; places = 2; scratch_length = 352 }
    ∷ record { kind = Insert; node = 4; places = 2; scratch_length = 352 }
    ∷ record { kind = Remove; node = 2; places = 2; scratch_length = 352 }
    ∷ []

pub built : build_number (roads 7) points 2 (replicate 352 0) (replicate 12 0) (replicate 12 0) ≡ 0
unfolding any arcs_from arcs_of part_of bad_size falls_at bad_starts bad_neighbour_at bad_part bad_neighbours_of bad_neighbours bad_weight_at bad_weights is_arc_at has_arc lacks_return_at lacks_return_of lacks_return network_number build_number table_check_number network_points_number first_number bad_byte_at points_number table_number short_number
built = refl

pub answers : book_answers (roads 7) 2 points calls
    ≡ record { number = 0; changed = 4 }
    ∷ record { number = 0; changed = 4 }
    ∷ record { number = 0; changed = 2 }
    ∷ record { number = 11; changed = 0 }
    ∷ []
unfolding any count total arcs_from arcs_of part_of plus least_over within dist is_nearer insert insert_times by_distance nearest row same_row rows_changed book_answers book_call book_number first_number node_number table_number short_number full_number unmarked_number
answers = refl

pub marks : book_marks (roads 7) 2 points calls ≡ 1 ∷ 0 ∷ 0 ∷ 0 ∷ 2 ∷ 1 ∷ []
unfolding book_marks book_call book_number first_number node_number table_number short_number full_number unmarked_number
marks = refl

abbrev pub table : List ℕ × List ℕ
table =
    let o = build_outcome (roads 7) points 2 (replicate 352 0) (replicate 12 0) (replicate 12 0) in
    (o.ids, o.distances)

pub all : Runs (roads 7) points table.0 table.1 calls
all = runs (roads 7) points table.0 table.1 calls

-- between build and list, node 0 is to lose a locker on P7's network, with our marks and a table of zeros: 11
abbrev lent : Arrays
lent = record { points = points; scratch = replicate 352 0; ids = replicate 12 0; distances = replicate 12 0 }

met : change_number Remove (roads 6) points 0 2 (replicate 352 0) (replicate 12 0) (replicate 12 0) ≡ 11
unfolding any arcs_from arcs_of part_of bad_size falls_at bad_starts bad_neighbour_at bad_part bad_neighbours_of bad_neighbours bad_weight_at bad_weights is_arc_at has_arc lacks_return_at lacks_return_of lacks_return network_number change_number table_node_number site_number network_points_number first_number bad_byte_at points_number node_number table_number short_number unmarked_number
met = refl

refused : change_number Remove (roads 6) points 0 2 (replicate 352 0) (replicate 12 0) (replicate 12 0) ≢ 0
refused z = omega (arith, met)

pub run : Run (roads 7) points table.0 table.1 calls all.answers all.marks all.last_ids all.last_distances
run =
    foreign Remove (roads 6) 0 2 lent lent
    (record { number = change_number Remove (roads 6) points 0 2 (replicate 352 0) (replicate 12 0) (replicate 12 0); changed = 0 })
    (record {
      answer = Err (change_number Remove (roads 6) points 0 2 (replicate 352 0) (replicate 12 0) (replicate 12 0));
      values = refl;
      left = record { refused = λ _. (refl, refl); accepted = λ z. absurd (refused z) };
    })
    refused (inl (refl, refl)) (inr refl) (inr refl) all.run

pub instance : Demand3 (roads 7) points 2 calls all.answers all.marks all.last_ids all.last_distances
instance =
    demand (roads 7) points 2 (replicate 352 0) (replicate 12 0) (replicate 12 0) built calls all.answers all.marks all.last_ids all.last_distances run
