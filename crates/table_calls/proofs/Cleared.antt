-- The part of the cleared scratch that a call's work is lent: it is long enough and all 0; and behind the work the whole scratch is.
-- Assumes nothing.
use Prim.Native.Nat.{ℕ, ◌+◌, ◌*◌, ◌≤◌, ◌<◌}
use mathlib.Core.Path.{◌≡◌}
use mathlib.Core.List.{List, ◌++◌}
use native.Mathlib.Omega.{arith}
use lib.ListN.{length, take, drop, replicate, length-take}
use Rattle.network.specs.Network.{Network, node_count, arc_count}
use Rattle.expansion.specs.Area.{Blank}
use Rattle.table.specs.Build.{CanBuild, BuildLeft}
use Rattle.table.specs.Updated.{UpdateLeft}
use Rattle.query.specs.Query.{CanQuery, QueryLeft}
use Rattle.conditions.specs.declared.kind.Kind.{Kind}
use Rattle.conditions.specs.declared.kind.Kind.TheVariants.{Insert, Remove}
use Rattle.numbers.specs.Ready.{TableReady, BuildReady, KindReady, ChangeReady, TableQueryReady}
use Rattle.numbers.proofs.Cleared.{zero_length, part_blank, part_wiped}
use Rattle.numbers.proofs.Words.{words_enough, words_for_build}
use Rattle.table_calls.specs.Work.{CanChange}

module _ {g : Network} {P scratch ids distances : List ℕ} {K : ℕ} (r : BuildReady g P K scratch ids distances) {ys : List ℕ} (z : ys ≡ replicate (length scratch) 0) where
  abbrev building : ℕ
  building = node_count g + 2 * (node_count g + K * arc_count g)

  building_fits : building ≤ length scratch
  building_fits = omega (arith, words_for_build g K, r.room)

  pub can_build : CanBuild g P (take building ys) ids distances K
  can_build =
      let t = r.ready in
      record {
        accepted = t.accepted;
        points = t.points;
        least = t.least;
        most = t.most;
        sized = t.sized;
        blank = part_blank (length scratch) building z;
        room = simp length-take (omega (arith, building_fits, zero_length (length scratch) z));
      }

  pub build_left : {zs i d : List ℕ} → BuildLeft g P (take building ys) zs i d K → BuildLeft g P scratch (zs ++ drop building ys) i d K
  build_left b = record { table = b.table; area = part_wiped scratch building z building_fits b.area }

-- what the work asks, of either kind
can_change_by : (kind : Kind) {g : Network} {P xs ids distances : List ℕ} {node K : ℕ} → node < node_count g → TableReady g P K ids distances → KindReady kind P node
    → Blank xs 0 → 4 * node_count g + 2 * arc_count g ≤ length xs → CanChange kind g P xs ids distances node K
can_change_by Insert inside r byte blank room =
    record {
      expand = record { accepted = r.accepted; inside = inside; blank = blank; size = omega arith };
      points = r.points;
      room = byte;
      sized = r.sized;
    }
can_change_by Remove inside r byte blank room =
    record {
      accepted = r.accepted;
      points = r.points;
      inside = inside;
      is_point = byte;
      least = r.least;
      most = r.most;
      sized = r.sized;
      blank = blank;
      room = omega arith;
    }

module _ {kind : Kind} {g : Network} {P scratch ids distances : List ℕ} {node K : ℕ} (r : ChangeReady kind g P node K scratch ids distances)
    {ys : List ℕ} (z : ys ≡ replicate (length scratch) 0) where
  abbrev changing : ℕ
  changing = 4 * node_count g + 2 * arc_count g

  changing_fits : changing ≤ length scratch
  changing_fits = omega (arith, words_enough g K (omega (arith, r.ready.least)), r.room)

  pub can_change : CanChange kind g P (take changing ys) ids distances node K
  can_change =
      can_change_by kind r.inside r.ready r.byte (part_blank (length scratch) changing z)
      (simp length-take (omega (arith, changing_fits, zero_length (length scratch) z)))

  pub change_left : {Q P' zs i d : List ℕ} {changed : ℕ} → UpdateLeft g P Q P' (take changing ys) zs ids distances i d K changed
      → UpdateLeft g P Q P' scratch (zs ++ drop changing ys) ids distances i d K changed
  change_left u =
      record {
        marks = u.marks;
        area = part_wiped scratch changing z changing_fits u.area;
        sized = u.sized;
        most = u.most;
        table = u.table;
        counted = u.counted;
      }

module _ {g : Network} {P ids distances scratch answers : List ℕ} {q k K : ℕ} (r : TableQueryReady g P q k K ids distances scratch answers)
    {ys : List ℕ} (z : ys ≡ replicate (length scratch) 0) where
  abbrev querying : ℕ
  querying = 10 * node_count g

  querying_fits : querying ≤ length scratch
  querying_fits = omega (arith, words_enough g k r.some, r.room)

  pub can_query : CanQuery g P ids distances (take querying ys) answers q k K
  can_query =
      let t = r.ready in
      record {
        asked =
            record {
              accepted = t.accepted;
              points = t.points;
              site = r.site;
              some = r.some;
              few = r.few;
              sized = t.sized.all_dists;
            };
        all_ids = t.sized.all_ids;
        blank = part_blank (length scratch) querying z;
        size = simp length-take (omega (arith, querying_fits, zero_length (length scratch) z));
        answers = r.places;
      }

  pub query_left : {zs new : List ℕ} {size : ℕ} → QueryLeft g P ids distances q k K (take querying ys) zs answers new size
      → QueryLeft g P ids distances q k K scratch (zs ++ drop querying ys) answers new size
  query_left d =
      record {
        some = d.some;
        answers = d.answers;
        sized = d.sized;
        area = part_wiped scratch querying z querying_fits d.area;
      }
