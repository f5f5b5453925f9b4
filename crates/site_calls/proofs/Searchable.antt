-- The scratch of a call, once it is cleared: its work can begin.
-- Assumes nothing.
use Prim.Native.Nat.{ℕ, ◌+◌, ◌*◌, ◌≤◌}
use mathlib.Core.Path.{◌≡◌}
use mathlib.Core.List.{List}
use native.Mathlib.Omega.{arith}
use lib.ListN.{length, take, replicate, length-take}
use Rattle.network.specs.Network.{Network, node_count, arc_count}
use Rattle.expansion.specs.Expand.{CanExpand}
use Rattle.expansion.specs.Visited.{CanVisit}
use Rattle.expansion.specs.declared.verify.Site.TheVariants.{One}
use Rattle.expansion.proofs.Settled.{zero_blank}
use Rattle.searches.specs.Eager.{CanSearch}
use Rattle.lazy_searches.specs.LazyEp.{CanExtend}
use Rattle.numbers.specs.Ready.{DistancesReady, VerifyReady, QueryReady, SearchReady, LimitedReady}
use Rattle.numbers.proofs.Cleared.{zero_length, part_blank}
use Rattle.numbers.proofs.Words.{words_for_lazy}

-- the words that lazy and lazy-EP use, and scratch has them
abbrev pub lazy_words : Network → ℕ → ℕ
lazy_words g k = 12 * node_count g + 2 * k * (node_count g + arc_count g)

pub lazy_room : {g : Network} {P : List ℕ} {q k : ℕ} {scratch : List ℕ} → QueryReady g P q k scratch → lazy_words g k ≤ length scratch
lazy_room {g} {P} {q} {k} r = omega (arith, words_for_lazy g k, r.room)

-- the cleared scratch can be expanded over, visited and searched over
module _ {g : Network} {scratch s : List ℕ} (e : s ≡ replicate (length scratch) 0) where
  pub distances_expand : {node : ℕ} {answers : List ℕ} → DistancesReady g node scratch answers → CanExpand g s 0 node
  distances_expand r =
      record {
        accepted = r.accepted;
        inside = r.inside;
        blank = zero_blank (length scratch) 0 e;
        size = omega (arith, r.room, r.accepted.some, zero_length (length scratch) e);
      }

  pub verify_visit : {P : List ℕ} {p q k : ℕ} → VerifyReady g P p q k scratch → CanVisit g P s 0 p (One q)
  verify_visit r =
      record {
        expand =
            record {
              accepted = r.accepted;
              inside = r.inside;
              blank = zero_blank (length scratch) 0 e;
              size = omega (arith, r.room, r.accepted.some, zero_length (length scratch) e);
            };
        inside = r.inside_q;
        points = r.points;
      }

  pub limited_search : {P : List ℕ} {q k : ℕ} {answers : List ℕ} → LimitedReady g P q k scratch answers → CanSearch g P s q k
  limited_search r =
      record {
        accepted = r.accepted;
        points = r.points;
        site = r.inside;
        some = r.some;
        blank = zero_blank (length scratch) 0 e;
        size = omega (arith, r.room, zero_length (length scratch) e);
      }

  pub lazy_search : {P : List ℕ} {q k : ℕ} → QueryReady g P q k scratch → CanSearch g P (take (lazy_words g k) s) q k
  lazy_search {k = k} r =
      record {
        accepted = r.accepted;
        points = r.points;
        site = r.inside;
        some = r.some;
        blank = part_blank (length scratch) (lazy_words g k) e;
        size = simp length-take (omega (arith, lazy_room r, zero_length (length scratch) e));
      }

  pub lazy_extend : {P : List ℕ} {q k : ℕ} {answers : List ℕ} → SearchReady g P q k scratch answers → CanExtend g P (take (lazy_words g k) s) answers q k
  lazy_extend {k = k} r =
      record {
        accepted = r.query.accepted;
        points = r.query.points;
        site = r.query.inside;
        blank = part_blank (length scratch) (lazy_words g k) e;
        size = simp length-take (omega (arith, lazy_room r.query, zero_length (length scratch) e));
        answers = r.places;
      }
