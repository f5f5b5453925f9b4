-- Where the table query begins, with all words 0, and where it ends: the answers are the nodes with a found flag, and all words are 0 again.
-- Assumes nothing.
use Prim.Native.Nat.{ℕ, ◌+◌, ◌*◌}
use mathlib.Core.Path.{◌≡◌, ap, ◌∙◌}
use mathlib.Core.List.{List}
use native.Mathlib.Omega.{arith}
use lib.Dec.{eqb}
use lib.ListN.{length, get_or, replicate, length-replicate}
use borrow.Author.Tests.{eqb-false, not-true}
use Rattle.network.specs.Network.{Network, node_count}
use Rattle.network.specs.Count.{select}
use Rattle.network.specs.Points.{is_listed, listed}
use Rattle.network.specs.Answers.{answered}
use Rattle.network.proofs.Counts.{select_same}
use Rattle.expansion.proofs.Settled.{zero_blank}
use Rattle.searches.specs.Eager.{is_found}
use Rattle.network.specs.Rows.{IsTable}
use Rattle.query.specs.Query.{CanExploreQuery, QueryExplored, CanQuery, QueryLeft}

module _ {g : Network} {P ids dists xs old : List ℕ} {q k K : ℕ} (c : CanQuery g P ids dists xs old q k K) where
  pub begun : CanExploreQuery g P ids dists xs (6 * node_count g) q k K
  begun = record { asked = c.asked; all_ids = c.all_ids; base = omega arith; blank = c.blank; size = omega (arith, c.size) }

  module _ {zs : List ℕ} (e : QueryExplored g P ids dists q k K xs zs) where
    exactly : IsTable g P K ids dists → select (is_found (node_count g) zs) (node_count g) ≡ listed g P q k
    unfolding listed
    exactly t = select_same (is_found (node_count g) zs) (is_listed g P q k) (node_count g) (e.right t)

    pub queried : {ys new : List ℕ} {size : ℕ} → new ≡ answered (select (is_found (node_count g) zs) (node_count g)) old
        → size ≡ length (select (is_found (node_count g) zs) (node_count g)) → ys ≡ replicate (length zs) 0
        → QueryLeft g P ids dists q k K xs ys old new size
    queried answers sized wiped =
        record {
          some =
              record {
                test = is_found (node_count g) zs;
                points =
                    λ p h a.
                    e.only p h (eqb-false (get_or zs (node_count g + p) 0) 0 (not-true (eqb (get_or zs (node_count g + p) 0) 0) a));
                answers = answers;
                sized = sized;
              };
          answers = λ t. answers ∙ ap (λ (l : List ℕ). answered l old) (exactly t);
          sized = λ t. sized ∙ ap length (exactly t);
          area =
              record {
                frame = record { size = ap length wiped ∙ length-replicate (length zs) 0 ∙ e.size; words = λ i h. absurd (omega arith) };
                blank = zero_blank (length zs) 0 wiped;
              };
        }
