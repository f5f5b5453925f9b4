-- A table whose rows are sorted, sound, sourced and closed under arcs is the exact table: it is a partial table that holds nothing.
-- Assumes nothing.
use Prim.Native.Nat.{ℕ, ◌<◌}
use mathlib.Core.Path.{◌≡◌}
use mathlib.Core.Logic.{inl, ⊎_elim}
use mathlib.Core.List.{List, Memᴰ}
use native.Mathlib.Omega.{arith}
use Rattle.network.specs.Network.{Network, node_count}
use Rattle.network.specs.Accepted.{Accepted}
use Rattle.network.specs.Distance.{NONE, dist}
use Rattle.network.specs.Nearest.{nearest}
use Rattle.network.specs.Rows.{pad, row}
use Rattle.network.proofs.Ordered.{below_most}
use Rattle.network.proofs.Rank.{Near}
use Rattle.network.proofs.Rows.{nearest_unique}
use Rattle.rows.specs.Exact.{Sorted, Table}
use Rattle.rows.proofs.Partial.{Partial, reached, reaches, no_more_before, as_many_before, near_or_held}

module _ {g : Network} (ok : Accepted g) {P : List ℕ} {K : ℕ} {T : ℕ → List (ℕ × ℕ)} (tab : Table g P K T) where
  partial : Partial g P K T (λ i p d. ⊥)
  partial =
      record {
        sorted = tab.sorted;
        sound = tab.sound;
        source = λ i h a. inl (tab.source i h a);
        closed = λ r p d m. inl (tab.closed r p d m);
      }

  -- what is near stands in its row
  near_in : (i p : ℕ) → i < node_count g → Near g P i NONE K p → Memᴰ (p, dist g i p) (T i)
  near_in i p h r = ⊎_elim (λ m. m) (λ a. absurd a.held) (near_or_held ok partial i p h r)

  -- so as many stand in it before each key as in the exact row: it is that row
  pub exact : (i : ℕ) → i < node_count g → T i ≡ nearest g P i NONE K
  exact i h =
      nearest_unique ok P i NONE K (T i) s.ordered
      (λ y m. omega (arith, (reached ok partial i y.0 y.1 h m).inside, ok.few))
      (λ l.
      omega (
        arith,
        no_more_before ok s (reaches ok partial i h) l,
        as_many_before ok s (reaches ok partial i h) l (λ y r o. near_in i y h r),
        below_most l (T i),
        s.short,
      ))
    where
      s : Sorted P K (T i)
      s = tab.sorted i h

  pub exact_row : (i : ℕ) → i < node_count g → pad K (T i) ≡ row g P K i
  unfolding row
  exact_row i h = rw (exact i h)
