-- The answers of nearest: the words that are copied are the ids and the distances of the definition.
-- Assumes nothing.
use Prim.Native.Nat.{ℕ, ◌+◌, ◌*◌}
use mathlib.Core.Path.{◌≡◌, sym, ap, ◌∙◌}
use mathlib.Core.List.{List, map}
use native.Mathlib.Omega.{arith}
use lib.ListN.{length, get_or, length-map, get_or-map}
use Rattle.network.specs.Count.{tabulate}
use Rattle.network.specs.Network.{Network}
use Rattle.network.specs.Nearest.{nearest}
use Rattle.network.proofs.Tabulate.{tabulate_list}
use Rattle.expansion.specs.Found.{ListedIn}
use Rattle.site_calls.specs.Nearest.{nearest_ids, nearest_distances}

module _ {g : Network} {P : List ℕ} {node e k : ℕ} {ys : List ℕ} {r : ℕ} (count : r ≡ length (nearest g P node e k)) (listed : ListedIn g P node e k ys r) where
  pub copied_ids : tabulate (λ i. get_or ys (k + i) 0) r ≡ nearest_ids g P node e k
  unfolding nearest_ids
  copied_ids =
      ap (tabulate (λ i. get_or ys (k + i) 0)) (count ∙ sym (length-map (nearest g P node e k) (λ x. x.0)))
      ∙ tabulate_list (λ i. get_or ys (k + i) 0) (map (λ x. x.0) (nearest g P node e k))
      (λ i l.
      ap (λ (x : ℕ × ℕ). x.0) (listed.entry i (omega (arith, count, length-map (nearest g P node e k) (λ x. x.0))))
      ∙ sym (get_or-map (λ (x : ℕ × ℕ). x.0) (nearest g P node e k) i (0, 0)))

  pub copied_distances : tabulate (λ i. get_or ys (2 * k + i) 0) r ≡ nearest_distances g P node e k
  unfolding nearest_distances
  copied_distances =
      ap (tabulate (λ i. get_or ys (2 * k + i) 0)) (count ∙ sym (length-map (nearest g P node e k) (λ x. x.1)))
      ∙ tabulate_list (λ i. get_or ys (2 * k + i) 0) (map (λ x. x.1) (nearest g P node e k))
      (λ i l.
      ap (λ (x : ℕ × ℕ). x.1) (listed.entry i (omega (arith, count, length-map (nearest g P node e k) (λ x. x.1))))
      ∙ sym (get_or-map (λ (x : ℕ × ℕ). x.1) (nearest g P node e k) i (0, 0)))
