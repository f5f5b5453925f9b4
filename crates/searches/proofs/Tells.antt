-- A turn of a search that stops behind the beaten nodes: a node is taken at a label and looked at. How many of its nearest points are found tells
-- whether it is expanded or beaten; and what the turn leaves of the words before the area, and of the labels.
-- Assumes nothing.
use Prim.Native.Nat.{ℕ, ◌≤◌, ◌<◌}
use mathlib.Core.Path.{◌≡◌, ◌∙◌}
use mathlib.Core.Bool.{true}
use mathlib.Core.Logic.{◌⊎◌, inl, inr, ⊎_elim}
use mathlib.Core.List.{List}
use native.Mathlib.Omega.{arith}
use lib.ListN.{length, get_or}
use Rattle.network.specs.Network.{Network, node_count}
use Rattle.network.specs.Accepted.{Accepted}
use Rattle.network.specs.Points.{is_expanded}
use Rattle.network.specs.Nearest.{nearest}
use Rattle.network.proofs.Rows.{nearest_length}
use Rattle.expansion.specs.Area.{LabelAt, Moved, Took}
use Rattle.expansion.proofs.Origins.{Origin, one}
use Rattle.expansion.proofs.Search.{Leads}
use Rattle.expansion.proofs.AreaLaws.{settled_as, frame_settle}
use Rattle.expansion.proofs.AreaSearch.{label_back, took_area, took_word, took_moved, took_exact, took_held, settle_marks}
use Rattle.expansion.proofs.Progress.{Progress}
use Rattle.searches.proofs.Beaten.{Beaten, Unbeaten, stops, goes_on}
use Rattle.searches.proofs.Answers.{come_expanded}

module _ {g : Network} (ok : Accepted g) {o : Origin} {Open Seen : ℕ → Type 0} {xs : List ℕ} {b settled len : ℕ} (p : Progress g o Open Seen xs b settled len)
    {ys : List ℕ} {left l v u : ℕ} (t : Took (node_count g) xs ys b len left l v u) where
  -- r points were found: fewer than k, and the node is unbeaten; k, and it is beaten, where the search answers for the unbeaten nodes
  module _ (P : List ℕ) (k : ℕ) where
    pub tells_unbeaten : {r : ℕ} → r ≡ length (nearest g P v l k) → r < k → Unbeaten g P o k v
    tells_unbeaten n h =
        goes_on g P o k v l p.searched.lawful (p.searched.held_walk v l (took_held ok p.area p.searched t)) (omega (arith, nearest_length g P v l k))

    pub tells_beaten : Leads g o Open Seen → (Unbeaten g P o k v → Seen v) → {r : ℕ} → r ≡ length (nearest g P v l k) → k ≤ r → Beaten g P o k v
    tells_beaten leads sees n h =
        stops g P o k v l
        (λ o. took_exact ok p.area p.searched t leads (sees o))
        (omega (arith, nearest_length g P v l k))

  -- ws is the area in which the node is settled, and perhaps its arcs are followed
  module _ {ws : List ℕ} (same : Moved (node_count g) (settled_as (node_count g) ys b settled v l) ws b) where
    pub front_kept : (i : ℕ) → i < b → get_or ws i 0 ≡ get_or xs i 0
    front_kept i h =
        same.before i h
        ∙ (frame_settle (took_area ok p.area p.searched t) v l t.inside (took_word ok p.area p.searched t)).words i h
        ∙ t.popped.frame.before i h

    pub labels_then : (x m : ℕ) → LabelAt (node_count g) ws b x m → LabelAt (node_count g) xs b x m ⊎ ((x ≡ v) × (m ≡ l))
    labels_then x m h =
        ⊎_elim
        (λ o. inl (label_back (took_moved ok p.area p.searched t) x m o))
        (λ s. inr s)
        ((settle_marks ok (took_area ok p.area p.searched t) l t.inside (took_word ok p.area p.searched t) same).old x m h)

-- from a site an unbeaten node is expanded
module _ {g : Network} (ok : Accepted g) {q : ℕ} {Open Seen : ℕ → Type 0} {xs : List ℕ} {b settled len : ℕ} (p : Progress g (one g q) Open Seen xs b settled len)
    {ys : List ℕ} {left l v u : ℕ} (t : Took (node_count g) xs ys b len left l v u) (P : List ℕ) (k : ℕ) where
  pub tells_expanded : {r : ℕ} → r ≡ length (nearest g P v l k) → r < k → is_expanded g P q k v ≡ true
  tells_expanded n h =
      come_expanded ok P q k v (p.searched.held_walk v l (took_held ok p.area p.searched t)) (tells_unbeaten ok p t P k n h)
