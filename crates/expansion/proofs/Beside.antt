-- An expansion reads no word before its area: where only such words change, its area and its search stay what they are.
-- Assumes nothing.
use Prim.Native.Nat.{ℕ, ◌+◌, ◌≤◌}
use mathlib.Core.Path.{◌≡◌, sym, ap, ◌∙◌}
use mathlib.Core.List.{List, ◌++◌}
use native.Mathlib.Omega.{arith}
use lib.Dec.{leb}
use lib.ListN.{length, get_or, take, drop, length-drop}
use lib.Seq.{ext_get_or, get_or-drop}
use Rattle.network.specs.Network.{Network}
use Rattle.network.specs.Accepted.{Accepted}
use Rattle.network.proofs.Counts.{count_same}
use Rattle.network.proofs.Lends.{first_size, first_after}
use Rattle.expansion.specs.NodeQueue.{node_at, NodeQueue}
use Rattle.expansion.specs.Area.{queue_base, queue_of, unsettled, LabelAt, HeldAt, AmongSettled, Area}
use Rattle.expansion.proofs.Origins.{Origin}
use Rattle.expansion.proofs.Steps.{waits, same_settled, requeue}
use Rattle.expansion.proofs.AreaSearch.{Searched}
use Rattle.expansion.proofs.Progress.{Progress}

-- ys is as long as xs, and its words from b on are those of xs
pub record Beside (xs ys : List ℕ) (b : ℕ) : Type 0 where
  pub size : length ys ≡ length xs
  pub words : (i : ℕ) → b ≤ i → get_or ys i 0 ≡ get_or xs i 0

-- the first b words were lent, and came back as zs
pub beside_first : (b : ℕ) (xs zs : List ℕ) → b ≤ length xs → length zs ≡ length (take b xs) → Beside xs (zs ++ drop b xs) b
beside_first b xs zs fits same = record { size = first_size b xs zs fits same; words = first_after b xs zs fits same }

module _ {xs ys : List ℕ} {b : ℕ} (same : Beside xs ys b) where
  pub drop_beside : (q : ℕ) → b ≤ q → drop q ys ≡ drop q xs
  drop_beside q h =
      ext_get_or 0 (drop q ys) (drop q xs)
      (simp length-drop (omega (arith, same.size)))
      (λ i l. get_or-drop q ys i 0 ∙ same.words (q + i) (omega arith) ∙ sym (get_or-drop q xs i 0))

  pub label_beside : (v : ℕ) → get_or ys (b + v) 0 ≡ get_or xs (b + v) 0
  label_beside v = same.words (b + v) (omega arith)

  pub label_at_beside : {n v l : ℕ} → LabelAt n xs b v l → LabelAt n ys b v l
  label_at_beside {n} {v} h = record { inside = h.inside; is = label_beside v ∙ h.is }

  pub beside_label_at : {n v l : ℕ} → LabelAt n ys b v l → LabelAt n xs b v l
  beside_label_at {n} {v} h = record { inside = h.inside; is = sym (label_beside v) ∙ h.is }

  place_beside : (n i : ℕ) → get_or ys (b + n + i) 0 ≡ get_or xs (b + n + i) 0
  place_beside n i = same.words (b + n + i) (omega arith)

  pub queue_beside : (n : ℕ) → queue_of n ys b ≡ queue_of n xs b
  queue_beside n = drop_beside (queue_base n b) (omega arith)

  unsettled_beside : (n v : ℕ) → unsettled n ys b v ≡ unsettled n xs b v
  unsettled_beside n v = ap (λ (w : ℕ). leb w n) (label_beside v)

  pub node_queue_beside : {n len : ℕ} → NodeQueue n xs b (queue_base n b) len → NodeQueue n ys b (queue_base n b) len
  node_queue_beside {n} q =
      record {
        few = q.few;
        low = q.low;
        room = omega (arith, q.room, same.size);
        fits = q.fits;
        queue = rw (queue_beside n) q.queue;
        inside = λ i h. rw (queue_beside n) (q.inside i h);
        seat = λ i h. rw (queue_beside n) (label_beside (node_at (queue_of n xs b) i) ∙ q.seat i h);
        waits = λ v i h w l. rw (queue_beside n) (q.waits v i h (sym (label_beside v) ∙ w) l);
      }

  pub area_beside : {n settled len : ℕ} → Area n xs b settled len → Area n ys b settled len
  area_beside {n} {settled} {len} a =
      record {
        queue = node_queue_beside a.queue;
        entries = λ k h. a.entries k (rw (queue_beside n) at h);
        nodes = λ i h. rw (place_beside n i) (a.nodes i h);
        rest = λ i h l. place_beside n i ∙ a.rest i h l;
        labelled = λ v h w. stands (a.labelled v h (rw (label_beside v) at w));
        low = λ v h w. rw (label_beside v) (a.low v h (rw (label_beside v) at w));
        counted = rw (count_same (unsettled n xs b) (unsettled n ys b) n (λ x h. unsettled_beside n x)) a.counted;
      }
    where
      stands : {v : ℕ} → AmongSettled n xs b settled v → AmongSettled n ys b settled v
      stands s = record { place = s.place; low = s.low; is = place_beside n s.place ∙ s.is }

  held_beside : {n len v l : ℕ} → HeldAt n xs b len v l → HeldAt n ys b len v l
  held_beside {n} h = record { parent = h.parent; inside = h.inside; from = h.from; holds = rw (queue_beside n) h.holds }

  beside_held : {n len v l : ℕ} → HeldAt n ys b len v l → HeldAt n xs b len v l
  beside_held {n} h = record { parent = h.parent; inside = h.inside; from = h.from; holds = rw (queue_beside n) at h.holds }

  module _ {g : Network} (ok : Accepted g) {s : Origin} {Open Seen : ℕ → Type 0} {len : ℕ} where
    pub search_beside : Searched g s Open Seen xs b len → Searched g s Open Seen ys b len
    search_beside e =
        same_settled (λ v l h. label_at_beside h) (λ v l h. beside_label_at h)
        (requeue ok e (λ x m h. waits m (omega arith) (held_beside h)) (λ x m h. e.held_walk x m (beside_held h)))

    pub progress_beside : {settled : ℕ} → Progress g s Open Seen xs b settled len → Progress g s Open Seen ys b settled len
    progress_beside p = record { area = area_beside p.area; searched = search_beside p.searched }
