-- An expansion under way settles a node and does not follow its arcs; and words before its area change between two steps.
-- Assumes nothing.
use Prim.Native.Nat.{ℕ, ◌+◌, ◌<◌}
use mathlib.Core.Path.{◌≡◌, refl, sym, ◌∙◌}
use mathlib.Core.Logic.{◌⊎◌, inl, inr, ⊎_elim}
use mathlib.Core.List.{List}
use native.Mathlib.Omega.{arith}
use lib.ListN.{get_or}
use Rattle.network.specs.Network.{Network, node_count}
use Rattle.network.specs.Accepted.{Accepted}
use Rattle.expansion.specs.Tags.{node_of}
use Rattle.expansion.specs.Area.{queue_base, queue_of, HeldAt, Took}
use Rattle.expansion.proofs.Beside.{Beside, drop_beside, label_beside, node_queue_beside}
use Rattle.expansion.specs.NodeQueue.{Unmoved, PoppedNode}
use Rattle.expansion.proofs.Origins.{Origin}
use Rattle.expansion.proofs.Search.{AtMost, Leads}
use Rattle.expansion.proofs.Steps.{Removes, settle_not_open}
use Rattle.expansion.proofs.AreaLaws.{moved_same, settled_as, area_settle, queue_settle}
use Rattle.expansion.proofs.AreaSearch.{AndOne, search_took, settle_marks, took_area, took_word, took_least, took_low, took_new}
use Rattle.expansion.proofs.Progress.{Progress}

module _ {g : Network} (ok : Accepted g) {s : Origin} {Open Seen : ℕ → Type 0} {xs : List ℕ} {b settled len : ℕ} (p : Progress g s Open Seen xs b settled len)
    {ys : List ℕ} {left l v u : ℕ} (t : Took (node_count g) xs ys b len left l v u) where
  removes : Removes (AndOne (node_count g) ys b left v l) (HeldAt (node_count g) (settled_as (node_count g) ys b settled v l) b left) v
  removes = record { kept = kept; old = old }
    where
      same : queue_of (node_count g) (settled_as (node_count g) ys b settled v l) b ≡ queue_of (node_count g) ys b
      same = queue_settle (took_area ok p.area p.searched t) v l t.inside (took_word ok p.area p.searched t)

      kept : (x m : ℕ) → AndOne (node_count g) ys b left v l x m → AtMost (HeldAt (node_count g) (settled_as (node_count g) ys b settled v l) b left x) m ⊎ (x ≡ v)
      kept x m (inl h) =
          inl (record { label = m; low = omega arith; has = record { parent = h.parent; inside = h.inside; from = h.from; holds = rw same h.holds } })
      kept x m (inr q) = inr q.0

      old : (x m : ℕ) → HeldAt (node_count g) (settled_as (node_count g) ys b settled v l) b left x m → AndOne (node_count g) ys b left v l x m
      old x m h = inl (record { parent = h.parent; inside = h.inside; from = h.from; holds = rw same at h.holds })

  -- the search does not follow the arcs of the node that it settles
  pub progress_stopped : Leads g s Open Seen → (Open v → ⊥) → Progress g s Open Seen (settled_as (node_count g) ys b settled v l) b (settled + 1) left
  progress_stopped leads closed =
      record {
        area =
            area_settle (took_area ok p.area p.searched t) v l t.inside (took_word ok p.area p.searched t)
            (took_low ok p.area p.searched t);
        searched =
            settle_not_open ok (search_took ok p.area p.searched t) v l (inr (refl, refl))
            (settle_marks ok (took_area ok p.area p.searched t) l t.inside (took_word ok p.area p.searched t) moved_same) leads
            (took_least ok p.area p.searched t) (took_new ok p.area p.searched t) closed removes;
      }

-- words before the area change, in the same way before and after an entry is taken
module _ (n : ℕ) {xs xs' ys ys' : List ℕ} {b : ℕ} (old : Beside xs xs' b) (new : Beside ys ys' b) (front : (i : ℕ) → i < b → get_or ys' i 0 ≡ get_or xs' i 0) where
  queue_old : queue_of n xs' b ≡ queue_of n xs b
  queue_old = drop_beside old (queue_base n b) (omega arith)

  queue_new : queue_of n ys' b ≡ queue_of n ys b
  queue_new = drop_beside new (queue_base n b) (omega arith)

  unmoved_beside : {v : ℕ} → Unmoved n xs ys b (queue_base n b) v → Unmoved n xs' ys' b (queue_base n b) v
  unmoved_beside m =
      record {
        size = new.size ∙ m.size ∙ sym old.size;
        before = front;
        between = λ j h l. new.words j (omega arith) ∙ m.between j h l ∙ sym (old.words j (omega arith));
        free =
            λ u h o f.
            label_beside new u
            ∙ m.free u h o (⊎_elim (λ z. inl (sym (label_beside old u) ∙ z)) (λ z. inr (omega (arith, label_beside old u))) f)
            ∙ sym (label_beside old u);
      }

  popped_beside : {len key : ℕ} → PoppedNode n xs ys b (queue_base n b) len key → PoppedNode n xs' ys' b (queue_base n b) len key
  popped_beside {len} {key} p =
      record {
        queue = node_queue_beside new p.queue;
        frame = unmoved_beside p.frame;
        popped = rw (queue_old, queue_new) p.popped;
        gone = label_beside new (node_of key) ∙ p.gone;
      }

  pub took_beside : {len left l v u : ℕ} → Took n xs ys b len left l v u → Took n xs' ys' b len left l v u
  took_beside t =
      record {
        some = t.some;
        fewer = t.fewer;
        inside = t.inside;
        tagged = t.tagged;
        first = λ x m h. t.first x m (record { parent = h.parent; inside = h.inside; from = h.from; holds = rw queue_old at h.holds });
        popped = popped_beside t.popped;
      }
