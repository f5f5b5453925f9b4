-- The steps of an expansion on a node queue keep its area.
-- Assumes nothing.
use Prim.Native.Nat.{ℕ, zero, suc, ◌+◌, ◌*◌, ◌≤◌, ◌<◌}
use mathlib.Core.Path.{◌≡◌, refl, sym, ap, ◌∙◌}
use mathlib.Core.Bool.{true, false}
use mathlib.Core.Logic.{◌≢◌, ◌⊎◌, inl, inr, ⊎_elim}
use mathlib.Core.List.{List}
use native.Mathlib.Decide.{ℕ_discrete, dec_le}
use native.Mathlib.Omega.{arith}
use lib.Dec.{leb}
use lib.ListN.{length, get_or, set, drop, length-set}
use lib.Seq.{get_or-set_same, get_or-set_other, get_or-drop, drop-set-lt}
use borrow.Author.Tests.{le-leb, lt-leb}
use Rattle.network.specs.Count.{count}
use Rattle.network.specs.Network.{Network, node_count, neighbours_of, weights_of}
use Rattle.network.specs.Accepted.{Accepted}
use Rattle.network.proofs.Counts.{count_same, count_all, without, without_self, without_other, count_without}
use Rattle.network.proofs.Ranges.{arc_at}
use Rattle.network.proofs.NumberZero.{accepted_ranges}
use Rattle.expansion.specs.Queue.{Holds, key_at, key_of}
use Rattle.expansion.specs.Tags.{tag_of, node_of}
use Rattle.expansion.specs.Area.{queue_base, queue_of, NodeEntry, AmongSettled, Kept, Blank, PutAmong, arc_key, unsettled, Area, Moved, AtOrBelow, Followed}
use Rattle.expansion.proofs.QueueLaws.{empty_queue}
use Rattle.expansion.specs.NodeQueue.{node_at, NodeQueue, Unmoved, PushedNode, PoppedNode, OfferedNode}
use Rattle.expansion.proofs.NodeLaws.{free_not}

pub kept_trans : {xs ys zs : List ℕ} {b : ℕ} → Kept xs ys b → Kept ys zs b → Kept xs zs b
kept_trans k l = record { size = l.size ∙ k.size; words = λ i h. l.words i h ∙ k.words i h }

pub kept_same : {xs : List ℕ} {b : ℕ} → Kept xs xs b
kept_same = record { size = refl; words = λ i h. refl }

-- ---- Seats.

-- zeros are a node queue of no entries
pub node_blank : {n : ℕ} {xs : List ℕ} {b : ℕ} → Blank xs b → queue_base n b + 2 * n ≤ length xs → n ≤ 65535 → NodeQueue n xs b (queue_base n b) 0
node_blank {n} {xs} {b} blank room few =
    record {
      few = few;
      low = omega arith;
      room = room;
      fits = omega arith;
      queue = empty_queue (drop (queue_base n b) xs) (λ j. get_or-drop (queue_base n b) xs j 0 ∙ blank.zero (queue_base n b + j) (omega arith));
      inside = λ i h. absurd (omega arith);
      seat = λ i h. absurd (omega arith);
      waits = λ v i h w l. absurd (omega (arith, blank.zero (b + v) (omega arith)));
    }

-- a node that waits is not settled
pub held_low : {n : ℕ} {xs : List ℕ} {b at len : ℕ} → NodeQueue n xs b at len → (k : ℕ) → Holds (drop at xs) len k → get_or xs (b + node_of k) 0 ≤ n
held_low {n} {xs} {b} {at} {len} q k h =
    omega (arith, q.seat h.index h.inside, h.inside, q.fits, ap (λ (x : ℕ). get_or xs (b + node_of x) 0) h.is)

-- what an operation on the queue moves
module _ {n : ℕ} {xs ys : List ℕ} {b len more v : ℕ} (q : NodeQueue n xs b (queue_base n b) len) (r : NodeQueue n ys b (queue_base n b) more)
    (same : Unmoved n xs ys b (queue_base n b) v)
    (kept : (k : ℕ) → Holds (queue_of n xs b) len k → Holds (queue_of n ys b) more k ⊎ (node_of k ≡ v))
    (own : get_or xs (b + v) 0 ≤ n → get_or ys (b + v) 0 ≤ n) (fixed : n < get_or xs (b + v) 0 → get_or ys (b + v) 0 ≡ get_or xs (b + v) 0) where
  others : (u : ℕ) → u < n → u ≢ v → (w : ℕ) → get_or xs (b + u) 0 ≡ w → w ≤ n → get_or ys (b + u) 0 ≤ n
  others u h m zero e l = omega (arith, same.free u h m (inl e))
  others u h m (suc i) e l =
      let a = q.waits u i h e (omega arith) in
      ⊎_elim
      (λ c. omega (arith, held_low r (key_at (queue_of n xs b) i) c, ap (λ (x : ℕ). get_or ys (b + x) 0) a.1))
      (λ c. absurd (m (sym a.1 ∙ c)))
      (kept (key_at (queue_of n xs b) i) (record { index = i; inside = a.0; is = refl }))

  pub moved : Moved n xs ys b
  moved =
      record {
        size = same.size;
        before = same.before;
        places = λ i h. same.between (b + n + i) (omega arith) (omega arith);
        settled =
            λ u h l.
            elim (ℕ_discrete u v) [
              | yes e ↦ ap (λ (x : ℕ). get_or ys (b + x) 0) e ∙ fixed (omega (arith, ap (λ (x : ℕ). get_or xs (b + x) 0) e)) ∙ ap (λ (x : ℕ). get_or xs (b + x) 0) (sym e)
              | no m ↦ same.free u h m (inr l)
            ];
        others =
            λ u h l.
            elim (ℕ_discrete u v) [
              | yes e ↦ omega (arith, own (omega (arith, ap (λ (x : ℕ). get_or xs (b + x) 0) e)), ap (λ (x : ℕ). get_or ys (b + x) 0) e)
              | no m ↦ others u h m (get_or xs (b + u) 0) refl l
            ];
      }

pub moved_same : {n : ℕ} {xs : List ℕ} {b : ℕ} → Moved n xs xs b
moved_same = record { size = refl; before = λ j h. refl; places = λ i h. refl; settled = λ v h l. refl; others = λ v h l. l }

pub moved_trans : {n : ℕ} {xs ys zs : List ℕ} {b : ℕ} → Moved n xs ys b → Moved n ys zs b → Moved n xs zs b
moved_trans p q =
    record {
      size = q.size ∙ p.size;
      before = λ j h. q.before j h ∙ p.before j h;
      places = λ i h. q.places i h ∙ p.places i h;
      settled = λ v h l. q.settled v h (omega (arith, p.settled v h l)) ∙ p.settled v h l;
      others = λ v h l. q.others v h (p.others v h l);
    }

-- an entry is taken
module _ {n : ℕ} {xs ys : List ℕ} {b len key : ℕ} (q : NodeQueue n xs b (queue_base n b) len) (p : PoppedNode n xs ys b (queue_base n b) len key) where
  pub popped_moved : Moved n xs ys b
  popped_moved =
      moved q p.queue p.frame (λ k h. ⊎_elim (λ a. inl a) (λ e. inr (ap node_of e)) (p.popped.kept k h))
      (λ l. omega (arith, p.gone)) (λ l. absurd (omega (arith, held_low q key p.popped.was)))

-- an entry is offered
module _ {n : ℕ} {xs ys : List ℕ} {b len more key : ℕ} (q : NodeQueue n xs b (queue_base n b) len) (o : OfferedNode n xs ys b (queue_base n b) len more key) where
  pub offered_moved : Moved n xs ys b
  offered_moved =
      moved q o.queue o.frame (λ k h. ⊎_elim (λ a. inl a) (λ a. inr a.0) (o.kept k h))
      (λ l. let a = o.waiting l in omega (arith, held_low o.queue a.0 a.1, ap (λ (x : ℕ). get_or ys (b + x) 0) a.2))
      (λ l. ap (λ (z : List ℕ). get_or z (b + node_of key) 0) (o.settled l))

  pub offered_here : get_or xs (b + node_of key) 0 ≤ n → AtOrBelow (queue_of n ys b) more key
  offered_here l = let a = o.waiting l in record { key = a.0; holds = a.1; node = a.2; low = a.3 }

  -- what waits at or below a key goes on to
  pub offered_on : (k : ℕ) → AtOrBelow (queue_of n xs b) len k → AtOrBelow (queue_of n ys b) more k
  offered_on k a =
      ⊎_elim
      (λ h. record { key = a.key; holds = h; node = a.node; low = a.low })
      (λ h.
      let w = offered_here (omega (arith, held_low q a.key a.holds, ap (λ (x : ℕ). get_or xs (b + x) 0) h.0)) in
      record { key = w.key; holds = w.holds; node = w.node ∙ sym h.0 ∙ a.node; low = omega (arith, w.low, h.1, a.low) })
      (o.kept a.key a.holds)

-- ---- The arcs of a node are followed, place by place.
pub followed_none : {g : Network} {xs : List ℕ} {b len v l : ℕ} → NodeQueue (node_count g) xs b (queue_base (node_count g) b) len → Followed g xs xs b len len v l 0
followed_none q =
    record {
      queue = q;
      frame = moved_same;
      old = λ k h. inl h;
      kept = λ k h. record { key = k; holds = h; node = refl; low = omega arith };
      there = λ j h l. absurd (omega arith);
    }

module _ {g : Network} {xs ys zs : List ℕ} {b len more most v l j : ℕ} (f : Followed g xs ys b len more v l j)
    (o : OfferedNode (node_count g) ys zs b (queue_base (node_count g) b) more most (arc_key g v l j))
    (inside : get_or (neighbours_of g v) j 0 < node_count g) (node : node_of (arc_key g v l j) ≡ get_or (neighbours_of g v) j 0) where
  low_before : get_or ys (b + node_of (arc_key g v l j)) 0 ≤ node_count g → get_or xs (b + get_or (neighbours_of g v) j 0) 0 ≤ node_count g
  low_before h =
      elim (dec_le (get_or xs (b + get_or (neighbours_of g v) j 0) 0) (node_count g)) [
        | yes a ↦ a
        | no a ↦
            absurd
            (omega
            (arith, f.frame.settled (get_or (neighbours_of g v) j 0) inside (omega arith), ap (λ (x : ℕ). get_or ys (b + x) 0) node))
      ]

  pub followed_more : Followed g xs zs b len most v l (j + 1)
  followed_more =
      record {
        queue = o.queue;
        frame = moved_trans f.frame (offered_moved f.queue o);
        old =
            λ k h.
            ⊎_elim
            (λ a. ⊎_elim (λ c. inl c) (λ c. inr (record { place = c.place; low = omega (arith, c.low); puts = c.puts; is = c.is })) (f.old k a))
            (λ a. inr (record { place = j; low = omega arith; puts = low_before a.1; is = a.0 }))
            (o.old k h);
        kept = λ k h. offered_on f.queue o k (f.kept k h);
        there =
            λ i h w.
            elim (ℕ_discrete i j) [
              | yes e ↦
                  rw e
                  (offered_here f.queue o
                  (omega (arith, f.frame.others (get_or (neighbours_of g v) j 0) inside (rw e at w), ap (λ (x : ℕ). get_or ys (b + x) 0) node)))
              | no m ↦ offered_on f.queue o (arc_key g v l i) (f.there i (omega arith) w)
            ];
      }

-- ---- The area.
module _ {n : ℕ} {xs ys : List ℕ} {b settled len : ℕ} (a : Area n xs b settled len) (m : Moved n xs ys b) where
  unsettled_same : (v : ℕ) → v < n → unsettled n ys b v ≡ unsettled n xs b v
  unsettled_same v h =
      elim (dec_le (get_or xs (b + v) 0) n) [
        | yes l ↦ le-leb (get_or ys (b + v) 0) n (m.others v h l) ∙ sym (le-leb (get_or xs (b + v) 0) n l)
        | no l ↦ ap (λ (w : ℕ). leb w n) (m.settled v h (omega arith))
      ]

  settled_before : (v : ℕ) → v < n → n < get_or ys (b + v) 0 → n < get_or xs (b + v) 0
  settled_before v h l = elim (dec_le (get_or xs (b + v) 0) n) [ yes k ↦ absurd (omega (arith, m.others v h k)) | no k ↦ omega arith ]

  inside : (i : ℕ) → i < settled → i < n
  inside i h = omega (arith, a.counted)

  stands : {v : ℕ} → AmongSettled n xs b settled v → AmongSettled n ys b settled v
  stands s = record { place = s.place; low = s.low; is = m.places s.place (inside s.place s.low) ∙ s.is }

  pub area_moved : {more : ℕ} → NodeQueue n ys b (queue_base n b) more → ((k : ℕ) → Holds (queue_of n ys b) more k → NodeEntry n settled k) → Area n ys b settled more
  area_moved q entries =
      record {
        queue = q;
        entries = entries;
        nodes = λ i h. rw (m.places i (inside i h)) (a.nodes i h);
        rest = λ i h l. m.places i l ∙ a.rest i h l;
        labelled = λ v h l. stands (a.labelled v h (settled_before v h l));
        low = λ v h l. let k = settled_before v h l in omega (arith, m.settled v h k, a.low v h k);
        counted = rw (count_same (unsettled n xs b) (unsettled n ys b) n unsettled_same) a.counted;
      }

-- nothing waits, and no node is settled
module _ {n : ℕ} {xs : List ℕ} {b : ℕ} (blank : Blank xs b) (room : queue_base n b + 2 * n ≤ length xs) (few : n ≤ 65535) where
  none : (v : ℕ) → get_or xs (b + v) 0 ≡ 0
  none v = blank.zero (b + v) (omega arith)

  pub area_blank : Area n xs b 0 0
  area_blank =
      record {
        queue = node_blank blank room few;
        entries = λ k e. absurd (omega (arith, e.inside));
        nodes = λ i l. absurd (omega arith);
        rest = λ i l m. blank.zero (b + n + i) (omega arith);
        labelled = λ v l w. absurd (omega (arith, none v));
        low = λ v l w. absurd (omega (arith, none v));
        counted = omega (arith, count_same (λ _. true) (unsettled n xs b) n (λ v l. le-leb (get_or xs (b + v) 0) n (omega (arith, none v))), count_all n);
      }

pub key_own : (l v u : ℕ) → v < 65536 → u < 65536 → node_of (key_of l (tag_of v u)) ≡ v
key_own l v u h k = omega arith

-- a source more waits
module _ {n : ℕ} {xs ys : List ℕ} {b len source : ℕ} (a : Area n xs b 0 len) (h : source < n) (new : get_or xs (b + source) 0 ≡ 0)
    (p : PushedNode n xs ys b (queue_base n b) len (key_of 0 (tag_of source source))) where
  own : node_of (key_of 0 (tag_of source source)) ≡ source
  own = let low : source < 65536 = omega (arith, a.queue.few) in key_own 0 source source low low

  pub pushed_moved : Moved n xs ys b
  pushed_moved =
      moved a.queue p.queue p.frame (λ k x. inl ((p.holds k).1 (inl x)))
      (λ l. held_low p.queue (key_of 0 (tag_of source source)) ((p.holds (key_of 0 (tag_of source source))).1 (inr refl)))
      (λ l. absurd (omega (arith, ap (λ (x : ℕ). get_or xs (b + x) 0) own)))

  pub area_pushed : Area n ys b 0 (len + 1)
  area_pushed =
      area_moved a pushed_moved p.queue
      (λ k e.
      ⊎_elim
      (λ x. a.entries k x)
      (λ x. record { label = 0; node = source; parent = source; is = x; inside = h; from = h; low = omega arith })
      ((p.holds k).0 e))

-- the source waits alone
module _ {n : ℕ} {xs ys : List ℕ} {b source : ℕ} (blank : Blank xs b) (room : queue_base n b + 2 * n ≤ length xs) (few : n ≤ 65535) (h : source < n)
    (p : PushedNode n xs ys b (queue_base n b) 0 (key_of 0 (tag_of source source))) where
  pub started_moved : Moved n xs ys b
  started_moved = pushed_moved (area_blank blank room few) h (blank.zero (b + source) (omega arith)) p

  pub area_start : Area n ys b 0 1
  area_start = area_pushed (area_blank blank room few) h (blank.zero (b + source) (omega arith)) p

-- v is settled at label l: its seat, and its place behind the others
abbrev pub settled_as : ℕ → List ℕ → ℕ → ℕ → ℕ → ℕ → List ℕ
settled_as n xs b settled v l = set (set xs (b + v) (l + n + 1)) (b + n + settled) v

module _ {n : ℕ} {xs : List ℕ} {b settled len : ℕ} (a : Area n xs b settled len) (v l : ℕ) (h : v < n) (new : get_or xs (b + v) 0 ≡ 0) where
  unsettled_v : unsettled n xs b v ≡ true
  unsettled_v = le-leb (get_or xs (b + v) 0) n (omega arith)

  -- a node is not settled, so a place is left
  pub place_left : settled < n
  place_left = omega (arith, a.counted, count_without (unsettled n xs b) v n h unsettled_v)

  zs : List ℕ
  zs = settled_as n xs b settled v l

  size : length zs ≡ length xs
  unfolding zs
  size = simp length-set

  at_label : get_or zs (b + v) 0 ≡ suc (n + l)
  unfolding zs
  at_label =
      get_or-set_other (set xs (b + v) (l + n + 1)) (b + n + settled) (b + v) v 0 (omega arith)
      ∙ get_or-set_same xs (b + v) (l + n + 1) 0 (omega (arith, a.queue.room)) ∙ omega arith

  at_other : (i : ℕ) → i ≢ b + v → i ≢ b + n + settled → get_or zs i 0 ≡ get_or xs i 0
  unfolding zs
  at_other i p q =
      get_or-set_other (set xs (b + v) (l + n + 1)) (b + n + settled) i v 0 q ∙ get_or-set_other xs (b + v) i (l + n + 1) 0 p

  at_place : get_or zs (b + n + settled) 0 ≡ v
  unfolding zs
  at_place = get_or-set_same (set xs (b + v) (l + n + 1)) (b + n + settled) v 0 (simp length-set (omega (arith, a.queue.room, place_left)))

  same_queue : queue_of n zs b ≡ queue_of n xs b
  unfolding zs
  same_queue =
      drop-set-lt (queue_base n b) (set xs (b + v) (l + n + 1)) (b + n + settled) v (omega (arith, place_left))
      ∙ drop-set-lt (queue_base n b) xs (b + v) (l + n + 1) (omega arith)

  other_label : (x : ℕ) → x < n → x ≢ v → get_or zs (b + x) 0 ≡ get_or xs (b + x) 0
  other_label x k ne = at_other (b + x) (omega arith) (omega arith)

  other_place : (i : ℕ) → i < n → i ≢ settled → get_or zs (b + n + i) 0 ≡ get_or xs (b + n + i) 0
  other_place i k ne = at_other (b + n + i) (omega arith) (omega arith)

  settled_v : unsettled n zs b v ≡ false
  settled_v = lt-leb (get_or zs (b + v) 0) n (omega (arith, at_label))

  one_fewer : suc (count (unsettled n zs b) n) ≡ count (unsettled n xs b) n
  one_fewer =
      ap suc (count_same (without (unsettled n xs b) v) (unsettled n zs b) n fewer) ∙ count_without (unsettled n xs b) v n h unsettled_v
    where
      fewer : (x : ℕ) → x < n → unsettled n zs b x ≡ without (unsettled n xs b) v x
      fewer x k =
          elim (ℕ_discrete x v) [
            | yes e ↦ rw e (settled_v ∙ sym (without_self (unsettled n xs b) v))
            | no ne ↦ ap (λ (w : ℕ). leb w n) (other_label x k ne) ∙ sym (without_other (unsettled n xs b) v x ne)
          ]

  stands_still : {x : ℕ} → AmongSettled n xs b settled x → AmongSettled n zs b (settled + 1) x
  stands_still s =
      record { place = s.place; low = omega (arith, s.low); is = other_place s.place (omega (arith, s.low, place_left)) (omega (arith, s.low)) ∙ s.is }

  -- v does not wait, so the seats of those that do are as they were
  queue_still : NodeQueue n zs b (queue_base n b) len
  queue_still =
      let q = a.queue in
      record {
        few = q.few;
        low = q.low;
        room = omega (arith, q.room, size);
        fits = q.fits;
        queue = rw same_queue q.queue;
        inside = λ i k. rw same_queue (q.inside i k);
        seat =
            λ i k.
            rw same_queue (other_label (node_at (queue_of n xs b) i) (q.inside i k) (free_not q v i (inl new) k) ∙ q.seat i k);
        waits =
            λ u i k w m.
            elim (ℕ_discrete u v) [
              | yes e ↦ absurd (omega (arith, at_label, ap (λ (x : ℕ). get_or zs (b + x) 0) e))
              | no ne ↦ rw same_queue (q.waits u i k (sym (other_label u k ne) ∙ w) m)
            ];
      }

  keeps : l ≤ 65535 * settled → Area n zs b (settled + 1) len
  keeps fits =
      record {
        queue = queue_still;
        entries = λ k e. later (a.entries k (rw same_queue at e));
        nodes =
            λ i k.
            elim (ℕ_discrete i settled) [
              | yes e ↦ rw (e, at_place) h
              | no ne ↦ rw (other_place i (omega (arith, place_left)) ne) (a.nodes i (omega arith))
            ];
        rest = λ i k m. other_place i m (omega arith) ∙ a.rest i (omega arith) m;
        labelled =
            λ x k w.
            elim (ℕ_discrete x v) [
              | yes e ↦ record { place = settled; low = omega arith; is = at_place ∙ sym e }
              | no ne ↦ stands_still (a.labelled x k (rw (other_label x k ne) at w))
            ];
        low =
            λ x k w.
            elim (ℕ_discrete x v) [
              | yes e ↦ rw e (omega (arith, at_label))
              | no ne ↦ rw (other_label x k ne) (omega (arith, a.low x k (rw (other_label x k ne) at w)))
            ];
        counted = omega (arith, a.counted, one_fewer);
      }
    where
      later : {k : ℕ} → NodeEntry n settled k → NodeEntry n (settled + 1) k
      later e =
          record { label = e.label; node = e.node; parent = e.parent; is = e.is; inside = e.inside; from = e.from; low = omega (arith, e.low) }

  pub area_settle : l ≤ 65535 * settled → Area n (settled_as n xs b settled v l) b (settled + 1) len
  unfolding zs
  area_settle fits = keeps fits

  pub label_settle : get_or (settled_as n xs b settled v l) (b + v) 0 ≡ suc (n + l)
  unfolding zs
  label_settle = at_label

  pub queue_settle : queue_of n (settled_as n xs b settled v l) b ≡ queue_of n xs b
  unfolding zs
  queue_settle = same_queue

  pub others_settle : (x : ℕ) → x < n → x ≢ v → get_or (settled_as n xs b settled v l) (b + x) 0 ≡ get_or xs (b + x) 0
  unfolding zs
  others_settle = other_label

  pub frame_settle : Kept xs (settled_as n xs b settled v l) b
  unfolding zs
  frame_settle = record { size = size; words = λ i k. at_other i (omega arith) (omega arith) }

-- the arcs of a node that is settled at label l are followed
module _ {g : Network} (ok : Accepted g) {xs ys : List ℕ} {b settled len more : ℕ} (a : Area (node_count g) xs b settled len) (v l : ℕ)
    (h : v < node_count g) (is : get_or xs (b + v) 0 ≡ suc (node_count g + l)) (f : Followed g xs ys b len more v l (length (neighbours_of g v))) where
  put_in : {Puts : ℕ → Type 0} (k : ℕ) → PutAmong (arc_key g v l) Puts (length (neighbours_of g v)) k → NodeEntry (node_count g) settled k
  put_in k p =
      let x = arc_at (accepted_ranges ok) v h p.place p.low in
      record {
        label = l + get_or (weights_of g v) p.place 0;
        node = get_or (neighbours_of g v) p.place 0;
        parent = v;
        is = p.is;
        inside = ok.leads_in x;
        from = h;
        low = omega (arith, ok.weight_high x, a.low v h (omega arith));
      }

  pub area_followed : Area (node_count g) ys b settled more
  area_followed = area_moved a f.frame f.queue (λ k e. ⊎_elim (λ o. a.entries k o) (λ p. put_in k p) (f.old k e))
