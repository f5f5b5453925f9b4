-- Laws of the node queue: it has no more entries than nodes; an entry is pushed, lowered, popped.
-- Assumes nothing.
use Prim.Native.Nat.{ℕ, zero, suc, ◌+◌, ◌-◌, ◌*◌, ◌≤◌, ◌<◌}
use mathlib.Core.Path.{◌≡◌, refl, sym, ap, ◌∙◌}
use mathlib.Core.Bool.{Bool, true, not, ◌&&◌, false≢true}
use mathlib.Core.Logic.{◌≢◌, ◌⊎◌, inl, inr, ⊎_elim}
use mathlib.Core.List.{List}
use native.Mathlib.Decide.{ℕ_discrete, dec_lt}
use native.Mathlib.Omega.{arith}
use lib.Dec.{eqb, leb}
use lib.ListN.{length, get_or, drop, length-drop}
use lib.Seq.{get_or-drop}
use borrow.Author.Tests.{eq-eqb, ne_eqb, le-leb, leb-true}
use Rattle.network.specs.Count.{count}
use Rattle.network.proofs.Tests.{and_parts, and_intro}
use Rattle.network.proofs.Counts.{count_mono, count_few, count_all, without, without_other, count_without}
use Rattle.expansion.specs.Queue.{key_at, Holds, Queue, Pushed, Popped, CanSink, CanRise}
use Rattle.expansion.specs.Tags.{node_of}
use Rattle.expansion.proofs.QueueLaws.{key_of_words, words_key, push_rises, pushed, pop_sinks, popped_one, popped_more}
use Rattle.expansion.specs.NodeQueue.{node_at, Free, NodeQueue, Unmoved, CanLower, PushedNode, LoweredNode, PoppedNode, ClearedNodes, OfferedNode, Vacated, Seats, FilledAt}

-- ---- No more entries than nodes: each entry's node has the entry's seat.
module _ (n : ℕ) (xs : List ℕ) (b : ℕ) where
  -- node v's seat is one of the first m
  seated : ℕ → ℕ → Bool
  seated m v = not (eqb (get_or xs (b + v) 0) 0) && leb (get_or xs (b + v) 0) m

  is_seated : (m v i : ℕ) → get_or xs (b + v) 0 ≡ suc i → i < m → seated m v ≡ true
  unfolding seated
  is_seated m v i e h =
      and_intro (not (eqb (get_or xs (b + v) 0) 0)) (leb (get_or xs (b + v) 0) m) (ap not (ne_eqb (get_or xs (b + v) 0) 0 (omega arith))) (le-leb (get_or xs (b + v) 0) m (omega arith))

  seated_low : (m v : ℕ) → seated m v ≡ true → get_or xs (b + v) 0 ≤ m
  unfolding seated
  seated_low m v e = leb-true (get_or xs (b + v) 0) m (and_parts (not (eqb (get_or xs (b + v) 0) 0)) (leb (get_or xs (b + v) 0) m) e).1

  seated_next : (m v : ℕ) → seated m v ≡ true → seated (suc m) v ≡ true
  unfolding seated
  seated_next m v e =
      let p = and_parts (not (eqb (get_or xs (b + v) 0) 0)) (leb (get_or xs (b + v) 0) m) e in
      let h : get_or xs (b + v) 0 ≤ m = leb-true (get_or xs (b + v) 0) m p.1 in
      and_intro (not (eqb (get_or xs (b + v) 0) 0)) (leb (get_or xs (b + v) 0) (suc m)) p.0 (le-leb (get_or xs (b + v) 0) (suc m) (omega arith))

  seated_some : (m v : ℕ) → seated m v ≡ true → get_or xs (b + v) 0 ≢ 0
  unfolding seated
  seated_some m v e z =
      false≢true
      (sym (ap not (eq-eqb (get_or xs (b + v) 0) 0 z)) ∙ (and_parts (not (eqb (get_or xs (b + v) 0) 0)) (leb (get_or xs (b + v) 0) m) e).0)

  seats_many : (f : ℕ → ℕ) (m : ℕ) → ((i : ℕ) → i < m → f i < n) → ((i : ℕ) → i < m → get_or xs (b + f i) 0 ≡ suc i) → m ≤ count (seated m) n
  seats_many f zero inside seat = omega arith
  seats_many f (suc m) inside seat =
      let here : get_or xs (b + f m) 0 ≡ suc m = seat m (omega arith) in
      let rest : m ≤ count (seated m) n = seats_many f m (λ i h. inside i (omega arith)) (λ i h. seat i (omega arith)) in
      let one : suc (count (without (seated (suc m)) (f m)) n) ≡ count (seated (suc m)) n = count_without (seated (suc m)) (f m) n (inside m (omega arith)) (is_seated (suc m) (f m) m here (omega arith)) in
      let more : count (seated m) n ≤ count (without (seated (suc m)) (f m)) n =
      count_mono (seated m) (without (seated (suc m)) (f m)) n
      (λ v h e. without_other (seated (suc m)) (f m) v (λ q. absurd (omega (arith, seated_low m v e, ap (λ (u : ℕ). get_or xs (b + u) 0) q))) ∙ seated_next m v e)
      in
      omega arith

  -- a node that is not seated is left over
  left_over : (m v : ℕ) → v < n → (seated m v ≡ true → ⊥) → count (seated m) n < n
  left_over m v h not-seated =
      let all : suc (count (without (λ _. true) v) n) ≡ count (λ _. true) n = count_without (λ _. true) v n h refl in
      let few : count (seated m) n ≤ count (without (λ _. true) v) n =
      count_mono (seated m) (without (λ _. true) v) n (λ u l e. without_other (λ _. true) v u (λ q. not-seated (ap (seated m) (sym q) ∙ e)))
      in
      omega (arith, count_all n)

module _ {n : ℕ} {xs : List ℕ} {b at len : ℕ} (q : NodeQueue n xs b at len) where
  -- a node that doesn't wait has no entry, and there is room for one
  pub free_not : (v i : ℕ) → Free n xs b v → i < len → node_at (drop at xs) i ≢ v
  free_not v i free h e =
      let w : get_or xs (b + v) 0 ≡ suc i = ap (λ (u : ℕ). get_or xs (b + u) 0) (sym e) ∙ q.seat i h in
      ⊎_elim (λ z. absurd (omega arith)) (λ z. absurd (omega (arith, q.fits))) free

  pub free_less : (v : ℕ) → v < n → Free n xs b v → len < n
  free_less v h free =
      omega (
        arith,
        seats_many n xs b (λ i. node_at (drop at xs) i) len q.inside q.seat,
        left_over n xs b len v h (λ e. ⊎_elim (λ z. seated_some n xs b len v e z) (λ z. absurd (omega (arith, seated_low n xs b len v e, q.fits))) free),
      )

  -- a node has one entry
  pub alike : (i j : ℕ) → i < len → j < len → node_at (drop at xs) i ≡ node_at (drop at xs) j → i ≡ j
  alike i j h l e = omega (arith, q.seat i h, q.seat j l, ap (λ (u : ℕ). get_or xs (b + u) 0) e)

  -- the node of a key that is held
  pub held_inside : (k : ℕ) → Holds (drop at xs) len k → node_of k < n
  held_inside k h = rw (sym h.is) (q.inside h.index h.inside)

-- ---- What an operation leaves is a node queue again.
module _ {n : ℕ} {xs ys : List ℕ} {b at len more v : ℕ} (q : NodeQueue n xs b at len) (same : Unmoved n xs ys b at v) where
  module _ (queue : Queue (drop at ys) more) (seat : (i : ℕ) → i < more → get_or ys (b + node_at (drop at ys) i) 0 ≡ suc i)
      (kept : (k : ℕ) → Holds (drop at xs) len k → Holds (drop at ys) more k ⊎ (node_of k ≡ v))
      (old : (k : ℕ) → Holds (drop at ys) more k → node_of k < n)
      (own : (get_or ys (b + v) 0 ≡ 0) ⊎ ((k : ℕ) × (Holds (drop at ys) more k) × (node_of k ≡ v))) where
    -- a node whose key is held waits in its seat
    held_waits : (u k i : ℕ) → Holds (drop at ys) more k → node_of k ≡ u → get_or ys (b + u) 0 ≡ suc i → (i < more) × (node_at (drop at ys) i ≡ u)
    held_waits u k i h e w =
        let node : node_at (drop at ys) h.index ≡ u = ap node_of h.is ∙ e in
        let is : i ≡ h.index = omega (arith, seat h.index h.inside, ap (λ (x : ℕ). get_or ys (b + x) 0) node) in
        (omega (arith, h.inside), ap (node_at (drop at ys)) is ∙ node)

    other_waits : (u i : ℕ) → u < n → u ≢ v → get_or ys (b + u) 0 ≡ suc i → i < n → (i < more) × (node_at (drop at ys) i ≡ u)
    other_waits u i h m w l = by (get_or xs (b + u) 0) refl
      where
        by : (x : ℕ) → get_or xs (b + u) 0 ≡ x → (i < more) × (node_at (drop at ys) i ≡ u)
        by zero e = absurd (omega (arith, same.free u h m (inl e)))
        by (suc j) e =
            elim (dec_lt j n) [
              | no g ↦ absurd (omega (arith, same.free u h m (inr (omega arith))))
              | yes g ↦
                  let r = q.waits u j h e g in
                  ⊎_elim
                  (λ a. held_waits u (key_at (drop at xs) j) i a r.1 w)
                  (λ a. absurd (m (sym r.1 ∙ a)))
                  (kept (key_at (drop at xs) j) (record { index = j; inside = r.0; is = refl }))
            ]

    after_inside : (i : ℕ) → i < more → node_at (drop at ys) i < n
    after_inside i h = old (key_at (drop at ys) i) (record { index = i; inside = h; is = refl })

    pub queue_after : NodeQueue n ys b at more
    queue_after =
        record {
          few = q.few;
          low = q.low;
          room = omega (arith, q.room, same.size);
          fits = omega (arith, seats_many n ys b (λ i. node_at (drop at ys) i) more after_inside seat, count_few (seated n ys b more) n);
          queue = queue;
          inside = after_inside;
          seat = seat;
          waits =
              λ u i h w l.
              elim (ℕ_discrete u v) [
                | yes e ↦
                    ⊎_elim
                    (λ z. absurd (omega (arith, ap (λ (x : ℕ). get_or ys (b + x) 0) e)))
                    (λ k. held_waits u k.0 i k.1 (k.2 ∙ sym e) w)
                    own
                | no m ↦ other_waits u i h m w l
              ];
        }

-- the frame of a filled hole: the entries beside it are the queue's, and the carried one is of node v
module _ {n : ℕ} {xs ys : List ℕ} {b at len more hole key : ℕ} (q : NodeQueue n xs b at len) (f : FilledAt xs ys b at more hole key)
    (known : (i : ℕ) → i < more → i ≢ hole → i < len) (inside : node_of key < n) where
  pub filled_frame : Unmoved n xs ys b at (node_of key)
  filled_frame =
      record {
        size = f.size;
        before = λ j h. f.words j (omega (arith, q.low)) (omega arith) (λ i l m. omega arith);
        between = λ j h l. f.words j l (omega arith) (λ i k m. omega (arith, q.inside i (known i k m)));
        free =
            λ u h m free.
            f.words (b + u) (omega (arith, q.low)) (omega arith)
            (λ i l o e. free_not q u i free (known i l o) (omega arith));
      }

-- ---- Push.
module _ {n : ℕ} {xs : List ℕ} {b at len : ℕ} (q : NodeQueue n xs b at len) (key : ℕ) (inside : node_of key < n) (free : Free n xs b (node_of key)) where
  pub push_can : CanRise (drop at xs) (len + 1) len key
  push_can = push_rises (drop at xs) len key q.queue (omega (arith, free_less q (node_of key) inside free, q.room, length-drop at xs))

  pub push_seats : Seats xs b at (len + 1) len key
  push_seats =
      record {
        few = omega (arith, q.fits, q.few);
        room = omega (arith, free_less q (node_of key) inside free, q.room);
        own = omega (arith, q.low);
        low = λ i h m. omega (arith, q.inside i (omega arith), q.low);
        seat = λ i h m. q.seat i (omega arith);
        other = λ i h m. free_not q (node_of key) i free (omega arith);
      }

  pub pushed_node : (ys : List ℕ) → FilledAt xs ys b at (len + 1) len key → PushedNode n xs ys b at len key
  pushed_node ys f =
      let p : Pushed (drop at xs) (drop at ys) len key =
      pushed (drop at xs) len key q.queue (omega (arith, free_less q (node_of key) inside free, q.room, length-drop at xs)) (drop at ys) f.filled
      in
      let frame = filled_frame q f (λ i h m. omega arith) inside in
      record {
        queue =
            queue_after q frame p.queue f.seat
            (λ k h. inl ((p.holds k).1 (inl h)))
            (λ k h. ⊎_elim (λ a. held_inside q k a) (λ e. rw e inside) ((p.holds k).0 h))
            (inr (key, (p.holds key).1 (inr refl), refl));
        frame = frame;
        holds = p.holds;
      }

-- ---- Lower: the entry of the node rises from where it stands.
module _ {n : ℕ} {xs : List ℕ} {b at len : ℕ} (q : NodeQueue n xs b at len) (i key : ℕ) (here : i < len) (node : node_at (drop at xs) i ≡ node_of key) (lt : key < key_at (drop at xs) i) where
  inside : node_of key < n
  inside = omega (arith, q.inside i here)

  pub lowered_node : (ys : List ℕ) → FilledAt xs ys b at len i key → LoweredNode n xs ys b at len key
  lowered_node ys f = record { queue = queue; frame = frame; here = held; old = old; kept = kept }
    where
      frame : Unmoved n xs ys b at (node_of key)
      frame = filled_frame q f (λ j h m. h) inside

      held : Holds (drop at ys) len key
      held = (f.filled.holds key).1 (inl refl)

      old : (k : ℕ) → Holds (drop at ys) len k → Holds (drop at xs) len k ⊎ (k ≡ key)
      old k h = ⊎_elim (λ e. inr e) (λ a. inl (record { index = a.index; inside = a.inside; is = a.is })) ((f.filled.holds k).0 h)

      kept : (k : ℕ) → Holds (drop at xs) len k → Holds (drop at ys) len k ⊎ ((node_of k ≡ node_of key) × (key < k))
      kept k h =
          elim (ℕ_discrete h.index i) [
            | yes e ↦
                let is : key_at (drop at xs) i ≡ k = ap (key_at (drop at xs)) (sym e) ∙ h.is in
                inr (ap node_of (sym is) ∙ node, omega arith)
            | no m ↦ inl ((f.filled.holds k).1 (inr (record { index = h.index; inside = h.inside; other = m; is = h.is })))
          ]

      queue : NodeQueue n ys b at len
      queue =
          queue_after q frame
          (record {
            room = omega (arith, q.queue.room, f.filled.size);
            ordered = f.filled.ordered;
            zeros = λ j h. f.filled.behind j h ∙ q.queue.zeros j h;
          })
          f.seat
          (λ k h. ⊎_elim (λ a. inl a) (λ a. inr a.0) (kept k h))
          (λ k h. ⊎_elim (λ a. held_inside q k a) (λ e. rw e inside) (old k h))
          (inr (key, held, refl))

-- ---- Pop: the last entry's words and the first entry's seat are made 0, and the last entry goes into the hole that the first leaves.
module _ {n : ℕ} {xs ys : List ℕ} {b at len : ℕ} (q : NodeQueue n xs b at len) (some : 0 < len) (v : Vacated xs ys b at (len - 1) (node_at (drop at xs) 0)) where
  pub vacated_can : (key : ℕ) → len - 1 ≢ 0 → CanSink (drop at ys) (len - 1) 0 key
  vacated_can key more = pop_sinks (drop at xs) (drop at ys) len q.queue some v.put key more

  node_same : (i : ℕ) → i < len - 1 → node_at (drop at ys) i ≡ node_at (drop at xs) i
  node_same i h = ap node_of (v.put.other i (omega arith))

  -- the first node is another than the others
  first_other : (i : ℕ) → i < len → i ≢ 0 → node_at (drop at xs) i ≢ node_at (drop at xs) 0
  first_other i h m e = m (alike q i 0 h some e)

  vacated_seat : (i : ℕ) → i < len → i ≢ 0 → get_or ys (b + node_at (drop at xs) i) 0 ≡ suc i
  vacated_seat i h m =
      v.words (b + node_at (drop at xs) i) (omega (arith, q.inside i h, q.low)) (λ e. first_other i h m (omega arith)) ∙ q.seat i h

  pub vacated_seats : len - 1 ≢ 0 → Seats ys b at (len - 1) 0 (key_at (drop at xs) (len - 1))
  vacated_seats more =
      record {
        few = omega (arith, q.fits, q.few);
        room = omega (arith, q.fits, q.room, v.size);
        own = omega (arith, q.inside (len - 1) (omega arith), q.low);
        low = λ i h m. omega (arith, node_same i h, q.inside i (omega arith), q.low);
        seat = λ i h m. ap (λ (u : ℕ). get_or ys (b + u) 0) (node_same i h) ∙ vacated_seat i (omega arith) m;
        other = λ i h m e. absurd (omega (arith, alike q i (len - 1) (omega arith) (omega arith) (sym (node_same i h) ∙ e)));
      }

  -- the words before the queue, after the first entry's seat is made 0 and then the hole is filled
  module _ (zs : List ℕ) (size : length zs ≡ length ys)
      (words : (j : ℕ) → j < at → ((i : ℕ) → i < len → i ≢ 0 → j ≢ b + node_at (drop at xs) i) → get_or zs j 0 ≡ get_or ys j 0) where
    first_inside : node_at (drop at xs) 0 < n
    first_inside = q.inside 0 some

    pop_frame : Unmoved n xs zs b at (node_at (drop at xs) 0)
    pop_frame =
        record {
          size = size ∙ v.size;
          before = λ j h. words j (omega (arith, q.low)) (λ i l m. omega arith) ∙ v.words j (omega (arith, q.low)) (omega arith);
          between =
              λ j h l.
              words j l (λ i k m. omega (arith, q.inside i k)) ∙ v.words j l (omega (arith, first_inside));
          free =
              λ u h m free.
              words (b + u) (omega (arith, q.low)) (λ i l o e. free_not q u i free l (omega arith))
              ∙ v.words (b + u) (omega (arith, q.low)) (omega arith);
        }

    pop_gone : get_or zs (b + node_at (drop at xs) 0) 0 ≡ 0
    pop_gone =
        words (b + node_at (drop at xs) 0) (omega (arith, first_inside, q.low)) (λ i l m e. first_other i l m (omega arith)) ∙ v.seat

    after_pop : Popped (drop at xs) (drop at zs) len (key_at (drop at xs) 0) → ((i : ℕ) → i < len - 1 → get_or zs (b + node_at (drop at zs) i) 0 ≡ suc i) → PoppedNode n xs zs b at len (key_at (drop at xs) 0)
    after_pop p seat =
        record {
          queue =
              queue_after q pop_frame p.queue seat
              (λ k h. ⊎_elim (λ a. inl a) (λ e. inr (ap node_of e)) (p.kept k h))
              (λ k h. held_inside q k (p.old k h))
              (inl pop_gone);
          frame = pop_frame;
          popped = p;
          gone = pop_gone;
        }

  -- there was one entry
  pub popped_last : len - 1 ≡ 0 → PoppedNode n xs ys b at len (key_at (drop at xs) 0)
  popped_last one =
      after_pop ys refl (λ j h away. refl) (popped_one (drop at xs) (drop at ys) len q.queue some v.put one) (λ i h. absurd (omega arith))

  -- there were more
  pub popped_filled : len - 1 ≢ 0 → (zs : List ℕ) → FilledAt ys zs b at (len - 1) 0 (key_at (drop at xs) (len - 1)) → PoppedNode n xs zs b at len (key_at (drop at xs) 0)
  popped_filled more zs f =
      after_pop zs f.size
      (λ j h away.
      f.words j h (away (len - 1) (omega arith) more)
      (λ i l m e. away i (omega arith) m (e ∙ ap (λ (u : ℕ). b + u) (node_same i l))))
      (popped_more (drop at xs) (drop at ys) len q.queue some v.put (drop at zs) f.filled)
      f.seat

-- ---- Offer: what each case leaves.
module _ {n : ℕ} {xs : List ℕ} {b at len : ℕ} (q : NodeQueue n xs b at len) (key : ℕ) where
  unmoved : Unmoved n xs xs b at (node_of key)
  unmoved = record { size = refl; before = λ j h. refl; between = λ j h l. refl; free = λ u h m f. refl }

  -- the node waits as entry i
  module _ (i : ℕ) (w : get_or xs (b + node_of key) 0 ≡ suc i) (low : i < n) (inside : node_of key < n) where
    pub waits_here : (i < len) × (node_at (drop at xs) i ≡ node_of key)
    waits_here = q.waits (node_of key) i inside w low

    pub can_lower : key < key_at (drop at xs) i → CanLower (drop at xs) len i key
    can_lower less = record { inside = waits_here.0; node = waits_here.1; less = less }

    pub offered_kept : key_at (drop at xs) i ≤ key → OfferedNode n xs xs b at len len key
    offered_kept h =
        record {
          queue = q;
          frame = unmoved;
          settled = λ l. refl;
          waiting = λ l. (key_at (drop at xs) i, record { index = i; inside = waits_here.0; is = refl }, waits_here.1, h);
          old = λ k a. inl a;
          kept = λ k a. inl a;
        }

-- ---- Clear: the first i entries are gone, with their nodes' seats.
pub record Clearing (xs ys : List ℕ) (b at i : ℕ) : Type 0 where
  pub size : length ys ≡ length xs
  pub words : (j : ℕ) → j < at → ((m : ℕ) → m < i → j ≢ b + node_at (drop at xs) m) → get_or ys j 0 ≡ get_or xs j 0
  pub gone : (m : ℕ) → m < i → get_or ys (b + node_at (drop at xs) m) 0 ≡ 0
  pub done : (j : ℕ) → j < 2 * i → get_or (drop at ys) j 0 ≡ 0
  pub rest : (j : ℕ) → 2 * i ≤ j → get_or (drop at ys) j 0 ≡ get_or (drop at xs) j 0

pub clearing_none : (xs : List ℕ) (b at : ℕ) → Clearing xs xs b at 0
clearing_none xs b at =
    record { size = refl; words = λ j h away. refl; gone = λ m h. absurd (omega arith); done = λ j h. absurd (omega arith); rest = λ j h. refl }

module _ {n : ℕ} {xs ys : List ℕ} {b at len i : ℕ} (q : NodeQueue n xs b at len) (c : Clearing xs ys b at i) (h : i < len) where
  -- the next entry is as it was
  pub clearing_node : node_at (drop at ys) i ≡ node_at (drop at xs) i
  clearing_node =
      ap node_of (key_of_words (drop at ys) i _ _ (c.rest (2 * i) (omega arith)) (c.rest (2 * i + 1) (omega arith)) ∙ words_key (drop at xs) i)

  pub clearing_more : (zs : List ℕ) → Vacated ys zs b at i (node_at (drop at xs) i) → Clearing xs zs b at (i + 1)
  clearing_more zs v =
      record {
        size = v.size ∙ c.size;
        words = λ j l away. v.words j l (away i (omega arith)) ∙ c.words j l (λ m k. away m (omega arith));
        gone =
            λ m l.
            elim (ℕ_discrete m i) [
              | yes e ↦ ap (λ (x : ℕ). get_or zs (b + node_at (drop at xs) x) 0) e ∙ v.seat
              | no o ↦
                  v.words (b + node_at (drop at xs) m) (omega (arith, q.inside m (omega arith), q.low))
                  (λ e. o (alike q m i (omega arith) h (omega arith)))
                  ∙ c.gone m (omega arith)
            ];
        done =
            λ j l.
            elim (ℕ_discrete j (2 * i)) [
              | yes e ↦ ap (λ (x : ℕ). get_or (drop at zs) x 0) e ∙ v.put.first
              | no o ↦
                  elim (ℕ_discrete j (2 * i + 1)) [
                    | yes e ↦ ap (λ (x : ℕ). get_or (drop at zs) x 0) e ∙ v.put.second
                    | no p ↦ v.put.words j o p ∙ c.done j (omega arith)
                  ]
            ];
        rest = λ j l. v.put.words j (omega arith) (omega arith) ∙ c.rest j (omega arith);
      }

pub cleared_nodes : {n : ℕ} {xs ys : List ℕ} {b at len : ℕ} (i : ℕ) → NodeQueue n xs b at len → Clearing xs ys b at i → i ≡ len → ClearedNodes n xs ys b at
cleared_nodes {n} {xs} {ys} {b} {at} {len} i q c e =
    record {
      size = c.size;
      before = λ j h. c.words j (omega (arith, q.low)) (λ m l. omega arith);
      between = λ j h l. c.words j l (λ m k. omega (arith, q.inside m (omega arith)));
      free = λ u h f. c.words (b + u) (omega (arith, q.low)) (λ m l o. free_not q u m f (omega arith) (omega arith));
      waited =
          λ u m h w l.
          let r = q.waits u m h w l in
          ap (λ (x : ℕ). get_or ys (b + x) 0) (sym r.1) ∙ c.gone m (omega arith);
      zero = λ j h. let p : at + (j - at) ≡ j = omega arith in ap (λ (x : ℕ). get_or ys x 0) (sym p) ∙ sym (get_or-drop at ys (j - at) 0) ∙ behind (j - at);
    }
  where
    behind : (j : ℕ) → get_or (drop at ys) j 0 ≡ 0
    behind j = elim (dec_lt j (2 * i)) [ yes h ↦ c.done j h | no h ↦ c.rest j (omega arith) ∙ q.queue.zeros j (omega arith) ]
