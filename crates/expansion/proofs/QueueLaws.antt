-- Laws of the queue: an entry is stored, a hole moves down or up, a hole is filled; a push, a pop, a clearing.
-- Assumes nothing.
use mathlib.Core.Path.{◌≡◌, refl, sym, ap, ◌∙◌}
use mathlib.Core.Logic.{◌⊎◌, inl, inr, ⊎_elim, ⊎_map, ◌≢◌, ◌↔◌}
use mathlib.Core.List.{List}
use Prim.Native.Nat.{ℕ, zero, suc, ◌+◌, ◌-◌, ◌*◌, ◌≤◌, ◌<◌}
use native.Mathlib.Omega.{arith}
use native.Mathlib.Decide.{ℕ_discrete, dec_lt}
use lib.ListN.{length, get_or, set, drop, length-set, length-drop}
use lib.Seq.{get_or-set_same, get_or-set_other}
use Rattle.expansion.specs.Queue.{key_of, key_at, parent_of, Holds, HoldsBeside, HeapOrdered, ZeroFrom, Put, Hole, AtLeastParent, AtMostChildren, CanSink, CanRise, Filled, LeastChild, Children, Chosen, Queue, Pushed, Popped, LeastDistance, NoLater}
use Rattle.expansion.proofs.TagLaws.{at_most_no_later}

-- ---- An entry is stored.

-- the key of two words
pub key_of_words : (xs : List ℕ) (i d t : ℕ) → get_or xs (2 * i) 0 ≡ t → get_or xs (2 * i + 1) 0 ≡ d → key_at xs i ≡ key_of d t
unfolding key_at
key_of_words xs i d t p q = omega arith

pub words_key : (xs : List ℕ) (i : ℕ) → key_of (get_or xs (2 * i + 1) 0) (get_or xs (2 * i) 0) ≡ key_at xs i
unfolding key_at
words_key xs i = refl

abbrev stored : List ℕ → ℕ → ℕ → ℕ → List ℕ
stored xs i d t = set (set xs (2 * i) t) (2 * i + 1) d

module _ (xs : List ℕ) (i d t : ℕ) (room : 2 * i + 2 ≤ length xs) where
  first : get_or (stored xs i d t) (2 * i) 0 ≡ t
  first = get_or-set_other (set xs (2 * i) t) (2 * i + 1) (2 * i) d 0 (omega arith) ∙ get_or-set_same xs (2 * i) t 0 (omega arith)

  second : get_or (stored xs i d t) (2 * i + 1) 0 ≡ d
  second = get_or-set_same (set xs (2 * i) t) (2 * i + 1) d 0 (simp length-set (omega arith))

  words : (j : ℕ) → j ≢ 2 * i → j ≢ 2 * i + 1 → get_or (stored xs i d t) j 0 ≡ get_or xs j 0
  words j n m = get_or-set_other (set xs (2 * i) t) (2 * i + 1) j d 0 m ∙ get_or-set_other xs (2 * i) j t 0 n

  other : (j : ℕ) → j ≢ i → key_at (stored xs i d t) j ≡ key_at xs j
  unfolding key_at
  other j n = key_of_words (stored xs i d t) j _ _ (words (2 * j) (omega arith) (omega arith)) (words (2 * j + 1) (omega arith) (omega arith))

  pub put_stored : Put xs (stored xs i d t) i d t
  put_stored =
      record {
        size = simp length-set;
        first = first;
        second = second;
        words = words;
        here = key_of_words (stored xs i d t) i d t first second;
        other = other;
      }

-- the child of entry i whose key is at most each child's
pub least_child : (xs : List ℕ) (len i c : ℕ) → c < len → 2 * i < c → c ≤ 2 * i + 2 → (2 * i + 1 < len → key_at xs c ≤ key_at xs (2 * i + 1)) → (2 * i + 2 < len → key_at xs c ≤ key_at xs (2 * i + 2)) → LeastChild xs len i c
least_child xs len i c inside low high left right =
    record {
      inside = inside;
      low = low;
      high = high;
      least =
          λ j pos lt e.
          elim (ℕ_discrete j (2 * i + 1)) [
            | yes q ↦ omega (arith, ap (key_at xs) q, left (omega arith))
            | no n ↦ let q : j ≡ 2 * i + 2 = omega arith in omega (arith, ap (key_at xs) q, right (omega arith))
          ];
    }

-- ---- The keys of a hole's children are known.
module _ (xs : List ℕ) (len i a b c : ℕ) (ch : Children xs len i a b) (is : Chosen a b (2 * i + 1) (2 * i + 2) c) where
  -- the child that is chosen by them is the lesser one, and its key is chosen likewise
  pub chosen_child : LeastChild xs len i c
  chosen_child =
      elim (dec_lt b a) [
        | yes lt ↦
            let e : c ≡ 2 * i + 2 = is.second lt in
            least_child xs len i c (omega (arith, ch.two)) (omega arith) (omega arith) (λ h. omega (arith, ap (key_at xs) e, ch.left, ch.right)) (λ h. omega (arith, ap (key_at xs) e))
        | no n ↦
            let e : c ≡ 2 * i + 1 = is.first (omega arith) in
            least_child xs len i c (omega (arith, ch.two)) (omega arith) (omega arith) (λ h. omega (arith, ap (key_at xs) e)) (λ h. omega (arith, ap (key_at xs) e, ch.left, ch.right))
      ]

  pub chosen_key : (k : ℕ) → Chosen a b a b k → key_at xs c ≡ k
  chosen_key k ck =
      elim (dec_lt b a) [
        | yes lt ↦ omega (arith, ap (key_at xs) (is.second lt), ch.right, ck.second lt)
        | no n ↦ let le : a ≤ b = omega arith in omega (arith, ap (key_at xs) (is.first le), ch.left, ck.first le)
      ]

  -- where all four grandchildren are in the queue, the chosen child's children have the keys that are chosen likewise, and the hole's filling leaves them
  pub chosen_children : (l r l' r' a' b' : ℕ) → 4 * i + 6 < len → l ≡ key_at xs (4 * i + 3) → r ≡ key_at xs (4 * i + 3 + 1) → l' ≡ key_at xs (4 * i + 3 + 2) → r' ≡ key_at xs (4 * i + 3 + 3) → Chosen a b l l' a' → Chosen a b r r' b' → (ys : List ℕ) (d t : ℕ) → Put xs ys i d t → Children ys len c a' b'
  chosen_children l r l' r' a' b' room kl kr kl' kr' ca cb ys d t p =
      elim (dec_lt b a) [
        | yes lt ↦
            let e : c ≡ 2 * i + 2 = is.second lt in
            record {
              two = omega arith;
              left = ca.second lt ∙ kl' ∙ sym (p.other (4 * i + 3 + 2) (omega arith)) ∙ ap (key_at ys) (omega arith);
              right = cb.second lt ∙ kr' ∙ sym (p.other (4 * i + 3 + 3) (omega arith)) ∙ ap (key_at ys) (omega arith);
            }
        | no n ↦
            let e : c ≡ 2 * i + 1 = is.first (omega arith) in
            record {
              two = omega arith;
              left = ca.first (omega arith) ∙ kl ∙ sym (p.other (4 * i + 3) (omega arith)) ∙ ap (key_at ys) (omega arith);
              right = cb.first (omega arith) ∙ kr ∙ sym (p.other (4 * i + 3 + 1) (omega arith)) ∙ ap (key_at ys) (omega arith);
            }
      ]

-- the lesser of two keys that are chosen is the chosen one of the lesser keys
pub chosen_least : {a b l r l' r' a' b' m m' k : ℕ} → Chosen a b l l' a' → Chosen a b r r' b' → Chosen l r l r m → Chosen l' r' l' r' m' → Chosen a b m m' k
    → Chosen a' b' a' b' k
chosen_least {a} {b} ca cb cm cm' ck =
    elim (dec_lt b a) [
      | yes lt ↦
          let x = ca.second lt in
          let y = cb.second lt in
          record {
            first = λ h. omega (arith, ck.second lt, cm'.first (omega (arith, x, y)), x);
            second = λ h. omega (arith, ck.second lt, cm'.second (omega (arith, x, y)), y);
          }
      | no n ↦
          let le : a ≤ b = omega arith in
          let x = ca.first le in
          let y = cb.first le in
          record {
            first = λ h. omega (arith, ck.first le, cm.first (omega (arith, x, y)), x);
            second = λ h. omega (arith, ck.first le, cm.second (omega (arith, x, y)), y);
          }
    ]

-- ---- A hole is filled where it is.
module _ (xs ys : List ℕ) (len hole d t : ℕ) (h : Hole xs len hole) (p : Put xs ys hole d t) where
  here_ordered : AtLeastParent xs hole (key_of d t) → AtMostChildren xs len hole (key_of d t) → HeapOrdered ys len
  here_ordered at_least at_most i pos lt =
      elim (ℕ_discrete i hole) [
        | yes e ↦ omega (arith, ap (key_at ys) e, ap (λ (j : ℕ). key_at xs (parent_of j)) e, p.here, p.other (parent_of i) (omega arith), at_least (omega arith))
        | no n ↦
            elim (ℕ_discrete (parent_of i) hole) [
              | yes e ↦ omega (arith, ap (key_at ys) e, p.here, p.other i n, at_most i pos lt e)
              | no m ↦ omega (arith, p.other (parent_of i) m, p.other i n, h.order i pos lt n m)
            ]
      ]

  here_holds : (k : ℕ) → Holds ys len k ↔ ((k ≡ key_of d t) ⊎ HoldsBeside xs len hole k)
  here_holds k = (
    λ a.
        elim (ℕ_discrete a.index hole) [
          | yes e ↦ inl (sym a.is ∙ ap (key_at ys) e ∙ p.here)
          | no n ↦ inr (record { index = a.index; inside = a.inside; other = n; is = sym (p.other a.index n) ∙ a.is })
        ],
    ⊎_elim
        (λ e. record { index = hole; inside = h.inside; is = p.here ∙ sym e })
        (λ b. record { index = b.index; inside = b.inside; is = p.other b.index b.other ∙ b.is }),
  )

  pub filled_here : AtLeastParent xs hole (key_of d t) → AtMostChildren xs len hole (key_of d t) → Filled xs ys len hole (key_of d t)
  filled_here at_least at_most =
      record {
        ordered = here_ordered at_least at_most;
        size = p.size;
        behind = λ j l. p.words j (omega (arith, h.inside)) (omega (arith, h.inside));
        holds = here_holds;
      }

-- ---- A hole moves: entry c is copied into it, and c is the hole.
module _ (xs ys : List ℕ) (len hole c d t : ℕ) (in_hole : hole < len) (in_c : c < len) (apart : c ≢ hole) (p : Put xs ys hole d t) (is_c : key_of d t ≡ key_at xs c) where
  moved : (k : ℕ) → HoldsBeside ys len c k ↔ HoldsBeside xs len hole k
  moved k = (
    λ b.
        elim (ℕ_discrete b.index hole) [
          | yes e ↦ record { index = c; inside = in_c; other = apart; is = sym is_c ∙ sym p.here ∙ ap (key_at ys) (sym e) ∙ b.is }
          | no n ↦ record { index = b.index; inside = b.inside; other = n; is = sym (p.other b.index n) ∙ b.is }
        ],
    λ b.
        elim (ℕ_discrete b.index c) [
          | yes e ↦ record { index = hole; inside = in_hole; other = omega arith; is = p.here ∙ is_c ∙ ap (key_at xs) (sym e) ∙ b.is }
          | no n ↦ record { index = b.index; inside = b.inside; other = n; is = p.other b.index b.other ∙ b.is }
        ],
  )

  -- what fills the hole at c fills the first one
  pub filled_moved : (zs : List ℕ) (key : ℕ) → Filled ys zs len c key → Filled xs zs len hole key
  filled_moved zs key f =
      record {
        ordered = f.ordered;
        size = f.size ∙ p.size;
        behind = λ j l. f.behind j l ∙ p.words j (omega arith) (omega arith);
        holds =
            λ k. (
              λ a. ⊎_map (λ e. e) (moved k).0 ((f.holds k).0 a),
              λ s. (f.holds k).1 (⊎_map (λ e. e) (moved k).1 s),
            );
      }

-- The hole moves down, to the lesser child, whose key is less than the carried one.
module _ (xs ys : List ℕ) (len hole c key d t : ℕ) (s : CanSink xs len hole key) (ch : LeastChild xs len hole c) (lt : key_at xs c < key) (p : Put xs ys hole d t) (is_c : key_of d t ≡ key_at xs c) where
  down_order : (i : ℕ) → 0 < i → i < len → i ≢ c → parent_of i ≢ c → key_at ys (parent_of i) ≤ key_at ys i
  down_order i pos l nc npc =
      elim (ℕ_discrete i hole) [
        | yes e ↦
            omega
            (arith, ap (key_at ys) e, ap (λ (j : ℕ). key_at xs (parent_of j)) e, p.here, is_c, p.other (parent_of i) (omega arith), s.is_hole.across c (omega arith) ch.inside (omega (arith, ch.low, ch.high)))
        | no n ↦
            elim (ℕ_discrete (parent_of i) hole) [
              | yes e ↦ omega (arith, ap (key_at ys) e, p.here, is_c, p.other i n, ch.least i pos l e)
              | no m ↦ omega (arith, p.other (parent_of i) m, p.other i n, s.is_hole.order i pos l n m)
            ]
      ]

  -- c's children are not the old hole, nor is c
  down_across : (i : ℕ) → 0 < c → i < len → parent_of i ≡ c → key_at ys (parent_of c) ≤ key_at ys i
  down_across i pos l e =
      let pc : parent_of c ≡ hole = omega (arith, ch.low, ch.high) in
      let low : 2 * hole < c = ch.low in
      omega
      (arith, ap (key_at ys) pc, p.here, is_c, p.other i (omega arith), ap (key_at xs) e, s.is_hole.order i (omega arith) l (omega arith) (omega arith))

  pub hole_down : CanSink ys len c key
  hole_down =
      record {
        is_hole =
            record {
              fits = omega (arith, s.is_hole.fits, p.size);
              inside = ch.inside;
              order = down_order;
              across = down_across;
            };
        at_least =
            λ pos.
            let pc : parent_of c ≡ hole = omega (arith, ch.low, ch.high) in
            omega (arith, ap (key_at ys) pc, p.here, is_c);
      }

-- The hole moves up, to the parent, whose key is greater than the carried one.
module _ (xs ys : List ℕ) (len hole key d t : ℕ) (s : CanRise xs len hole key) (up : 0 < hole) (lt : key < key_at xs (parent_of hole)) (p : Put xs ys hole d t) (is-p : key_of d t ≡ key_at xs (parent_of hole)) where
  -- the parent is in order with its other child
  sibling : (i : ℕ) → 0 < i → i < len → i ≢ hole → parent_of i ≡ parent_of hole → key_at xs (parent_of hole) ≤ key_at xs i
  sibling i pos l n e = omega (arith, ap (key_at xs) e, s.is_hole.order i pos l n (omega arith))

  up_order : (i : ℕ) → 0 < i → i < len → i ≢ parent_of hole → parent_of i ≢ parent_of hole → key_at ys (parent_of i) ≤ key_at ys i
  up_order i pos l np npp =
      elim (ℕ_discrete i hole) [
        | yes e ↦ absurd (npp (ap parent_of e))
        | no n ↦
            elim (ℕ_discrete (parent_of i) hole) [
              | yes e ↦ omega (arith, ap (key_at ys) e, p.here, is-p, p.other i n, s.is_hole.across i up l e)
              | no m ↦ omega (arith, p.other (parent_of i) m, p.other i n, s.is_hole.order i pos l n m)
            ]
      ]

  up_across : (i : ℕ) → 0 < parent_of hole → i < len → parent_of i ≡ parent_of hole → key_at ys (parent_of (parent_of hole)) ≤ key_at ys i
  up_across i pos l e =
      let inside : hole < len = s.is_hole.inside in
      let far : key_at ys (parent_of (parent_of hole)) ≡ key_at xs (parent_of (parent_of hole)) = p.other (parent_of (parent_of hole)) (omega arith) in
      let top : key_at xs (parent_of (parent_of hole)) ≤ key_at xs (parent_of hole) =
      s.is_hole.order (parent_of hole) pos (omega arith) (omega arith) (omega arith)
      in
      elim (ℕ_discrete i hole) [
        | yes q ↦ omega (arith, ap (key_at ys) q, p.here, is-p)
        | no n ↦ omega (arith, p.other i n, sibling i (omega arith) l n e)
      ]

  up_at_most : AtMostChildren ys len (parent_of hole) key
  up_at_most i pos l e =
      elim (ℕ_discrete i hole) [
        | yes q ↦ omega (arith, ap (key_at ys) q, p.here, is-p)
        | no n ↦ omega (arith, p.other i n, sibling i pos l n e)
      ]

  pub hole_up : CanRise ys len (parent_of hole) key
  hole_up =
      record {
        is_hole =
            record {
              fits = omega (arith, s.is_hole.fits, p.size);
              inside = omega (arith, s.is_hole.inside);
              order = up_order;
              across = up_across;
            };
        at_most = up_at_most;
      }

-- ---- A queue.

-- zeros are a queue of no entries
pub empty_queue : (xs : List ℕ) → ((j : ℕ) → get_or xs j 0 ≡ 0) → Queue xs 0
empty_queue xs z = record { room = omega arith; ordered = λ i pos lt. omega arith; zeros = λ j h. z j }

-- the first key is a least one
first_least : (xs : List ℕ) (len : ℕ) → HeapOrdered xs len → (n i : ℕ) → i ≤ n → i < len → key_at xs 0 ≤ key_at xs i
first_least xs len o zero i le lt = let e : i ≡ 0 = omega arith in omega (arith, ap (key_at xs) e)
first_least xs len o (suc n) i le lt =
    elim (ℕ_discrete i 0) [
      | yes e ↦ omega (arith, ap (key_at xs) e)
      | no m ↦
          let pos : 0 < i = omega arith in
          omega (arith, o i pos lt, first_least xs len o n (parent_of i) (omega arith) (omega arith))
    ]

-- the first entry has the least distance
pub least_first : (xs : List ℕ) (len r : ℕ) → Queue xs len → 0 < len → get_or xs 0 0 < 4294967296 → r ≡ get_or xs 1 0 → LeastDistance xs len r
unfolding key_at
least_first xs len r q some tag e =
    record {
      key = key_at xs 0;
      holds = record { index = 0; inside = some; is = refl };
      is = omega (arith, e, tag);
      least = λ k h. omega (arith, e, tag, h.is, first_least xs len q.ordered h.index h.index (omega arith) h.inside);
    }

-- push: the hole is behind the last entry
module _ (xs : List ℕ) (len key : ℕ) (q : Queue xs len) (room : 2 * len + 2 ≤ length xs) where
  pub push_rises : CanRise xs (len + 1) len key
  push_rises =
      record {
        is_hole =
            record {
              fits = omega arith;
              inside = omega arith;
              order = λ i pos lt n m. q.ordered i pos (omega arith);
              across = λ i pos lt e. omega arith;
            };
        at_most = λ i pos lt e. omega arith;
      }

  pub pushed : (ys : List ℕ) → Filled xs ys (len + 1) len key → Pushed xs ys len key
  pushed ys f =
      record {
        queue = record { room = omega (arith, f.size); ordered = f.ordered; zeros = λ j h. f.behind j h ∙ q.zeros j (omega arith) };
        size = f.size;
        holds =
            λ k. (
              λ h.
                  ⊎_elim
                  (λ e. inr e)
                  (λ b. inl (record { index = b.index; inside = omega (arith, b.inside, b.other); is = b.is }))
                  ((f.holds k).0 h),
              ⊎_elim
                  (λ h. (f.holds k).1 (inr (record { index = h.index; inside = omega (arith, h.inside); other = omega (arith, h.inside); is = h.is })))
                  (λ e. (f.holds k).1 (inl e)),
            );
      }

-- pop: the last entry's words are zeroed, and the entry goes into the hole that the first leaves
module _ (xs ys : List ℕ) (len : ℕ) (q : Queue xs len) (some : 0 < len) (p : Put xs ys (len - 1) 0 0) where
  pop_zeros : ZeroFrom ys (len - 1)
  pop_zeros j h =
      elim (ℕ_discrete j (2 * (len - 1))) [
        | yes e ↦ ap (λ (i : ℕ). get_or ys i 0) e ∙ p.first
        | no n ↦
            elim (ℕ_discrete j (2 * (len - 1) + 1)) [
              | yes e ↦ ap (λ (i : ℕ). get_or ys i 0) e ∙ p.second
              | no m ↦ p.words j n m ∙ q.zeros j (omega arith)
            ]
      ]

  pub pop_sinks : (key : ℕ) → len - 1 ≢ 0 → CanSink ys (len - 1) 0 key
  pop_sinks key more =
      record {
        is_hole =
            record {
              fits = omega (arith, q.room, p.size);
              inside = omega arith;
              order = λ i pos lt n m. omega (arith, p.other (parent_of i) (omega arith), p.other i (omega arith), q.ordered i pos (omega arith));
              across = λ i pos lt e. omega arith;
            };
        at_least = λ pos. omega arith;
      }

  no_later : (k : ℕ) → Holds xs len k → NoLater (key_at xs 0) k
  no_later k h = at_most_no_later (key_at xs 0) k (omega (arith, h.is, first_least xs len q.ordered h.index h.index (omega arith) h.inside))

  was : Holds xs len (key_at xs 0)
  was = record { index = 0; inside = some; is = refl }

  -- there was one entry
  pub popped_one : len - 1 ≡ 0 → Popped xs ys len (key_at xs 0)
  popped_one one =
      record {
        queue = record { room = omega (arith, q.room, p.size); ordered = λ i pos lt. omega arith; zeros = pop_zeros };
        size = p.size;
        was = was;
        first = no_later;
        old = λ k h. absurd (omega (arith, h.inside));
        kept = λ k h. let e : h.index ≡ 0 = omega (arith, h.inside) in inr (sym h.is ∙ ap (key_at xs) e);
      }

  -- there were more
  module _ (zs : List ℕ) (f : Filled ys zs (len - 1) 0 (key_at xs (len - 1))) where
    pop_old : (k : ℕ) → Holds zs (len - 1) k → Holds xs len k
    pop_old k h =
        ⊎_elim
        (λ e. record { index = len - 1; inside = omega arith; is = sym e })
        (λ b. record { index = b.index; inside = omega (arith, b.inside); is = sym (p.other b.index (omega (arith, b.inside))) ∙ b.is })
        ((f.holds k).0 h)

    pop_kept : (k : ℕ) → Holds xs len k → Holds zs (len - 1) k ⊎ (k ≡ key_at xs 0)
    pop_kept k h =
        elim (ℕ_discrete h.index 0) [
          | yes e ↦ inr (sym h.is ∙ ap (key_at xs) e)
          | no n ↦
              inl
              ((f.holds k).1
              (elim (ℕ_discrete h.index (len - 1)) [
                | yes e ↦ inl (sym h.is ∙ ap (key_at xs) e)
                | no m ↦ inr (record { index = h.index; inside = omega (arith, h.inside); other = n; is = p.other h.index m ∙ h.is })
              ]))
        ]

    pub popped_more : Popped xs zs len (key_at xs 0)
    popped_more =
        record {
          queue = record { room = omega (arith, q.room, p.size, f.size); ordered = f.ordered; zeros = λ j h. f.behind j h ∙ pop_zeros j h };
          size = f.size ∙ p.size;
          was = was;
          first = no_later;
          old = pop_old;
          kept = pop_kept;
        }

-- a queue with an entry, from the word `at` of a list on, starts inside the list
pub first_inside : (xs : List ℕ) (at len : ℕ) → Queue (drop at xs) len → 0 < len → at + 2 ≤ length xs
first_inside xs at len q some = omega (arith, q.room, length-drop at xs)
