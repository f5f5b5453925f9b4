-- The second expansion, step by step: a point is offered to the neighbours of a node, takes a place in a row, and leaves the queue; what stands in
-- the rows and waits in the queue stays sound, and the work falls. A row with k lockers below a label tells that its node is beaten.
-- Assumes nothing.
use Prim.Native.Nat.{ℕ, zero, suc, ◌+◌, ◌-◌, ◌*◌, ◌≤◌, ◌<◌}
use mathlib.Core.Path.{◌≡◌, refl, sym, ap, ◌∙◌}
use mathlib.Core.Bool.{Bool, true}
use mathlib.Core.Logic.{◌≢◌, ⊎_elim}
use mathlib.Core.List.{List}
use native.Mathlib.Nat.{add_comm, mul-le-mul_right}
use native.Mathlib.Decide.{ℕ_discrete}
use native.Mathlib.Numerals.{add-one}
use native.Mathlib.Omega.{arith}
use lib.ListN.{length, get_or, set, length-set}
use lib.Seq.{get_or-set_same, get_or-set_other, get_or-drop, drop-set-lt}
use Rattle.network.specs.Network.{Network, Arc, node_count, arc_count, neighbours_of}
use Rattle.network.specs.Accepted.{Accepted}
use Rattle.network.specs.Walk.{step}
use Rattle.network.specs.Distance.{NONE}
use borrow.Author.Tests.{ltb-true}
use Rattle.network.specs.Points.{lockers, marked, is_nearer, count_nearer}
use Rattle.network.proofs.Ranges.{neighbours_length, start_most}
use Rattle.network.proofs.NumberZero.{accepted_ranges}
use Rattle.network.proofs.Distances.{dist_walk}
use Rattle.network.proofs.Rank.{nearer_passes}
use Rattle.network.proofs.Totals.{total_same, sum_le, sum_different}
use Rattle.expansion.specs.Queue.{LeastDistance, PushedAt, PoppedAt, key_of}
use Rattle.expansion.specs.Tags.{tag_of, tag_node, tag_parent}
use Rattle.expansion.specs.Area.{Kept}
use Rattle.lazy_searches.specs.Second.{row_distance, point_of, beside_of, far_of, words_base, second_base, second_queue, row_ids, row_words, id_at, word_at, Source, Second, SecondSound, spread, work, CanTake, CanAdmit, OfferedSecond, Admitted, Advanced, is_below, Closed}
use Rattle.searches.proofs.Beaten.{Part, part_marked}
use Rattle.expansion.proofs.TagLaws.{no_later_key}
use Rattle.expansion.proofs.AreaLaws.{kept_same}
use Rattle.network.proofs.Lends.{row_fits, mid_length, mid_at}
use Rattle.lazy_searches.proofs.RowLaws.{same_place, word_suc, word_below, total_less}

-- what is sound for some marks is for more
pub source_part : {g : Network} {M N : List ℕ} {u p d : ℕ} → Part M N → Source g M u p d → Source g N u p d
source_part {M} {N} {p} sub s = record { inside = s.inside; point = part_marked M N p sub s.point; walk = s.walk }

source_same : {g : Network} {M : List ℕ} {u v p q d e : ℕ} → u ≡ v → p ≡ q → d ≡ e → Source g M v q e → Source g M u p d
source_same a b c s = rw (a, b, c) s

pub sound_part : {g : Network} {M N xs : List ℕ} {k len : ℕ} → Part M N → SecondSound g M xs k len → SecondSound g N xs k len
sound_part sub s =
    record {
      stands = λ u j d h l e. source_part sub (s.stands u j d h l e);
      waits = λ key h. source_part sub (s.waits key h);
    }

-- words that are all 0: no place is taken, and nothing waits
module _ {g : Network} {xs : List ℕ} {k : ℕ} (zeros : (j : ℕ) → node_count g ≤ j → get_or xs j 0 ≡ 0) where
  pub second_start : second_base (node_count g) k ≤ length xs → Second g xs k 0
  second_start h =
      record {
        fits = h;
        queue =
            record {
              room = omega arith;
              ordered = λ i l m. absurd (omega arith);
              zeros = λ j l. get_or-drop (second_base (node_count g) k) xs j 0 ∙ zeros (second_base (node_count g) k + j) (omega arith);
            };
        points = λ key o. absurd (omega (arith, o.inside));
        nodes = λ key o. absurd (omega (arith, o.inside));
        distinct = λ u i j l m o a. absurd (a (zeros (words_base (node_count g) k + u * k + i) (omega arith)));
      }

  pub sound_start : (M : List ℕ) → SecondSound g M xs k 0
  sound_start M =
      record {
        stands = λ u j d l m e. absurd (omega (arith, zeros (words_base (node_count g) k + u * k + j) (omega arith)));
        waits = λ key o. absurd (omega (arith, o.inside));
      }

-- the rows, where the words before the queue stay
module _ {n k : ℕ} {xs ys : List ℕ} (same : Kept xs ys (second_base n k)) (u j : ℕ) (h : u < n) (l : j < k) where
  pub id_kept : id_at n k ys u j ≡ id_at n k xs u j
  id_kept = same.words (n + u * k + j) (omega (arith, row_fits u n k h))

  pub word_kept : word_at n k ys u j ≡ word_at n k xs u j
  word_kept = same.words (words_base n k + u * k + j) (omega (arith, row_fits u n k h))

pub spread_kept : (n k : ℕ) {xs ys : List ℕ} → Kept xs ys (second_base n k) → spread n k ys ≡ spread n k xs
spread_kept n k {xs} {ys} same =
    total_same (λ i. row_distance (get_or xs (words_base n k + i) 0)) (λ i. row_distance (get_or ys (words_base n k + i) 0)) (n * k)
    (λ x h. ap row_distance (same.words (words_base n k + x) (omega arith)))

-- ---- The queue alone changes: what is held then is sound.
module _ {g : Network} {k : ℕ} {xs ys : List ℕ} (same : Kept xs ys (second_base (node_count g) k)) where
  distinct_kept : {len : ℕ} → Second g xs k len
      → (u i j : ℕ) → u < node_count g → i < k → j < k → word_at (node_count g) k ys u i ≢ 0 → word_at (node_count g) k ys u j ≢ 0
      → id_at (node_count g) k ys u i ≡ id_at (node_count g) k ys u j → i ≡ j
  distinct_kept s u i j h l m a b e =
      s.distinct u i j h l m (rw (word_kept same u i h l) at a) (rw (word_kept same u j h m) at b)
      (sym (id_kept same u i h l) ∙ e ∙ id_kept same u j h m)

  stands_kept : {M : List ℕ} {len : ℕ} → SecondSound g M xs k len
      → (u j d : ℕ) → u < node_count g → j < k → word_at (node_count g) k ys u j ≡ suc d → Source g M u (id_at (node_count g) k ys u j) d
  stands_kept s u j d h l e = rw (id_kept same u j h l) (s.stands u j d h l (sym (word_kept same u j h l) ∙ e))

-- ---- Offering.
module _ {g : Network} {xs : List ℕ} {k len p u d : ℕ} where
  pub offered_none : Second g xs k len → OfferedSecond g xs xs k len len p u d 0
  offered_none s = record { frame = kept_same; grown = omega arith; second = s; sound = λ M o s. s }

  module _ {ys : List ℕ} {more j : ℕ} (f : OfferedSecond g xs ys k len more p u d j) where
    -- the queue is full
    pub offered_skip : OfferedSecond g xs ys k len more p u d (j + 1)
    offered_skip = record { frame = f.frame; grown = omega (arith, f.grown); second = f.second; sound = f.sound }

    -- an arc leads to c
    pub offered_push : {zs : List ℕ} {c w : ℕ} → Accepted g → p < node_count g → Arc g u c w
        → PushedAt ys zs (second_base (node_count g) k) more (key_of (d + w) (tag_of p c)) → OfferedSecond g xs zs k len (more + 1) p u d (j + 1)
    offered_push {zs} {c} {w} ok h r t =
        record {
          frame = record { size = t.size ∙ f.frame.size; words = λ i l. t.before i l ∙ f.frame.words i l };
          grown = omega (arith, f.grown);
          second =
              record {
                fits = omega (arith, t.size, f.second.fits);
                queue = t.queue.queue;
                points = λ key o. ⊎_elim (λ a. f.second.points key a) (λ e. omega (arith, point_new, ap point_of e)) ((t.queue.holds key).0 o);
                nodes = λ key o. ⊎_elim (λ a. f.second.nodes key a) (λ e. omega (arith, node_new, ap beside_of e, low)) ((t.queue.holds key).0 o);
                distinct = distinct_kept same f.second;
              };
          sound =
              λ M o s.
              let b = f.sound M o s in
              record {
                stands = stands_kept same b;
                waits =
                    λ key a.
                    ⊎_elim (λ x. b.waits key x) (λ e. source_same (ap beside_of e ∙ node_new) (ap point_of e ∙ point_new) (ap far_of e ∙ far_new) (there M o)) ((t.queue.holds key).0 a);
              };
        }
      where
        low : c < node_count g
        low = ok.leads_in r

        same : Kept ys zs (second_base (node_count g) k)
        same = record { size = t.size; words = t.before }

        point_new : point_of (key_of (d + w) (tag_of p c)) ≡ p
        point_new = omega (arith, low, ok.few)

        node_new : beside_of (key_of (d + w) (tag_of p c)) ≡ c
        node_new = omega (arith, low, ok.few)

        far_new : far_of (key_of (d + w) (tag_of p c)) ≡ d + w
        far_new = omega (arith, low, ok.few)

        there : (M : List ℕ) → Source g M u p d → Source g M c p (d + w)
        there M o = record { inside = o.inside; point = o.point; walk = rw (add_comm d w) (step (ok.returns r) o.walk) }

-- ---- Taking a place: p, at distance d, at place i of u's row.
module _ {g : Network} {xs : List ℕ} {k len p u d i : ℕ} (c : CanAdmit g xs k len p u d) (f : CanTake (row_ids (node_count g) k xs u) (row_words (node_count g) k xs u) p d i) where
  size : length (row_words (node_count g) k xs u) ≡ k
  size = mid_length (words_base (node_count g) k + u * k) k xs (omega (arith, row_fits u (node_count g) k c.inside, c.second.fits))

  low : i < k
  low = omega (arith, f.low, size)

  abbrev n : ℕ
  n = node_count g

  abbrev ids : ℕ
  ids = node_count g + u * k + i

  abbrev words : ℕ
  words = words_base (node_count g) k + u * k + i

  abbrev taken : List ℕ
  taken = set (set xs ids p) words (d + 1)

  row : (u * k + k ≤ n * k) × (i < k)
  row = (row_fits u n k c.inside, low)

  fits : words < length xs
  fits = omega (arith, row, c.second.fits)

  other : (j : ℕ) → j ≢ ids → j ≢ words → get_or taken j 0 ≡ get_or xs j 0
  other j a b = get_or-set_other (set xs ids p) words j (d + 1) 0 b ∙ get_or-set_other xs ids j p 0 a

  queue_same : second_queue n k taken ≡ second_queue n k xs
  queue_same =
      drop-set-lt (second_base n k) (set xs ids p) words (d + 1) (omega (arith, row)) ∙ drop-set-lt (second_base n k) xs ids p (omega (arith, row))

  id_here : get_or taken ids 0 ≡ p
  id_here =
      get_or-set_other (set xs ids p) words ids (d + 1) 0 (omega (arith, row))
      ∙ get_or-set_same xs ids p 0 (omega (arith, fits))

  word_here : get_or taken words 0 ≡ d + 1
  word_here = get_or-set_same (set xs ids p) words (d + 1) 0 (simp length-set fits)

  -- the other places
  module _ (v j : ℕ) (h : v < n) (l : j < k) (ne : (v ≡ u) × (j ≡ i) → ⊥) where
    apart : v * k + j ≢ u * k + i
    apart e = ne (same_place k v j u i l low e)

    id_other : id_at n k taken v j ≡ id_at n k xs v j
    id_other = other (n + v * k + j) (λ e. apart (omega arith)) (omega (arith, row_fits v n k h))

    word_other : word_at n k taken v j ≡ word_at n k xs v j
    word_other = other (words_base n k + v * k + j) (omega (arith, row)) (λ e. apart (omega arith))

  -- p stands nowhere else in the row
  new : (j : ℕ) → j < k → j ≢ i → word_at n k taken u j ≢ 0 → id_at n k taken u j ≢ p
  new j l m w e =
      let ne : (u ≡ u) × (j ≡ i) → ⊥ = λ s. m s.1 in
      f.absent j (omega (arith, size)) (rw (← mid_at (words_base n k + u * k) k xs j l) at (rw (word_other u j c.inside l ne) at w))
      (mid_at (n + u * k) k xs j l ∙ sym (id_other u j c.inside l ne) ∙ e)

  pub taken_second : Second g taken k len
  taken_second =
      record {
        fits = simp length-set c.second.fits;
        queue = rw queue_same c.second.queue;
        points = λ key h. c.second.points key (rw queue_same at h);
        nodes = λ key h. c.second.nodes key (rw queue_same at h);
        distinct = distinct;
      }
    where
      distinct : (v a b : ℕ) → v < n → a < k → b < k → word_at n k taken v a ≢ 0 → word_at n k taken v b ≢ 0 → id_at n k taken v a ≡ id_at n k taken v b → a ≡ b
      distinct v a b h l m x y e =
          elim (ℕ_discrete v u) [
            | no ne ↦ old (λ s. ne s.0) (λ s. ne s.0)
            | yes s ↦
                elim (ℕ_discrete a i) [
                  | yes q ↦
                      elim (ℕ_discrete b i) [
                        | yes r ↦ q ∙ sym r
                        | no r ↦ absurd (new b m r (rw s at y) (sym (rw (s, q) at e) ∙ id_here))
                      ]
                  | no q ↦
                      elim (ℕ_discrete b i) [
                        | yes r ↦ absurd (new a l q (rw s at x) ((rw (s, r) at e) ∙ id_here))
                        | no r ↦ old (λ z. q z.1) (λ z. r z.1)
                      ]
                ]
          ]
        where
          old : ((v ≡ u) × (a ≡ i) → ⊥) → ((v ≡ u) × (b ≡ i) → ⊥) → a ≡ b
          old p q =
              c.second.distinct v a b h l m (rw (word_other v a h l p) at x) (rw (word_other v b h m q) at y)
              (sym (id_other v a h l p) ∙ e ∙ id_other v b h m q)

  pub taken_sound : (M : List ℕ) → Source g M u p d → SecondSound g M xs k len → SecondSound g M taken k len
  taken_sound M o s =
      record { stands = stands; waits = λ key h. s.waits key (rw queue_same at h) }
    where
      stands : (v j e : ℕ) → v < n → j < k → word_at n k taken v j ≡ suc e → Source g M v (id_at n k taken v j) e
      stands v j e h l is =
          elim (ℕ_discrete v u) [
            | no ne ↦ old (λ s. ne s.0)
            | yes a ↦
                elim (ℕ_discrete j i) [
                  | no ne ↦ old (λ s. ne s.1)
                  | yes b ↦ let q : e ≡ d = omega (arith, sym (rw (a, b) at is) ∙ word_here) in rw (a, b, id_here, q) o
                ]
          ]
        where
          old : ((v ≡ u) × (j ≡ i) → ⊥) → Source g M v (id_at n k taken v j) e
          old ne = rw (id_other v j h l ne) (s.stands v j e h l (sym (word_other v j h l ne) ∙ is))

  pub taken_less : spread n k taken < spread n k xs
  taken_less =
      total_less (λ x. row_distance (get_or xs (words_base n k + x) 0)) (λ x. row_distance (get_or taken (words_base n k + x) 0)) (u * k + i) (n * k)
      (omega (arith, row)) (rw (at taken, at xs, word_here, add-one d, word_suc d) (rw (mid_at (words_base n k + u * k) k xs i low) at f.farther))
      (λ x h m. ap row_distance (other (words_base n k + x) (omega (arith, row)) (omega arith)))
    where
      at : (l : List ℕ) → get_or l (words_base n k + (u * k + i)) 0 ≡ get_or l words 0
      at l = let e : words_base n k + (u * k + i) ≡ words = omega arith in ap (λ (x : ℕ). get_or l x 0) e

  taken_frame : Kept xs taken n
  taken_frame = record { size = simp length-set; words = λ j h. other j (omega arith) (omega arith) }

  -- then it is offered
  pub admitted : {ys : List ℕ} {r : ℕ} → OfferedSecond g taken ys k len r p u d (length (neighbours_of g u)) → Admitted g xs ys k len r p u d
  admitted {ys} {r} o =
      record {
        frame = record { size = o.frame.size ∙ taken_frame.size; words = λ j h. o.frame.words j (omega arith) ∙ taken_frame.words j h };
        second = o.second;
        sound = λ M s t. o.sound M s (taken_sound M s t);
        less = falls (spread n k ys) (spread n k xs) (arc_count g) (omega (arith, spread_kept n k o.frame, taken_less)) (omega (arith, o.grown, few));
      }
    where
      few : length (neighbours_of g u) ≤ arc_count g
      few =
          omega (
            arith,
            neighbours_length (accepted_ranges c.accepted) u c.inside,
            start_most (accepted_ranges c.accepted) (suc u) (omega (arith, c.inside)),
          )

      falls : (a b m : ℕ) → a < b → r ≤ len + m → a * (m + 2) + r ≤ b * (m + 2) + len
      falls a b m h l = omega (arith, mul-le-mul_right (m + 2) h)

pub admitted_not : {g : Network} {xs : List ℕ} {k len p u d : ℕ} → Second g xs k len → Admitted g xs xs k len len p u d
admitted_not s = record { frame = kept_same; second = s; sound = λ M o s. s; less = omega arith }

-- ---- Advancing: an entry leaves the queue, and its point comes to its node.
pub advanced_none : {g : Network} {xs : List ℕ} {k len : ℕ} → Second g xs k len → Advanced g xs xs k len len
advanced_none s = record { frame = kept_same; second = s; sound = λ M s. s }

module _ {g : Network} {xs ys zs : List ℕ} {k len left : ℕ} (far tag : ℕ) (a : Advanced g xs ys k len left)
    (t : PoppedAt ys zs (second_base (node_count g) k) left (key_of far tag)) (fits : tag < 4294967296) where
  popped_frame : Kept ys zs (second_base (node_count g) k)
  popped_frame = record { size = t.size; words = t.before }

  pub popped_second : Second g zs k (left - 1)
  popped_second =
      record {
        fits = omega (arith, t.size, a.second.fits);
        queue = t.queue.queue;
        points = λ key h. a.second.points key (t.queue.old key h);
        nodes = λ key h. a.second.nodes key (t.queue.old key h);
        distinct = distinct_kept popped_frame a.second;
      }

  pub popped_point : tag_node tag < node_count g
  popped_point = omega (arith, a.second.points (key_of far tag) t.queue.was)

  pub popped_node : tag_parent tag < node_count g
  popped_node = omega (arith, a.second.nodes (key_of far tag) t.queue.was)

  -- its distance is no more than the least that waited
  pub popped_low : {r : ℕ} → LeastDistance (second_queue (node_count g) k ys) left r → far ≤ r
  popped_low h = omega (arith, no_later_key (key_of far tag) h.key (t.queue.first h.key h.holds), h.is)

  popped_sound : (M : List ℕ) → SecondSound g M ys k left → SecondSound g M zs k (left - 1)
  popped_sound M s = record { stands = stands_kept popped_frame s; waits = λ key h. s.waits key (t.queue.old key h) }

  source : (M : List ℕ) → SecondSound g M ys k left → Source g M (tag_parent tag) (tag_node tag) far
  source M s =
      let e : beside_of (key_of far tag) ≡ tag_parent tag = omega arith in
      let h : point_of (key_of far tag) ≡ tag_node tag = omega arith in
      let l : far_of (key_of far tag) ≡ far = omega arith in
      source_same (sym e) (sym h) (sym l) (s.waits (key_of far tag) t.queue.was)

  module _ {ws : List ℕ} {r : ℕ} (b : Admitted g zs ws k (left - 1) r (tag_node tag) (tag_parent tag) far) where
    pub advanced_more : Advanced g xs ws k len r
    advanced_more =
        record {
          frame =
              record {
                size = b.frame.size ∙ t.size ∙ a.frame.size;
                words = λ i h. b.frame.words i h ∙ t.before i (omega arith) ∙ a.frame.words i h;
              };
          second = b.second;
          sound = λ M s. let o = a.sound M s in b.sound M (source M o) (popped_sound M o);
        }

    pub advanced_less : 0 < left → work g k ws r < work g k ys left
    advanced_less some = omega (arith, b.less, ap (λ (x : ℕ). x * (arc_count g + 2)) (spread_kept (node_count g) k popped_frame))

-- ---- Pruning: where k lockers stand in u's row at distances below l, k lockers of the marks are nearer to u than l, as each mark has all of P's.
pub closed_nearer : {g : Network} {P M xs : List ℕ} {k len u l : ℕ} → Accepted g → Second g xs k len → SecondSound g M xs k len
    → ((p : ℕ) → marked M p ≡ true → lockers P p ≤ lockers M p) → u < node_count g → l ≤ NONE → Closed P (node_count g) xs k u l → k ≤ count_nearer g M u l
unfolding count_nearer
closed_nearer {g} {P} {M} {xs} {k} {len} {u} {l} ok second sound all h top c =
    omega (
      arith,
      c.enough,
      sum_le below below (λ j. lockers P (id j)) (λ j. lockers M (id j)) k (λ j m a. (a, all (id j) (source j m a).1.point)),
      sum_different below (is_nearer g M u l) id (lockers M) (node_count g) k nearer
          (λ i j a b e f. second.distinct u i j h a b (filled i e) (filled j f)),
    )
  where
    id : ℕ → ℕ
    id = id_at (node_count g) k xs u

    below : ℕ → Bool
    below = is_below (node_count g) k xs u l

    less : (j : ℕ) → below j ≡ true → row_distance (word_at (node_count g) k xs u j) < l
    less j a = ltb-true (row_distance (word_at (node_count g) k xs u j)) l a

    filled : (j : ℕ) → below j ≡ true → word_at (node_count g) k xs u j ≢ 0
    filled j a = word_below (word_at (node_count g) k xs u j) l top (less j a)

    source : (j : ℕ) → j < k → below j ≡ true → (d : ℕ) × Source g M u (id j) d × (d < l)
    source j m a = by (word_at (node_count g) k xs u j) refl
      where
        by : (w : ℕ) → word_at (node_count g) k xs u j ≡ w → (d : ℕ) × Source g M u (id j) d × (d < l)
        by zero e = absurd (filled j a e)
        by (suc d) e = (d, sound.stands u j d h m e, omega (arith, word_suc d, ap row_distance e, less j a))

    nearer : (j : ℕ) → j < k → below j ≡ true → (id j < node_count g) × (is_nearer g M u l (id j) ≡ true)
    nearer j m a =
        let s = source j m a in (
          s.1.inside,
          nearer_passes (record { inside = s.1.inside; point = s.1.point; less = omega (arith, (dist_walk ok s.1.walk).most, s.2) }),
        )
