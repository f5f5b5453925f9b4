-- Lazy comes to a node and verifies it, where it is a point: its found flag, and the counts of the nodes to which it is nearer than the site.
-- Assumes nothing.
use Prim.Native.Nat.{ℕ, ◌+◌, ◌≤◌, ◌<◌}
use mathlib.Core.Path.{◌≡◌, refl, sym, ap, ◌∙◌}
use mathlib.Core.Bool.{true, false, false≢true}
use mathlib.Core.Logic.{◌≢◌, ◌⊎◌, inl, inr, ⊎_elim}
use mathlib.Core.List.{List, ◌++◌}
use native.Mathlib.Decide.{dec_lt}
use native.Mathlib.Omega.{arith}
use lib.ListN.{length, get_or, set, take, drop, length-set, get_or-eq_default}
use lib.Seq.{get_or-set_same, get_or-set_other, get_or-take, length-take-le}
use lib.Dec.{ltb}
use borrow.Author.Tests.{ltb-true, lt-ltb}
use Rattle.network.specs.Network.{Network, node_count}
use Rattle.network.specs.Distance.{dist}
use Rattle.network.specs.Points.{lockers, is_listed}
use Rattle.expansion.specs.declared.verify.VisitEnd.{VisitEnd}
use Rattle.expansion.specs.Area.{AmongSettled, Area, Wiped}
use Rattle.expansion.specs.declared.verify.Site.TheVariants.{One}
use Rattle.expansion.specs.Visited.{CanVisit, Visited}
use Rattle.expansion.specs.Expand.{word_distance, label_in, settled_in}
use Rattle.expansion.proofs.AreaSearch.{word_label}
use Rattle.expansion.proofs.Settled.{label_settled}
use Rattle.expansion.proofs.Beside.{Beside, area_beside}
use Rattle.lazy_searches.specs.Lazy.{visit_base, is_less, CanCount, CountedAll, CanDiscover, CountedBy, Discovered}
use Rattle.searches.proofs.Listed.{listed_parts, listed_verified, verified_listed}
use Rattle.network.proofs.Tests.{and_parts}
use Rattle.network.proofs.Lends.{first_size, first_part, first_after}
use Rattle.lazy_searches.proofs.Places.{place_labelled, places_distinct}

-- the two halves of the test
less_parts : (near far l : ℕ) → is_less near far l ≡ true → (near < far) × (near < l)
less_parts near far l e = let p = and_parts (ltb near far) (ltb near l) e in (ltb-true near far p.0, ltb-true near l p.1)

module _ {g : Network} {P : List ℕ} {q k : ℕ} {xs : List ℕ} {b v : ℕ} (c : CanDiscover g P q k xs b v) where
  fits : b ≤ length xs
  fits = omega (arith, c.fits)

  pub part_length : length (take b xs) ≡ b
  part_length = length-take-le b xs fits

  -- the node is no point
  pub discovered_none : {l : ℕ} → get_or P v 0 ≡ 0 → Discovered g P q k xs xs b v l
  discovered_none n =
      record {
        size = refl;
        words = λ i h. refl;
        blank = c.blank;
        others = λ p h m. refl;
        sound = c.sound;
        told = λ a. absurd (omega (arith, n, ltb-true 0 (get_or P v 0) ((listed_parts g P q k v).0 a).mark));
        counts = λ u h. inl refl;
      }

  -- what the verification requires of the words before the search's area
  pub can_visit : CanVisit g P (take b xs) (visit_base (node_count g)) v (One q)
  can_visit =
      record {
        expand = record { accepted = c.accepted; inside = c.inside; blank = record { zero = zeros }; size = omega (arith, part_length, c.base) };
        inside = c.site;
        points = c.points;
      }
    where
      zeros : (j : ℕ) → visit_base (node_count g) ≤ j → get_or (take b xs) j 0 ≡ 0
      zeros j h =
          elim (dec_lt j b) [
            | yes m ↦ get_or-take b xs j 0 m ∙ c.blank j h m
            | no m ↦ get_or-eq_default (take b xs) 0 (omega (arith, part_length))
          ]

  -- ---- The verification has ended.
  module _ {zs : List ℕ} {r : VisitEnd} (w : Visited g P v (One q) k (take b xs) zs (visit_base (node_count g)) r) where
    inner : (i : ℕ) → i < b → get_or (zs ++ drop b xs) i 0 ≡ get_or zs i 0
    inner = first_part b xs zs fits w.frame.size

    outer : (i : ℕ) → b ≤ i → get_or (zs ++ drop b xs) i 0 ≡ get_or xs i 0
    outer = first_after b xs zs fits w.frame.size

    front : (i : ℕ) → i < visit_base (node_count g) → get_or (zs ++ drop b xs) i 0 ≡ get_or xs i 0
    front i h = inner i (omega (arith, c.base)) ∙ w.frame.words i h ∙ get_or-take b xs i 0 (omega (arith, c.base))

    few : r.settled ≤ node_count g
    few = omega (arith, w.area.counted)

    place : (i : ℕ) → i < r.settled → settled_in (node_count g) (zs ++ drop b xs) (visit_base (node_count g)) i ≡ settled_in (node_count g) zs (visit_base (node_count g)) i
    place i h = inner (visit_base (node_count g) + node_count g + i) (omega (arith, few, c.base))

    pub visit_size : length (zs ++ drop b xs) ≡ length xs
    visit_size = first_size b xs zs fits w.frame.size

    pub can_count : {more : ℕ} → more ≤ 255 → CanCount (node_count g) (zs ++ drop b xs) b r.settled more
    can_count byte =
        record {
          bound = c.accepted.few;
          low = omega (arith, c.base);
          fits = omega (arith, c.fits, visit_size);
          few = few;
          small = λ u h. omega (arith, front u (omega arith), c.small u h);
          nodes = λ i h. rw (place i h) (w.area.nodes i h);
          distinct = λ i j h m e. places_distinct w.area i j h m (sym (place i h) ∙ e ∙ place j m);
        }

    -- ---- The nodes that it settled are counted.
    module _ {l more : ℕ} {us : List ℕ} (t : CountedAll (node_count g) (zs ++ drop b xs) us b r.settled l more) where
      pub count_size : length us ≡ length xs
      count_size = t.size ∙ visit_size

      fits_us : b ≤ length us
      fits_us = omega (arith, count_size, fits)

      pub count_part : length (take b us) ≡ b
      count_part = length-take-le b us fits_us

      pub area_still : Area (node_count g) (take b us) (visit_base (node_count g)) r.settled r.len
      area_still = area_beside same w.area
        where
          same : Beside zs (take b us) (visit_base (node_count g))
          same =
              record {
                size = count_part ∙ sym (w.frame.size ∙ part_length);
                words =
                    λ i h.
                    elim (dec_lt i b) [
                      | yes m ↦ get_or-take b us i 0 m ∙ t.words i (omega arith) ∙ inner i m
                      | no m ↦
                          get_or-eq_default (take b us) 0 (omega (arith, count_part))
                          ∙ sym (get_or-eq_default zs 0 (omega (arith, w.frame.size, part_length)))
                    ];
              }

      -- the point is nearer to u than the site
      near : (u : ℕ) → AmongSettled (node_count g) (zs ++ drop b xs) (visit_base (node_count g)) r.settled u → u < node_count g
          → label_in (node_count g) (zs ++ drop b xs) (visit_base (node_count g)) u ≡ dist g v u
      near u s h =
          let e = sym (place s.place s.low) ∙ s.is in
          let d = word_label {n = node_count g} {xs = zs} (visit_base (node_count g)) u h (rw e at (place_labelled w.area s.place s.low)) in
          ap (word_distance (node_count g)) (inner (visit_base (node_count g) + u) (omega (arith, c.base))) ∙ label_settled d.1 ∙ w.exact u d.0 d.1

      -- ---- Its area is cleared.
      module _ {vs : List ℕ} (e : Wiped (take b us) vs (visit_base (node_count g))) where
        pub clear_size : length (vs ++ drop b us) ≡ length xs
        clear_size = first_size b us vs fits_us e.frame.size ∙ count_size

        low_word : (i : ℕ) → i < visit_base (node_count g) → get_or (vs ++ drop b us) i 0 ≡ get_or us i 0
        low_word i h =
            first_part b us vs fits_us e.frame.size i (omega (arith, c.base)) ∙ e.frame.words i h ∙ get_or-take b us i 0 (omega (arith, c.base))

        flag : (p : ℕ) → p < node_count g → get_or (vs ++ drop b us) (node_count g + p) 0 ≡ get_or xs (node_count g + p) 0
        flag p h = low_word (node_count g + p) (omega arith) ∙ t.words (node_count g + p) (omega arith) ∙ front (node_count g + p) (omega arith)

        behind : (i : ℕ) → b ≤ i → get_or (vs ++ drop b us) i 0 ≡ get_or xs i 0
        behind i h = first_after b us vs fits_us e.frame.size i h ∙ t.words i (omega (arith, c.base)) ∙ outer i h

        -- the number added is that of v's lockers
        abbrev Byte : Type 0
        Byte = (more ≡ lockers P v) × (more ≤ 255)

        counts : Byte → (u : ℕ) → u < node_count g → (get_or (vs ++ drop b us) u 0 ≡ get_or xs u 0) ⊎ CountedBy g P xs (vs ++ drop b us) b l v u
        counts byte u h =
            ⊎_elim
            (λ a. inl (low_word u (omega arith) ∙ a ∙ front u (omega arith)))
            (λ a.
            let far : label_in (node_count g) (zs ++ drop b xs) b u ≡ label_in (node_count g) xs b u = ap (word_distance (node_count g)) (outer (b + u) (omega arith)) in
            let less = less_parts (dist g v u) (label_in (node_count g) xs b u) l (rw (near u a.0 h, far) at a.1.less) in
            inr
            (record {
              byte = omega (arith, byte.0, byte.1);
              more = omega (arith, byte.0, low_word u (omega arith), a.1.more, front u (omega arith));
              ahead = less.1;
              behind = λ m y. omega (arith, label_settled y, less.0);
            }))
            (t.counts u h)

        -- only v's flag changes then, and is right
        discovered_by : Byte → {ws : List ℕ} → length ws ≡ length (vs ++ drop b us)
            → ((i : ℕ) → i ≢ node_count g + v → get_or ws i 0 ≡ get_or (vs ++ drop b us) i 0)
            → (get_or ws (node_count g + v) 0 ≢ 0 → is_listed g P q k v ≡ true) → (is_listed g P q k v ≡ true → get_or ws (node_count g + v) 0 ≢ 0)
            → Discovered g P q k xs ws b v l
        discovered_by byte {ws} size other sound told =
            record {
              size = size ∙ clear_size;
              words = λ i h. other i (omega (arith, c.base, c.inside)) ∙ behind i h;
              blank = λ j h m. other j (omega (arith, c.inside)) ∙ first_part b us vs fits_us e.frame.size j m ∙ e.blank.zero j h;
              others = λ p h n. other (node_count g + p) (omega arith) ∙ flag p h;
              sound = sound;
              told = told;
              counts =
                  λ u h.
                  let same = other u (omega (arith, h)) in
                  ⊎_elim
                  (λ a. inl (same ∙ a))
                  (λ a. inr (record { byte = a.byte; more = same ∙ a.more; ahead = a.ahead; behind = a.behind }))
                  (counts byte u h);
            }

        pub discovered_yes : Byte → more ≢ 0 → r.yes ≡ true → Discovered g P q k xs (set (vs ++ drop b us) (node_count g + v) 1) b v l
        discovered_yes byte p y =
            let mark = lt-ltb 0 (get_or P v 0) (omega (arith, p, byte.0)) in
            let one = get_or-set_same (vs ++ drop b us) (node_count g + v) 1 0 (omega (arith, clear_size, c.fits, c.base, c.inside)) in
            discovered_by byte (length-set (vs ++ drop b us) (node_count g + v) 1)
            (λ i n. get_or-set_other (vs ++ drop b us) (node_count g + v) i 1 0 n)
            (λ n. verified_listed g P q k v mark (sym w.answer ∙ y))
            (λ a z. omega arith)

        pub discovered_no : Byte → r.yes ≡ false → Discovered g P q k xs (vs ++ drop b us) b v l
        discovered_no byte y =
            discovered_by byte refl (λ i n. refl)
            (λ n. c.sound (rw (flag v c.inside) at n))
            (λ a. absurd (false≢true (sym y ∙ w.answer ∙ listed_verified g P q k v a)))
