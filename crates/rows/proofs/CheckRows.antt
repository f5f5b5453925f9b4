-- The tests of one row, as the properties of the list of its entries: a row that is not bad is sorted and padded; what it holds are its members; what
-- asks for no place in it is placed.
-- Assumes nothing.
use Prim.Native.Nat.{ℕ, zero, suc, ◌+◌, ◌-◌, ◌≤◌, ◌<◌}
use mathlib.Core.Path.{◌≡◌, refl, sym, ap, ◌∙◌}
use mathlib.Core.Bool.{Bool, true, false, cond, not, ◌&&◌}
use mathlib.Core.Logic.{◌≢◌, ◌⊎◌, inl, inr, ⊎_elim}
use mathlib.Core.List.Memᴰ
use mathlib.Core.List.{List, [], ◌∷◌, ◌++◌, Memᴰ}
use native.Mathlib.Nat.{eq-or-lt_of_le, le_of_suc-le-suc, zero-add}
use native.Mathlib.Decide.{ℕ_discrete, dec_lt}
use native.Mathlib.Omega.{arith}
use lib.Dec.{eqb, ltb, leb}
use lib.ListN.{length, get_or, replicate, get_or-append}
use lib.Seq.{get_or-append-add}
use borrow.Author.Tests.{not-false, eq-eqb, ne_eqb, eqb-true, eqb-false, lt-ltb, le-ltb, le-leb, leb-true, leb-false, ltb-true, ltb-false, not-true}
use Rattle.network.specs.Distance.{NONE}
use Rattle.network.specs.Count.{any, count, bit}
use Rattle.network.specs.Points.{lockers}
use Rattle.network.specs.Nearest.{key}
use Rattle.network.specs.Order.{times}
use Rattle.network.specs.Rows.{pad}
use Rattle.network.proofs.Tests.{and_parts, and_intro, or_parts, or_cases, or_left, or_right, any_none, none_any, one_any, any_passes}
use Rattle.network.proofs.Counts.{member_at, count_same, count_up, count_still, count_without}
use Rattle.network.proofs.Ordered.{ordered_at, key_pair}
use Rattle.rows.specs.Exact.{Full, Sorted, Placed, stands, full}
use Rattle.rows.specs.Flat.{unpadded, place, places}
use Rattle.rows.specs.Check.{is_entry, row_holds, is_within, has_within, ends_by, is_placed, is_id, among, whole_before, repeats, begins, follows, bad_padding, bad_entry, bad_place, bad_row}
use Rattle.rows.proofs.Flat.{filled_end, filled_more, filled_nil, places_length, places_at, place_in, in_place, places_ordered, places_once, filled_places, places_padded}
use Rattle.rows.proofs.Laid.{pad_at}
use Rattle.rows.proofs.CheckTests.{entry_yes, within_yes, whole_tested, begins_whole, repeats_same, follows_new, follows_again, padding_first, padding_later, entry_first, entry_later, place_padding, place_entry, among_start, among_more, among_other}

-- a row of two parts, and its entries
abbrev pub row_of : List ℕ → List ℕ → List (ℕ × ℕ)
row_of xs ys = places xs ys 0 (length xs)

abbrev pub entries : List ℕ → List ℕ → List (ℕ × ℕ)
entries xs ys = unpadded (row_of xs ys)

-- entries first, then padding in both
pub record Shape (xs ys : List ℕ) : Type 0 where
  pub size : ℕ
  pub low : size ≤ length xs
  pub some : (j : ℕ) → j < size → get_or xs j 0 ≢ NONE
  pub none : (j : ℕ) → size ≤ j → j < length xs → place xs ys j ≡ (NONE, NONE)

-- the entries are in order; an id stands at one distance, no more often than it has lockers, and so often, or the row is full and ends with it
pub record Good (P xs ys : List ℕ) : Type 0 where
  pub shape : Shape xs ys
  pub ordered : (j : ℕ) → suc j < shape.size → key (place xs ys j) ≤ key (place xs ys (suc j))
  pub once : (j l : ℕ) → j < l → l < shape.size → get_or xs j 0 ≡ get_or xs l 0 → get_or ys j 0 ≡ get_or ys l 0
  pub most : (p : ℕ) → among xs p shape.size ≤ lockers P p
  pub whole : (j : ℕ) → j < shape.size → among xs (get_or xs j 0) shape.size < lockers P (get_or xs j 0)
      → (shape.size ≡ length xs) × (key (place xs ys (length xs - 1)) ≤ key (place xs ys j))

-- a member of the entries, with its place
pub record Spot (xs ys : List ℕ) (size : ℕ) (z : ℕ × ℕ) : Type 0 where
  pub index : ℕ
  pub low : index < size
  pub is : z ≡ place xs ys index

module _ {xs ys : List ℕ} (s : Shape xs ys) where
  pub shape_entries : entries xs ys ≡ places xs ys 0 s.size
  shape_entries =
      filled_places xs ys 0 (length xs) s.size s.low
      (λ j h. rw (zero-add j) (s.some j h))
      (λ h. rw (zero-add s.size) (ap (λ (z : ℕ × ℕ). z.0) (s.none s.size (omega arith) h)))

  pub shape_length : length (entries xs ys) ≡ s.size
  shape_length = ap length shape_entries ∙ places_length xs ys 0 s.size

  pub shape_padded : row_of xs ys ≡ pad (length xs) (entries xs ys)
  shape_padded =
      places_padded xs ys 0 (length xs) s.size s.low (λ j h l. ap (place xs ys) (zero-add j) ∙ s.none j h l)
      ∙ ap (λ n. places xs ys 0 s.size ++ replicate (length xs - n) (NONE, NONE)) (sym shape_length)
      ∙ ap (λ l. l ++ replicate (length xs - length (entries xs ys)) (NONE, NONE)) (sym shape_entries)

  pub shape_in : (j : ℕ) → j < s.size → Memᴰ (place xs ys j) (entries xs ys)
  shape_in j h = rw shape_entries (rw (zero-add j) at (place_in xs ys 0 s.size j h))

  pub in_shape : (z : ℕ × ℕ) → Memᴰ z (entries xs ys) → Spot xs ys s.size z
  in_shape z m =
      let r = in_place xs ys 0 s.size z (rw shape_entries at m) in
      record { index = r.index; low = r.low; is = r.is ∙ ap (place xs ys) (zero-add r.index) }

  -- a place that is no padding is an entry's
  pub entry_low : (j : ℕ) → j < length xs → get_or xs j 0 ≢ NONE → j < s.size
  entry_low j h n =
      elim (dec_lt j s.size) [
        | yes l ↦ l
        | no q ↦ absurd (n (ap (λ (z : ℕ × ℕ). z.0) (s.none j (omega arith) h)))
      ]

  -- what the row holds are its members
  pub held_in : (p d : ℕ) → p ≢ NONE → row_holds xs ys p d ≡ true → Memᴰ (p, d) (entries xs ys)
  unfolding row_holds is_entry
  held_in p d n e =
      let r = any_passes (is_entry xs ys p d) (length xs) e in
      let q = and_parts (eqb (get_or xs r.at 0) p) _ r.passes in
      let u = eqb-true (get_or xs r.at 0) p q.0 in
      let v = eqb-true (get_or ys r.at 0) d q.1 in
      Memᴰ.cast (λ k. (sym u k, sym v k)) (shape_in r.at (entry_low r.at r.low (λ z. n (sym u ∙ z))))

  pub in_held : (p d : ℕ) → Memᴰ (p, d) (entries xs ys) → row_holds xs ys p d ≡ true
  unfolding row_holds
  in_held p d m =
      let r = in_shape (p, d) m in
      one_any (is_entry xs ys p d) (length xs) r.index (omega (arith, s.low, r.low))
      (entry_yes xs ys p d r.index (sym (ap (λ (z : ℕ × ℕ). z.0) r.is))
      (sym (ap (λ (z : ℕ × ℕ). z.1) r.is)))

-- how often an id stands among the places
count_front : (t : ℕ → Bool) (n : ℕ) → count t (suc n) ≡ bit (t 0) + count (λ j. t (suc j)) n
unfolding count
count_front t zero = omega arith
count_front t (suc n) = omega (arith, count_front t n)

times_from : (xs ys : List ℕ) (p at k : ℕ) → times p (places xs ys at k) ≡ count (λ j. eqb (get_or xs (at + j) 0) p) k
unfolding places count
times_from xs ys p at zero = refl
times_from xs ys p at (suc k) =
    let q : at + 0 ≡ at = omega arith in
    omega (
      arith,
      count_front (λ j. eqb (get_or xs (at + j) 0) p) k,
      times_from xs ys p (suc at) k,
      count_same (λ j. eqb (get_or xs (suc at + j) 0) p) (λ j. eqb (get_or xs (at + suc j) 0) p) k (λ j l. let r : at + suc j ≡ suc at + j = omega arith in rw r),
      ap (λ v. bit (eqb (get_or xs v 0) p)) q,
    )

pub times_places : (xs ys : List ℕ) (p k : ℕ) → times p (places xs ys 0 k) ≡ among xs p k
unfolding among is_id
times_places xs ys p k =
    times_from xs ys p 0 k ∙ count_same (λ j. eqb (get_or xs j 0) p) (λ j. eqb (get_or xs (0 + j) 0) p) k (λ j l. rw (zero-add j))

module _ (xs : List ℕ) (p : ℕ) where
  pub among_has : (n x : ℕ) → x < n → get_or xs x 0 ≡ p → 1 ≤ among xs p n
  unfolding among is_id
  among_has n x h e = omega (arith, count_without (λ j. eqb (get_or xs j 0) p) x n h (eq-eqb (get_or xs x 0) p e))

  pub among_up : (m n : ℕ) → m ≤ n → among xs p m ≤ among xs p n
  unfolding among
  among_up m n h = count_up (is_id xs p) m n h

  pub among_still : (m n : ℕ) → m ≤ n → ((x : ℕ) → m ≤ x → x < n → get_or xs x 0 ≢ p) → among xs p n ≡ among xs p m
  unfolding among is_id
  among_still m n h f = count_still (λ j. eqb (get_or xs j 0) p) m n h (λ x a b. ne_eqb (get_or xs x 0) p (f x a b))

  -- an earlier place that holds it
  pub record Earlier (n : ℕ) : Type 0 where
    pub at : ℕ
    pub low : at < n
    pub is : get_or xs at 0 ≡ p

  pub among_some : (n : ℕ) → among xs p n ≢ 0 → Earlier n
  among_some zero h = absurd (h (among_start xs p))
  among_some (suc n) h =
      elim (ℕ_discrete (get_or xs n 0) p) [
        | yes e ↦ record { at = n; low = omega arith; is = e }
        | no m ↦ let r = among_some n (λ z. h (among_other xs p n m ∙ z)) in record { at = r.at; low = omega (arith, r.low); is = r.is }
      ]

-- a good row is sorted, and p at distance d asks for no place in it exactly if it is placed
module _ {P xs ys : List ℕ} (r : Good P xs ys) where
  rises : (j l : ℕ) → j < l → l < r.shape.size → key (place xs ys j) ≤ key (place xs ys l)
  rises j zero h m = absurd (omega arith)
  rises j (suc l) h m =
      ⊎_elim
      (λ (e : j ≡ l). rw e (r.ordered l m))
      (λ g. omega (arith, rises j l g (omega arith), r.ordered l m))
      (eq-or-lt_of_le (le_of_suc-le-suc h))

  pub good_sorted : Sorted P (length xs) (entries xs ys)
  good_sorted =
      let e = shape_entries r.shape in
      record {
        ordered = rw e (places_ordered xs ys 0 r.shape.size (λ j h. rw (zero-add j, zero-add (suc j)) (r.ordered j h)));
        short = omega (arith, shape_length r.shape, r.shape.low);
        once = rw e (places_once xs ys 0 r.shape.size (λ j l h m. rw (zero-add j, zero-add l) (r.once j l h m)));
        most = λ p. rw (e, times_places xs ys p r.shape.size) (r.most p);
        whole = whole;
      }
    where
      whole : (p d : ℕ) → Memᴰ (p, d) (entries xs ys) → times p (entries xs ys) < lockers P p → Full (length xs) (entries xs ys) p d
      whole p d m l =
          let s = in_shape r.shape (p, d) m in
          let u : p ≡ get_or xs s.index 0 = ap (λ (z : ℕ × ℕ). z.0) s.is in
          let t : times p (entries xs ys) ≡ among xs p r.shape.size = ap (times p) (shape_entries r.shape) ∙ times_places xs ys p r.shape.size in
          let w = r.whole s.index s.low (rw (← u) (omega (arith, t, l))) in
          record {
            filled = omega (arith, shape_length r.shape, w.0);
            ends =
                λ y n.
                let v = in_shape r.shape y n in
                ⊎_elim
                (λ (q : v.index ≡ length xs - 1). omega (arith, ap (λ z. key (place xs ys z)) q, ap key v.is, ap key s.is, w.1))
                (λ q. omega (arith, rises v.index (length xs - 1) q (omega (arith, v.low, w.0)), ap key v.is, ap key s.is, w.1))
                (eq-or-lt_of_le (omega (arith, v.low, w.0)));
          }

  -- a full row ends with its last entry
  module _ (some : 1 ≤ length xs) where
    pub placed_in : (p d : ℕ) → p ≢ NONE → is_placed xs ys p d ≡ true → Placed (length xs) (entries xs ys) p d
    unfolding is_placed has_within is_within ends_by
    placed_in p d n e =
        ⊎_elim
        (λ h.
        let s = any_passes (is_within xs ys p d) (length xs) h in
        let q = and_parts (eqb (get_or xs s.at 0) p) _ s.passes in
        let u = eqb-true (get_or xs s.at 0) p q.0 in
        stands (leb-true (get_or ys s.at 0) d q.1)
        (Memᴰ.cast (λ k. (sym u k, get_or ys s.at 0)) (shape_in r.shape s.at (entry_low r.shape s.at s.low (λ z. n (sym u ∙ z))))))
        (λ h.
        let q = and_parts (not (eqb (get_or xs (length xs - 1) 0) NONE)) _ h in
        let u = eqb-false (get_or xs (length xs - 1) 0) NONE (not-true _ q.0) in
        let v = ltb-false (key (p, d)) (key (place xs ys (length xs - 1))) (not-true _ q.1) in
        let l = entry_low r.shape (length xs - 1) (omega arith) u in
        full
        (record {
          filled = omega (arith, shape_length r.shape, r.shape.low);
          ends = λ y m. let t = in_shape r.shape y m in before_last y t l v;
        }))
        (or_cases (any (is_within xs ys p d) (length xs)) _ e)
      where
        before_last : (y : ℕ × ℕ) (t : Spot xs ys r.shape.size y) → length xs - 1 < r.shape.size
            → key (place xs ys (length xs - 1)) ≤ key (p, d) → key y ≤ key (p, d)
        before_last y t l v =
            let w = ap key t.is in
            ⊎_elim
            (λ (q : t.index ≡ length xs - 1). omega (arith, ap (λ z. key (place xs ys z)) q))
            (λ q. omega (arith, rises t.index (length xs - 1) q l))
            (eq-or-lt_of_le (omega (arith, t.low, r.shape.low)))

    pub in_placed : (p d : ℕ) → Placed (length xs) (entries xs ys) p d → is_placed xs ys p d ≡ true
    unfolding is_placed has_within ends_by
    in_placed p d (stands {e} l m) =
        let s = in_shape r.shape (p, e) m in
        or_left (any (is_within xs ys p d) (length xs)) _
        (one_any (is_within xs ys p d) (length xs) s.index (omega (arith, s.low, r.shape.low))
        (within_yes xs ys p d s.index (sym (ap (λ (z : ℕ × ℕ). z.0) s.is))
        (omega (arith, ap (λ (z : ℕ × ℕ). z.1) s.is))))
    in_placed p d (full h) =
        let last : length xs - 1 < r.shape.size = omega (arith, shape_length r.shape, h.filled) in
        or_right (any (is_within xs ys p d) (length xs)) _
        (and_intro (not (eqb (get_or xs (length xs - 1) 0) NONE)) _
        (ap not (ne_eqb (get_or xs (length xs - 1) 0) NONE (r.shape.some (length xs - 1) last)))
        (ap not (le-ltb (key (p, d)) (key (place xs ys (length xs - 1))) (h.ends (place xs ys (length xs - 1)) (shape_in r.shape (length xs - 1) last)))))

-- what the test of a place says
module _ (P xs ys : List ℕ) (j : ℕ) (e : bad_place P xs ys j ≡ false) where
  module _ (n : get_or xs j 0 ≡ NONE) where
    padding_parts : (not (eqb (get_or ys j 0) NONE) ≡ false) × ((ltb 0 j && not (whole_before P xs j)) ≡ false)
    unfolding bad_place bad_padding
    padding_parts = or_parts (not (eqb (get_or ys j 0) NONE)) _ (rw (eq-eqb (get_or xs j 0) NONE n) at e)

    padded_both : place xs ys j ≡ (NONE, NONE)
    padded_both =
        let q : get_or ys j 0 ≡ NONE = eqb-true (get_or ys j 0) NONE (not-false _ padding_parts.0) in
        λ k. (n k, q k)

    padded_whole : 0 < j → lockers P (get_or xs (j - 1) 0) ≤ among xs (get_or xs (j - 1) 0) j
    unfolding whole_before
    padded_whole h = leb-true _ _ (not-false _ (rw (lt-ltb 0 j h) at padding_parts.1))

  module _ (n : get_or xs j 0 ≢ NONE) where
    parts : (leb (lockers P (get_or xs j 0)) (among xs (get_or xs j 0) j) ≡ false) × ((ltb 0 j && not (follows P xs ys j)) ≡ false)
    unfolding bad_place bad_entry
    parts = or_parts (leb (lockers P (get_or xs j 0)) (among xs (get_or xs j 0) j)) _ (rw (ne_eqb (get_or xs j 0) NONE n) at e)

    fewer : among xs (get_or xs j 0) j < lockers P (get_or xs j 0)
    fewer = leb-false (lockers P (get_or xs j 0)) (among xs (get_or xs j 0) j) parts.0

    following : 0 < j → (get_or xs (j - 1) 0 ≢ NONE) × (cond (eqb (among xs (get_or xs j 0) j) 0) (begins P xs ys j) (repeats xs ys j) ≡ true)
    unfolding follows
    following h =
        let q = not-false _ (rw (lt-ltb 0 j h) at parts.1) in
        let r = and_parts (not (eqb (get_or xs (j - 1) 0) NONE)) _ q in
        (eqb-false (get_or xs (j - 1) 0) NONE (not-true _ r.0), r.1)

    -- its node is new, or it repeats the place before it
    beginning : 0 < j → among xs (get_or xs j 0) j ≡ 0
        → (lockers P (get_or xs (j - 1) 0) ≤ among xs (get_or xs (j - 1) 0) j) × (key (place xs ys (j - 1)) < key (place xs ys j))
    unfolding begins whole_before
    beginning h z =
        let q = and_parts (leb (lockers P (get_or xs (j - 1) 0)) (among xs (get_or xs (j - 1) 0) j)) _ (rw (eq-eqb (among xs (get_or xs j 0) j) 0 z) at (following h).1) in
        (leb-true _ _ q.0, ltb-true (key (place xs ys (j - 1))) (key (place xs ys j)) q.1)

    repeating : 0 < j → among xs (get_or xs j 0) j ≢ 0 → (get_or xs (j - 1) 0 ≡ get_or xs j 0) × (get_or ys (j - 1) 0 ≡ get_or ys j 0)
    unfolding repeats
    repeating h z =
        let q = and_parts (eqb (get_or xs (j - 1) 0) (get_or xs j 0)) _ (rw (ne_eqb (among xs (get_or xs j 0) j) 0 z) at (following h).1) in
        (eqb-true _ _ q.0, eqb-true _ _ q.1)

-- entries come first, where behind a place of padding there is only padding
shape_up_to : (P xs ys : List ℕ) (k : ℕ) → ((j : ℕ) → j < k → bad_place P xs ys j ≡ false)
    → (m : ℕ) × (m ≤ k) × ((j : ℕ) → j < m → get_or xs j 0 ≢ NONE) × ((j : ℕ) → m ≤ j → j < k → place xs ys j ≡ (NONE, NONE))
shape_up_to P xs ys zero h = (0, omega arith, λ j l. absurd (omega arith), λ j m l. absurd (omega arith))
shape_up_to P xs ys (suc k) h =
    let r = shape_up_to P xs ys k (λ j l. h j (omega arith)) in
    elim (ℕ_discrete (get_or xs k 0) NONE) [
      | yes n ↦ (
        r.0,
        omega arith,
        r.2,
        λ j m l. ⊎_elim (λ (q : j ≡ k). rw q (padded_both P xs ys k (h k (omega arith)) n)) (λ q. r.3 j m q) (eq-or-lt_of_le (le_of_suc-le-suc l)),
      )
      | no n ↦
          let whole : r.0 ≡ k = from r n in (
            suc k,
            omega arith,
            λ j l. ⊎_elim (λ (q : j ≡ k). rw q n) (λ q. r.2 j (omega arith)) (eq-or-lt_of_le (le_of_suc-le-suc l)),
            λ j m l. absurd (omega arith),
          )
    ]
  where
    from : (r : (m : ℕ) × (m ≤ k) × ((j : ℕ) → j < m → get_or xs j 0 ≢ NONE) × ((j : ℕ) → m ≤ j → j < k → place xs ys j ≡ (NONE, NONE)))
        → get_or xs k 0 ≢ NONE → r.0 ≡ k
    from r n =
        elim (dec_lt r.0 k) [
          | yes l ↦
              let b = following P xs ys k (h k (omega arith)) n (omega arith) in
              absurd (b.0 (ap (λ (z : ℕ × ℕ). z.0) (r.3 (k - 1) (omega arith) (omega arith))))
          | no q ↦ omega arith
        ]

-- no place is bad: what the entries, the first `size`, are like
module _ (P xs ys : List ℕ) (h : (j : ℕ) → j < length xs → bad_place P xs ys j ≡ false) (s : Shape xs ys) where
  -- place j of the entries, behind another
  module _ (j : ℕ) (l : suc j < s.size) where
    less : among xs (get_or xs (suc j) 0) (suc j) < lockers P (get_or xs (suc j) 0)
    less = fewer P xs ys (suc j) (h (suc j) (omega (arith, s.low))) (s.some (suc j) l)

    as_new : among xs (get_or xs (suc j) 0) (suc j) ≡ 0 → (lockers P (get_or xs j 0) ≤ among xs (get_or xs j 0) (suc j)) × (key (place xs ys j) < key (place xs ys (suc j)))
    as_new z =
        let q : suc j - 1 ≡ j = omega arith in
        rw q at (beginning P xs ys (suc j) (h (suc j) (omega (arith, s.low))) (s.some (suc j) l) (omega arith) z)

    as_again : among xs (get_or xs (suc j) 0) (suc j) ≢ 0 → (get_or xs j 0 ≡ get_or xs (suc j) 0) × (get_or ys j 0 ≡ get_or ys (suc j) 0)
    as_again z =
        let q : suc j - 1 ≡ j = omega arith in
        rw q at (repeating P xs ys (suc j) (h (suc j) (omega (arith, s.low))) (s.some (suc j) l) (omega arith) z)

    next_behind : key (place xs ys j) ≤ key (place xs ys (suc j))
    next_behind =
        elim (ℕ_discrete (among xs (get_or xs (suc j) 0) (suc j)) 0) [
          | yes z ↦ omega (arith, (as_new z).1)
          | no z ↦ let r = as_again z in omega (arith, r.0, r.1)
        ]

  one_distance : (l j : ℕ) → j < l → l < s.size → get_or xs j 0 ≡ get_or xs l 0 → get_or ys j 0 ≡ get_or ys l 0
  one_distance zero j a b e = absurd (omega arith)
  one_distance (suc l) j a b e =
      let z : among xs (get_or xs (suc l) 0) (suc l) ≢ 0 = λ z. omega (arith, z, among_has xs (get_or xs (suc l) 0) (suc l) j a e) in
      let r = as_again l b z in
      ⊎_elim
      (λ (q : j ≡ l). ap (λ v. get_or ys v 0) q ∙ r.1)
      (λ m. one_distance l j m (omega arith) (e ∙ sym r.0) ∙ r.1)
      (eq-or-lt_of_le (le_of_suc-le-suc a))

  first_fewer : (j : ℕ) → j < s.size → among xs (get_or xs j 0) j < lockers P (get_or xs j 0)
  first_fewer j l = fewer P xs ys j (h j (omega (arith, s.low))) (s.some j l)

  no_more : (p m : ℕ) → m ≤ s.size → among xs p m ≤ lockers P p
  no_more p zero l = omega (arith, among_start xs p)
  no_more p (suc m) l =
      elim (ℕ_discrete (get_or xs m 0) p) [
        | yes e ↦ omega (arith, among_more xs p m e, rw e at (first_fewer m (omega arith)))
        | no n ↦ omega (arith, among_other xs p m n, no_more p m (omega arith))
      ]

  -- the node of an entry has all its places among the first m, or the last of these is its own
  ended : (m j : ℕ) → m < s.size → j ≤ m → (lockers P (get_or xs j 0) ≤ among xs (get_or xs j 0) (suc m)) ⊎ (get_or xs m 0 ≡ get_or xs j 0)
  ended zero j l a = let q : j ≡ 0 = omega arith in inr (ap (λ v. get_or xs v 0) (sym q))
  ended (suc m) j l a =
      elim (ℕ_discrete (get_or xs (suc m) 0) (get_or xs j 0)) [
        | yes e ↦ inr e
        | no n ↦
            let b : j ≤ m = ⊎_elim (λ (q : j ≡ suc m). absurd (n (ap (λ v. get_or xs v 0) (sym q)))) (λ i. le_of_suc-le-suc i) (eq-or-lt_of_le a) in
            ⊎_elim
            (λ c. inl (omega (arith, c, among_up xs (get_or xs j 0) (suc m) (suc (suc m)) (omega arith))))
            (λ (e : get_or xs m 0 ≡ get_or xs j 0).
            elim (ℕ_discrete (among xs (get_or xs (suc m) 0) (suc m)) 0) [
              | yes z ↦
                  let c = rw e at (as_new m l z).0 in
                  inl (omega (arith, c, among_up xs (get_or xs j 0) (suc m) (suc (suc m)) (omega arith)))
              | no z ↦ absurd (n (sym (as_again m l z).0 ∙ e))
            ])
            (ended m j (omega arith) b)
      ]

  ends_whole : (j : ℕ) → j < s.size → among xs (get_or xs j 0) s.size < lockers P (get_or xs j 0)
      → (s.size ≡ length xs) × (key (place xs ys (length xs - 1)) ≤ key (place xs ys j))
  ends_whole j l w =
      let q : suc (s.size - 1) ≡ s.size = omega arith in
      ⊎_elim
      (λ c. absurd (omega (arith, rw q at c)))
      (λ (e : get_or xs (s.size - 1) 0 ≡ get_or xs j 0).
      elim (dec_lt s.size (length xs)) [
        | yes f ↦
            absurd
            (omega (
              arith,
              rw e at (padded_whole P xs ys s.size (h s.size f) (ap (λ (z : ℕ × ℕ). z.0) (s.none s.size (omega arith) f)) (omega arith)),
            ))
        | no f ↦
            let z : s.size ≡ length xs = omega (arith, s.low) in
            (z, rw z at (last_key e))
      ])
      (ended (s.size - 1) j (omega arith) (omega arith))
    where
      last_key : get_or xs (s.size - 1) 0 ≡ get_or xs j 0 → key (place xs ys (s.size - 1)) ≤ key (place xs ys j)
      last_key e =
          ⊎_elim
          (λ (q : j ≡ s.size - 1). omega (arith, ap (λ v. key (place xs ys v)) q))
          (λ m. omega (arith, e, one_distance (s.size - 1) j m (omega arith) (sym e)))
          (eq-or-lt_of_le (omega (arith, l)))

pub row_good : (P xs ys : List ℕ) → bad_row P xs ys ≡ false → Good P xs ys
unfolding bad_row
row_good P xs ys e =
    let h : (j : ℕ) → j < length xs → bad_place P xs ys j ≡ false = λ j l. any_none (bad_place P xs ys) (length xs) j e l in
    let r = shape_up_to P xs ys (length xs) h in
    let s : Shape xs ys = record { size = r.0; low = r.1; some = r.2; none = r.3 } in
    record {
      shape = s;
      ordered = next_behind P xs ys h s;
      once = λ j l a b q. one_distance P xs ys h s l j a b q;
      most = λ p. no_more P xs ys h s p r.0 (omega arith);
      whole = ends_whole P xs ys h s;
    }

-- a good row of nodes passes the test
module _ {P xs ys : List ℕ} (r : Good P xs ys) (small : (j : ℕ) → j < r.shape.size → get_or xs j 0 < 4294967296) (none : lockers P NONE ≡ 0) where
  up : (j l : ℕ) → j ≤ l → l < r.shape.size → key (place xs ys j) ≤ key (place xs ys l)
  up j l h m = ⊎_elim (λ (q : j ≡ l). rw q (omega arith)) (λ o. rises r j l o m) (eq-or-lt_of_le h)

  same_pair : (j l : ℕ) → j < r.shape.size → l < r.shape.size → key (place xs ys j) ≡ key (place xs ys l) → get_or xs j 0 ≡ get_or xs l 0
  same_pair j l a b e = ap (λ (z : ℕ × ℕ). z.0) (key_pair (place xs ys j) (place xs ys l) (small j a) (small l b) e)

  fewer_of : (j : ℕ) → j < r.shape.size → among xs (get_or xs j 0) j < lockers P (get_or xs j 0)
  fewer_of j h =
      omega (
        arith,
        among_more xs (get_or xs j 0) j refl,
        among_up xs (get_or xs j 0) (suc j) r.shape.size h,
        r.most (get_or xs j 0),
      )

  -- a node that another follows has all its places
  whole_of : (j : ℕ) → suc j < r.shape.size → key (place xs ys j) < key (place xs ys (suc j)) → lockers P (get_or xs j 0) ≤ among xs (get_or xs j 0) (suc j)
  whole_of j h l =
      let still = among_still xs (get_or xs j 0) (suc j) r.shape.size (omega arith) later in
      elim (dec_lt (among xs (get_or xs j 0) r.shape.size) (lockers P (get_or xs j 0))) [
        | no n ↦ omega (arith, still)
        | yes w ↦
            let f = r.whole j (omega arith) w in
            absurd (omega (arith, f.1, up (suc j) (length xs - 1) (omega (arith, f.0)) (omega (arith, f.0))))
      ]
    where
      later : (x : ℕ) → suc j ≤ x → x < r.shape.size → get_or xs x 0 ≢ get_or xs j 0
      later x a b e = omega (arith, e, r.once j x a b (sym e), up (suc j) x a b)

  follows_of : (j : ℕ) → suc j < r.shape.size → true ≡ follows P xs ys (suc j)
  follows_of j h =
      let q : suc j - 1 ≡ j = omega arith in
      let some : get_or xs (suc j - 1) 0 ≢ NONE = rw q (r.shape.some j (omega arith)) in
      elim (ℕ_discrete (among xs (get_or xs (suc j) 0) (suc j)) 0) [
        | yes z ↦
            let l = less z in
            follows_new P xs ys (suc j) true some z
            (begins_whole P xs ys (suc j) true (sym (whole_tested P xs ys (suc j)) ∙ rw q (le-leb _ _ (whole_of j h l))) (sym (rw q (lt-ltb _ _ l))))
        | no z ↦
            let e = again z in
            follows_again P xs ys (suc j) true some z
            (sym (eq-eqb (get_or ys (suc j - 1) 0) (get_or ys (suc j) 0) (rw q (r.once j (suc j) (omega arith) h e))) ∙ repeats_same P xs ys (suc j) (rw q e))
      ]
    where
      less : among xs (get_or xs (suc j) 0) (suc j) ≡ 0 → key (place xs ys j) < key (place xs ys (suc j))
      less z =
          elim (dec_lt (key (place xs ys j)) (key (place xs ys (suc j)))) [
            | yes l ↦ l
            | no n ↦
                absurd
                (omega (
                  arith,
                  z,
                  among_has xs (get_or xs (suc j) 0) (suc j) j (omega arith)
                      (same_pair j (suc j) (omega arith) h (omega (arith, r.ordered j h))),
                ))
          ]

      again : among xs (get_or xs (suc j) 0) (suc j) ≢ 0 → get_or xs j 0 ≡ get_or xs (suc j) 0
      again z =
          let x = among_some xs (get_or xs (suc j) 0) (suc j) z in
          let d = r.once x.at (suc j) x.low h x.is in
          same_pair j (suc j) (omega arith) h
          (omega (arith, x.is, d, up x.at j (omega (arith, x.low)) (omega arith), r.ordered j h))

  entry_good : (j : ℕ) → j < r.shape.size → false ≡ bad_place P xs ys j
  entry_good zero h =
      place_entry P xs ys 0 false (r.shape.some 0 h) (entry_first P xs ys 0 (fewer_of 0 h) refl)
  entry_good (suc j) h =
      place_entry P xs ys (suc j) false (r.shape.some (suc j) h)
      (entry_later P xs ys (suc j) true (fewer_of (suc j) h) (omega arith) (follows_of j h))

  padding_whole : (j : ℕ) → r.shape.size ≤ suc j → suc j < length xs → true ≡ whole_before P xs (suc j)
  padding_whole j h l =
      let q : suc j - 1 ≡ j = omega arith in
      sym (sym (whole_tested P xs ys (suc j)) ∙ rw q (le-leb (lockers P (get_or xs j 0)) (among xs (get_or xs j 0) (suc j)) all))
    where
      all : lockers P (get_or xs j 0) ≤ among xs (get_or xs j 0) (suc j)
      all =
          elim (dec_lt j r.shape.size) [
            | yes b ↦
                let z : r.shape.size ≡ suc j = omega arith in
                elim (dec_lt (among xs (get_or xs j 0) r.shape.size) (lockers P (get_or xs j 0))) [
                  | yes w ↦ absurd (omega (arith, (r.whole j b w).0))
                  | no n ↦ let f : lockers P (get_or xs j 0) ≤ among xs (get_or xs j 0) r.shape.size = omega arith in rw z at f
                ]
            | no b ↦
                let e : get_or xs j 0 ≡ NONE = ap (λ (z : ℕ × ℕ). z.0) (r.shape.none j (omega arith) (omega arith)) in
                omega (arith, ap (lockers P) e ∙ none)
          ]

  padding_good : (j : ℕ) → r.shape.size ≤ j → j < length xs → false ≡ bad_place P xs ys j
  padding_good zero h l =
      let e = r.shape.none 0 h l in
      place_padding P xs ys 0 false (ap (λ (z : ℕ × ℕ). z.0) e) (padding_first P xs ys 0 (ap (λ (z : ℕ × ℕ). z.1) e) refl)
  padding_good (suc j) h l =
      let e = r.shape.none (suc j) h l in
      place_padding P xs ys (suc j) false (ap (λ (z : ℕ × ℕ). z.0) e)
      (padding_later P xs ys (suc j) true (ap (λ (z : ℕ × ℕ). z.1) e) (omega arith) (padding_whole j h l))

  pub good_row : bad_row P xs ys ≡ false
  unfolding bad_row
  good_row =
      none_any (bad_place P xs ys) (length xs)
      (λ j l. elim (dec_lt j r.shape.size) [ yes h ↦ sym (entry_good j h) | no n ↦ sym (padding_good j (omega arith) l) ])

-- the members of `unpadded`
filled_some : (l : List (ℕ × ℕ)) (z : ℕ × ℕ) → Memᴰ z (unpadded l) → z.0 ≢ NONE
filled_some [] z m = absurd (Memᴰ.not-nil (rw filled_nil at m))
filled_some (x ∷ l) z m =
    elim (ℕ_discrete x.0 NONE) [
      | yes e ↦ absurd (Memᴰ.not-nil (rw (filled_end x l e) at m))
      | no n ↦
          ⊎_elim (λ q a. n (sym (ap (λ (y : ℕ × ℕ). y.0) q) ∙ a)) (λ t. filled_some l z t) (Memᴰ.cases_cons (rw (filled_more x l n) at m))
    ]

-- a sorted row with padding behind its entries is good
module _ (P xs ys : List ℕ) (s : Sorted P (length xs) (entries xs ys)) (e : row_of xs ys ≡ pad (length xs) (entries xs ys)) where
  place_of : (j : ℕ) → j < length xs → place xs ys j ≡ get_or (pad (length xs) (entries xs ys)) j (0, 0)
  place_of j h =
      ap (place xs ys) (sym (zero-add j)) ∙ sym (places_at xs ys 0 (length xs) j (0, 0) h) ∙ ap (λ l. get_or l j (0, 0)) e

  entry_of : (j : ℕ) → j < length (entries xs ys) → place xs ys j ≡ get_or (entries xs ys) j (0, 0)
  entry_of j h =
      place_of j (omega (arith, s.short))
      ∙ get_or-append (entries xs ys) (replicate (length xs - length (entries xs ys)) (NONE, NONE)) (0, 0) j h

  padding_of : (j : ℕ) → length (entries xs ys) ≤ j → j < length xs → place xs ys j ≡ (NONE, NONE)
  padding_of j h l =
      let n = length (entries xs ys) in
      let q : n + (j - n) ≡ j = omega arith in
      place_of j l
      ∙ ap (λ v. get_or (pad (length xs) (entries xs ys)) v (0, 0)) (sym q)
      ∙ get_or-append-add (entries xs ys) (replicate (length xs - n) (NONE, NONE)) (j - n) (0, 0)
      ∙ pad_at (length xs - n) (j - n) (NONE, NONE) (0, 0) (omega arith)

  entry_in : (j : ℕ) → j < length (entries xs ys) → Memᴰ (place xs ys j) (entries xs ys)
  entry_in j h = Memᴰ.cast (entry_of j h) (member_at (0, 0) (entries xs ys) j h)

  in_order_lem : (j l : ℕ) → j ≤ l → l < length (entries xs ys) → key (place xs ys j) ≤ key (place xs ys l)
  in_order_lem j l h m =
      omega (
        arith,
        ap key (entry_of j (omega arith)),
        ap key (entry_of l m),
        ordered_at (0, 0) (entries xs ys) s.ordered j l h m,
      )

  abbrev sorted_shape : Shape xs ys
  sorted_shape =
      record {
        size = length (entries xs ys);
        low = s.short;
        some = λ j h. filled_some (row_of xs ys) (place xs ys j) (entry_in j h);
        none = padding_of;
      }

  times_are : (p : ℕ) → times p (entries xs ys) ≡ among xs p (length (entries xs ys))
  times_are p = ap (times p) (shape_entries sorted_shape) ∙ times_places xs ys p (length (entries xs ys))

  pub sorted_good : Good P xs ys
  sorted_good =
      record {
        shape = sorted_shape;
        ordered = λ j h. in_order_lem j (suc j) (omega arith) h;
        once =
            λ j l h m q.
            s.once (get_or xs l 0) (get_or ys j 0) (get_or ys l 0) (Memᴰ.cast (λ k. (sym q k, get_or ys j 0)) (entry_in j (omega arith))) (entry_in l m);
        most = λ p. omega (arith, times_are p, s.most p);
        whole =
            λ j h w.
            let f = s.whole (get_or xs j 0) (get_or ys j 0) (entry_in j h) (omega (arith, times_are (get_or xs j 0), w)) in
            (f.filled, f.ends (place xs ys (length xs - 1)) (entry_in (length xs - 1) (omega (arith, f.filled))));
      }
