-- The tests of the table check, all together, are the test that both arrays are the table: rows that pass them have the local properties of the
-- exactness theorem, and the table's rows pass them.
-- Assumes nothing.
use Prim.Native.Nat.{ℕ, ◌+◌, ◌-◌, ◌*◌, ◌≤◌, ◌<◌}
use mathlib.Core.Path.{◌≡◌, refl, sym, ap, ◌∙◌}
use mathlib.Core.Bool.{Bool, true, false, not, ◌&&◌, ◌||◌, false≢true}
use mathlib.Core.Logic.{◌≢◌, ◌↔◌, ⊎_elim}
use mathlib.Core.List.{List, [], ◌∷◌, Memᴰ}
use native.Mathlib.Decide.{ℕ_discrete, dec_lt}
use native.Mathlib.Omega.{arith}
use lib.Dec.{eqb, leb}
use lib.ListN.{length, get_or, get_or-eq_default}
use borrow.Author.Tests.{lt-ltb, le-ltb, eq-eqb, ne_eqb, eqb-true, le-leb, leb-true, not-false}
use Rattle.network.specs.Network.{Network, Arc, node_count, neighbours_of, weights_of}
use Rattle.network.specs.Accepted.{Accepted}
use Rattle.network.specs.Distance.{NONE}
use Rattle.network.specs.Count.{any}
use Rattle.network.specs.Points.{lockers, marked}
use Rattle.network.specs.Rows.{row_entries, table_ids, table_distances, IsTable, same_list, same_table}
use Rattle.network.proofs.Tests.{and_parts, and_intro, and_left, and_right, or_parts, or_intro, or_cases, or_left, or_right, any_none, none_any, one_any, any_passes}
use Rattle.network.proofs.Rank.{marked_inside}
use Rattle.network.proofs.NodeArcs.{arc_source}
use Rattle.network.proofs.Ranges.{arc_at, arc_place}
use Rattle.network.proofs.NumberZero.{accepted_ranges}
use Rattle.rows.specs.Exact.{Placed, Support, own, via}
use Rattle.rows.specs.Flat.{unpadded, places, row_at, Flat}
use Rattle.rows.specs.Check.{row_holds, is_placed, bad_row, comes_from, comes_at, comes_over, is_own, is_supported, unsupported_at, unsupported, lacks_own, asks_for, asks_at, asks, asks_from, asks_over, unclosed, bad_node, CanCheck}
use Rattle.rows.proofs.Laid.{part_places, flat_iff_table}
use Rattle.rows.proofs.CheckTests.{rows_lie, row_part_length, supported_padding, asks_padding, asks_entry}
use Rattle.rows.proofs.CheckRows.{row_of, entries, Good, shape_padded, shape_in, in_shape, entry_low, held_in, in_held, good_sorted, placed_in, in_placed, among_has, row_good, good_row, sorted_good}

-- lists are one exactly if the test says so
pub same_list_lem : (xs ys : List ℕ) → same_list xs ys ≡ true → xs ≡ ys
unfolding same_list
same_list_lem [] [] e = refl
same_list_lem [] (y ∷ ys) e = absurd (false≢true e)
same_list_lem (x ∷ xs) [] e = absurd (false≢true e)
same_list_lem (x ∷ xs) (y ∷ ys) e =
    let r = and_parts (eqb x y) _ e in
    let p = eqb-true x y r.0 in
    let q = same_list_lem xs ys r.1 in
    λ k. p k ∷ q k

list_same : (xs : List ℕ) → same_list xs xs ≡ true
unfolding same_list
list_same [] = refl
list_same (x ∷ xs) = and_intro (eqb x x) _ (eq-eqb x x refl) (list_same xs)

pub is_table : (g : Network) (P : List ℕ) (K : ℕ) (ids dists : List ℕ) → same_table g P K ids dists ≡ true → IsTable g P K ids dists
unfolding same_table
is_table g P K ids dists e =
    let r = and_parts (same_list ids (table_ids g P K)) _ e in
    record { same_ids = same_list_lem ids (table_ids g P K) r.0; same_dists = same_list_lem dists (table_distances g P K) r.1 }

pub table_is : {g : Network} {P : List ℕ} {K : ℕ} {ids dists : List ℕ} → IsTable g P K ids dists → same_table g P K ids dists ≡ true
unfolding same_table
table_is {g} {P} {K} t = rw (t.same_ids, t.same_dists) (and_intro (same_list (table_ids g P K) (table_ids g P K)) _ (list_same (table_ids g P K)) (list_same (table_distances g P K)))

module _ {g : Network} {P : List ℕ} {K : ℕ} {ids dists : List ℕ} (c : CanCheck g P K ids dists) where
  ok : Accepted g
  ok = c.readable.accepted

  abbrev T : ℕ → List (ℕ × ℕ)
  T i = unpadded (row_at ids dists K i)

  part_length : (i : ℕ) → i < node_count g → length (row_entries K i ids) ≡ K
  part_length i h = row_part_length K i ids (rows_lie c.readable i h).in_ids

  row_is : (i : ℕ) → i < node_count g → row_of (row_entries K i ids) (row_entries K i dists) ≡ row_at ids dists K i
  unfolding row_entries
  row_is i h =
      ap (places (row_entries K i ids) (row_entries K i dists) 0) (part_length i h) ∙ part_places ids dists (i * K) K

  entries_are : (i : ℕ) → i < node_count g → entries (row_entries K i ids) (row_entries K i dists) ≡ T i
  entries_are i h = ap unpadded (row_is i h)

  some : (i : ℕ) → i < node_count g → 1 ≤ length (row_entries K i ids)
  some i h = omega (arith, part_length i h, c.readable.some)

  -- nothing is wrong
  module _ (e : any (bad_node g P K ids dists) (node_count g) ≡ false) where
    node : (i : ℕ) → i < node_count g
        → (bad_row P (row_entries K i ids) (row_entries K i dists) ≡ false) × (lacks_own P (row_entries K i ids) (row_entries K i dists) i ≡ false)
        × (unsupported g P K ids dists i ≡ false) × (unclosed g K ids dists i ≡ false)
    unfolding bad_node
    node i h =
        let r = any_none (bad_node g P K ids dists) (node_count g) i e h in
        let row = bad_row P (row_entries K i ids) (row_entries K i dists) in
        let own = lacks_own P (row_entries K i ids) (row_entries K i dists) i in
        let s = or_parts (row || own || unsupported g P K ids dists i) _ r in
        let t = or_parts (row || own) _ s.0 in
        let u = or_parts row _ t.0 in
        (u.0, u.1, t.1, s.1)

    good : (i : ℕ) → i < node_count g → Good P (row_entries K i ids) (row_entries K i dists)
    good i h = row_good P (row_entries K i ids) (row_entries K i dists) (node i h).0

    arrives : (i p d : ℕ) → i < node_count g → p ≢ NONE → comes_over g K ids dists i p d ≡ true → Support g P T i p d
    unfolding comes_over comes_at comes_from
    arrives i p d h n e' =
        let r = any_passes (comes_at g K ids dists i p d) (length (neighbours_of g i)) e' in
        let a = arc_at (accepted_ranges ok) i h r.at r.low in
        let w = get_or (weights_of g i) r.at 0 in
        let q = and_parts (leb w d) _ r.passes in
        let l = ok.leads_in a in
        via {e = d - w} a (rw (entries_are _ l) at (held_in (good _ l).shape p (d - w) n q.1)) (omega (arith, leb-true w d q.0))

    supported_is : (i p d : ℕ) → i < node_count g → p ≢ NONE → is_supported g P K ids dists i p d ≡ true → Support g P T i p d
    unfolding is_supported is_own
    supported_is i p d h n f =
        ⊎_elim
        (λ l.
        ⊎_elim
        (λ z. absurd (n (eqb-true p NONE z)))
        (λ o.
        let q = and_parts (eqb p i && eqb d 0) _ o in
        let r = and_parts (eqb p i) _ q.0 in
        let s = eqb-true p i r.0 in
        own s (eqb-true d 0 r.1) (rw s q.1))
        (or_cases (eqb p NONE) _ l))
        (λ o. arrives i p d h n o)
        (or_cases (eqb p NONE || is_own P i p d) _ f)

    supported_at : (i j : ℕ) → i < node_count g → j < length (row_entries K i ids)
        → is_supported g P K ids dists i (get_or (row_entries K i ids) j 0) (get_or (row_entries K i dists) j 0) ≡ true
    unfolding unsupported unsupported_at
    supported_at i j h l = not-false _ (any_none (unsupported_at g P K ids dists i) (length (row_entries K i ids)) j (node i h).2 l)

    supported : (i p d : ℕ) → i < node_count g → Memᴰ (p, d) (T i) → Support g P T i p d
    supported i p d h m =
        let s = (good i h).shape in
        let x = in_shape s (p, d) (rw (entries_are i h) m) in
        let u = ap (λ (y : ℕ × ℕ). y.0) x.is in
        let f : is_supported g P K ids dists i p d ≡ true =
        ap (λ (y : ℕ × ℕ). is_supported g P K ids dists i y.0 y.1) x.is ∙ supported_at i x.index h (omega (arith, x.low, s.low)) in
        supported_is i p d h (λ z. s.some x.index x.low (sym u ∙ z)) f

    source : (i : ℕ) → i < node_count g → marked P i ≡ true → Memᴰ (i, 0) (T i)
    unfolding lacks_own
    source i h e' =
        let q = not-false _ (rw e' at (node i h).1) in
        rw (entries_are i h) at (held_in (good i h).shape i 0 (omega (arith, ok.few)) q)

    asked : (xs ys : List ℕ) (p d : ℕ) → p ≢ NONE → asks_for xs ys p d ≡ false → is_placed xs ys p d ≡ true
    unfolding asks_for
    asked xs ys p d n f = not-false _ (rw (ne_eqb p NONE n) at f)

    asked_at : {i a w : ℕ} → Arc g i a w → (m : ℕ) → m < length (row_entries K a ids)
        → asks_for (row_entries K i ids) (row_entries K i dists) (get_or (row_entries K a ids) m 0) (get_or (row_entries K a dists) m 0 + w) ≡ false
    unfolding unclosed asks_over asks_from asks asks_at
    asked_at {i} {a} {w} arc m l =
        let h = arc_source arc in
        let x = arc_place (accepted_ranges ok) arc in
        let f = any_none (asks_over g K ids dists i) (length (neighbours_of g i)) x.at (node i h).3 x.low in
        any_none (asks_at (row_entries K i ids) (row_entries K i dists) (row_entries K a ids) (row_entries K a dists) w) (length (row_entries K a ids)) m (rw (x.leads, x.weighs) at f) l

    closed : {i a w : ℕ} → Arc g i a w → (p d : ℕ) → Memᴰ (p, d) (T a) → Placed K (T i) p (d + w)
    closed {i} {a} {w} arc p d m =
        let h = arc_source arc in
        let l = ok.leads_in arc in
        let s = (good a l).shape in
        let x = in_shape s (p, d) (rw (entries_are a l) m) in
        let u = ap (λ (y : ℕ × ℕ). y.0) x.is in
        let n : p ≢ NONE = λ z. s.some x.index x.low (sym u ∙ z) in
        let f : asks_for (row_entries K i ids) (row_entries K i dists) p (d + w) ≡ false =
        ap (λ (y : ℕ × ℕ). asks_for (row_entries K i ids) (row_entries K i dists) y.0 (y.1 + w)) x.is
        ∙ asked_at arc x.index (omega (arith, x.low, s.low)) in
        rw (entries_are i h, part_length i h) at (placed_in (good i h) (some i h) p (d + w) n (asked (row_entries K i ids) (row_entries K i dists) p (d + w) n f))

    passes_flat : Flat g P K ids dists
    passes_flat =
        record {
          rows = record {
            sorted = λ i h. rw (entries_are i h, part_length i h) at (good_sorted (good i h));
            supported = supported;
            source = source;
            closed = closed;
          };
          padded = λ i h. rw (row_is i h, part_length i h) at (shape_padded (good i h).shape);
        }

  -- the rows are those of the table
  module _ (f : Flat g P K ids dists) where
    good_of : (i : ℕ) → i < node_count g → Good P (row_entries K i ids) (row_entries K i dists)
    good_of i h =
        sorted_good P (row_entries K i ids) (row_entries K i dists)
        (rw (row_is i h, part_length i h) (f.rows.sorted i h))
        (rw (row_is i h, part_length i h) (f.padded i h))

    -- an entry has a locker, so it is a node
    small_of : (i : ℕ) (h : i < node_count g) (j : ℕ) → j < (good_of i h).shape.size → get_or (row_entries K i ids) j 0 < 4294967296
    small_of i h j l =
        let p = get_or (row_entries K i ids) j 0 in
        let m = among_has (row_entries K i ids) p (good_of i h).shape.size j l refl in
        let n = marked_inside P p (lt-ltb 0 (lockers P p) (omega (arith, m, (good_of i h).most p))) in
        omega (arith, n, c.points, ok.few)

    no_lockers : lockers P NONE ≡ 0
    no_lockers = get_or-eq_default P 0 {n = NONE} (omega (arith, c.points, ok.few))

    held_of : (i p d : ℕ) → i < node_count g → Memᴰ (p, d) (T i) → row_holds (row_entries K i ids) (row_entries K i dists) p d ≡ true
    held_of i p d h m = in_held (good_of i h).shape p d (rw (entries_are i h) m)

    has_own : (i : ℕ) → i < node_count g → lacks_own P (row_entries K i ids) (row_entries K i dists) i ≡ false
    unfolding lacks_own
    has_own i h =
        elim (dec_lt 0 (get_or P i 0)) [
          | yes e ↦ and_right (marked P i) _ (ap not (held_of i i 0 h (f.rows.source i h (lt-ltb 0 (get_or P i 0) e))))
          | no n ↦ and_left (marked P i) _ (le-ltb 0 (get_or P i 0) (omega arith))
        ]

    arrived : (i p d : ℕ) {a w e : ℕ} → Arc g i a w → Memᴰ (p, e) (T a) → d ≡ w + e → comes_over g K ids dists i p d ≡ true
    unfolding comes_over comes_at comes_from
    arrived i p d {a} {w} {e} arc m q =
        let x = arc_place (accepted_ranges ok) arc in
        let s : e ≡ d - w = omega arith in
        one_any (comes_at g K ids dists i p d) (length (neighbours_of g i)) x.at x.low
        (rw (x.leads, x.weighs)
        (and_intro (leb w d) _ (le-leb w d (omega arith)) (held_of a p (d - w) (ok.leads_in arc) (rw s at m))))

    support_passes : (i p d : ℕ) → Support g P T i p d → is_supported g P K ids dists i p d ≡ true
    unfolding is_supported is_own
    support_passes i p d (own q z e) =
        or_left (eqb p NONE || is_own P i p d) _
        (or_right (eqb p NONE) _ (and_intro (eqb p i && eqb d 0) _ (and_intro (eqb p i) _ (eq-eqb p i q) (eq-eqb d 0 z)) (rw q at e)))
    support_passes i p d (via arc m q) = or_right (eqb p NONE || is_own P i p d) _ (arrived i p d arc m q)

    entry_of : (i j : ℕ) (h : i < node_count g) → j < length (row_entries K i ids) → get_or (row_entries K i ids) j 0 ≢ NONE
        → Memᴰ (get_or (row_entries K i ids) j 0, get_or (row_entries K i dists) j 0) (T i)
    entry_of i j h l n = rw (entries_are i h) at (shape_in (good_of i h).shape j (entry_low (good_of i h).shape j l n))

    all_supported : (i : ℕ) → i < node_count g → unsupported g P K ids dists i ≡ false
    unfolding unsupported unsupported_at
    all_supported i h =
        none_any (unsupported_at g P K ids dists i) (length (row_entries K i ids)) (λ j l. ap not (one j l))
      where
        one : (j : ℕ) → j < length (row_entries K i ids) → is_supported g P K ids dists i (get_or (row_entries K i ids) j 0) (get_or (row_entries K i dists) j 0) ≡ true
        one j l =
            elim (ℕ_discrete (get_or (row_entries K i ids) j 0) NONE) [
              | yes e ↦ sym (supported_padding g P K ids dists i (get_or (row_entries K i ids) j 0) (get_or (row_entries K i dists) j 0) e)
              | no n ↦ support_passes i (get_or (row_entries K i ids) j 0) (get_or (row_entries K i dists) j 0) (f.rows.supported i _ _ h (entry_of i j h l n))
            ]

    none_asks : {i a w : ℕ} → Arc g i a w → asks_from K ids dists i a w ≡ false
    unfolding asks_from asks asks_at
    none_asks {i} {a} {w} arc =
        none_any (asks_at (row_entries K i ids) (row_entries K i dists) (row_entries K a ids) (row_entries K a dists) w) (length (row_entries K a ids)) one
      where
        placed : (p d : ℕ) → Memᴰ (p, d) (T a) → is_placed (row_entries K i ids) (row_entries K i dists) p (d + w) ≡ true
        placed p d m =
            let h = arc_source arc in
            in_placed (good_of i h) (some i h) p (d + w) (rw (entries_are i h, part_length i h) (f.rows.closed arc p d m))

        one : (m : ℕ) → m < length (row_entries K a ids)
            → asks_for (row_entries K i ids) (row_entries K i dists) (get_or (row_entries K a ids) m 0) (get_or (row_entries K a dists) m 0 + w) ≡ false
        one m l =
            elim (ℕ_discrete (get_or (row_entries K a ids) m 0) NONE) [
              | yes e ↦ sym (asks_padding (row_entries K i ids) (row_entries K i dists) (get_or (row_entries K a ids) m 0) (get_or (row_entries K a dists) m 0 + w) e)
              | no n ↦
                  sym
                  (asks_entry (row_entries K i ids) (row_entries K i dists) (get_or (row_entries K a ids) m 0) (get_or (row_entries K a dists) m 0 + w) true n
                  (sym (placed (get_or (row_entries K a ids) m 0) (get_or (row_entries K a dists) m 0) (entry_of a m (ok.leads_in arc) l n))))
            ]

    all_closed : (i : ℕ) → i < node_count g → unclosed g K ids dists i ≡ false
    unfolding unclosed asks_over
    all_closed i h =
        none_any (asks_over g K ids dists i) (length (neighbours_of g i)) (λ j l. none_asks (arc_at (accepted_ranges ok) i h j l))

    flat_passes : any (bad_node g P K ids dists) (node_count g) ≡ false
    unfolding bad_node
    flat_passes =
        none_any (bad_node g P K ids dists) (node_count g)
        (λ i h.
        or_intro
        (bad_row P (row_entries K i ids) (row_entries K i dists) || lacks_own P (row_entries K i ids) (row_entries K i dists) i || unsupported g P K ids dists i) _
        (or_intro (bad_row P (row_entries K i ids) (row_entries K i dists) || lacks_own P (row_entries K i ids) (row_entries K i dists) i) _
        (or_intro (bad_row P (row_entries K i ids) (row_entries K i dists)) _ (good_row (good_of i h) (small_of i h) no_lockers) (has_own i h)) (all_supported i h))
        (all_closed i h))

  -- so the check tells whether both arrays are the table
  pub check_table : not (any (bad_node g P K ids dists) (node_count g)) ≡ same_table g P K ids dists
  check_table = from (any (bad_node g P K ids dists) (node_count g)) (same_table g P K ids dists) refl refl
    where
      exactly : Flat g P K ids dists ↔ IsTable g P K ids dists
      exactly = flat_iff_table P K ids dists ok c.readable.some c.readable.sized

      from : (b t : Bool) → any (bad_node g P K ids dists) (node_count g) ≡ b → same_table g P K ids dists ≡ t → not b ≡ t
      from false true e q = refl
      from true false e q = refl
      from false false e q = absurd (false≢true (sym q ∙ table_is (exactly.0 (passes_flat e))))
      from true true e q = absurd (false≢true (sym (flat_passes (exactly.1 (is_table g P K ids dists q))) ∙ e))
