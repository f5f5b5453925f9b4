-- The tests of the table check, where a place passes or fails them; and that the rows that the check reads lie in the table.
-- Assumes nothing.
use Prim.Native.Nat.{ℕ, suc, ◌+◌, ◌-◌, ◌*◌, ◌≤◌, ◌<◌}
use mathlib.Core.Path.{◌≡◌, refl, sym, ap, ◌∙◌}
use mathlib.Core.Bool.{Bool, true, false, not}
use mathlib.Core.Logic.{◌≢◌}
use mathlib.Core.List.{List}
use native.Mathlib.Numerals.{add-one}
use native.Mathlib.Omega.{arith}
use lib.Dec.{eqb, ltb, leb}
use lib.ListN.{length, get_or}
use borrow.Author.Tests.{eq-eqb, ne_eqb, lt-ltb, le-ltb, le-leb, lt-leb}
use Rattle.network.specs.Network.{Network, node_count, neighbours_of}
use Rattle.network.specs.Distance.{NONE}
use Rattle.network.specs.Count.{count, bit}
use Rattle.network.specs.Points.{lockers}
use Rattle.network.specs.Nearest.{key}
use Rattle.network.specs.Rows.{row_entries}
use Rattle.network.proofs.Tests.{and_intro, and_right}
use Rattle.network.proofs.Ranges.{arc_at}
use Rattle.network.proofs.NumberZero.{accepted_ranges}
use Rattle.rows.specs.Flat.{place}
use Rattle.rows.specs.Check.{is_entry, is_within, is_placed, is_id, among, whole_before, repeats, begins, follows, bad_padding, bad_entry, bad_place, is_supported, asks_for, HasRows, CanRead}
use Rattle.network.proofs.Lends.{mid_length, row_fits}

-- one place
module _ (xs ys : List ℕ) (p d j : ℕ) where
  pub entry_yes : get_or xs j 0 ≡ p → get_or ys j 0 ≡ d → is_entry xs ys p d j ≡ true
  unfolding is_entry
  entry_yes e f = and_intro (eqb (get_or xs j 0) p) _ (eq-eqb (get_or xs j 0) p e) (eq-eqb (get_or ys j 0) d f)

  pub entry_far : get_or ys j 0 ≢ d → is_entry xs ys p d j ≡ false
  unfolding is_entry
  entry_far n = and_right (eqb (get_or xs j 0) p) _ (ne_eqb (get_or ys j 0) d n)

  pub within_yes : get_or xs j 0 ≡ p → get_or ys j 0 ≤ d → is_within xs ys p d j ≡ true
  unfolding is_within
  within_yes e h = and_intro (eqb (get_or xs j 0) p) _ (eq-eqb (get_or xs j 0) p e) (le-leb (get_or ys j 0) d h)

  pub within_far : d < get_or ys j 0 → is_within xs ys p d j ≡ false
  unfolding is_within
  within_far h = and_right (eqb (get_or xs j 0) p) _ (lt-leb (get_or ys j 0) d h)

-- what asks for a place
module _ (xs ys : List ℕ) (p d : ℕ) where
  pub asks_padding : p ≡ NONE → false ≡ asks_for xs ys p d
  unfolding asks_for
  asks_padding e = rw (eq-eqb p NONE e)

  pub asks_entry : (b : Bool) → p ≢ NONE → b ≡ is_placed xs ys p d → not b ≡ asks_for xs ys p d
  unfolding asks_for
  asks_entry b n e = rw (ne_eqb p NONE n, e)

-- a row's order
module _ (P xs ys : List ℕ) (j : ℕ) where
  pub whole_tested : leb (lockers P (get_or xs (j - 1) 0)) (among xs (get_or xs (j - 1) 0) j) ≡ whole_before P xs j
  unfolding whole_before
  whole_tested = refl

  pub begins_whole : (b : Bool) → whole_before P xs j ≡ true → b ≡ ltb (key (place xs ys (j - 1))) (key (place xs ys j)) → b ≡ begins P xs ys j
  unfolding begins
  begins_whole b e f = f ∙ sym (rw e)

  pub repeats_same : get_or xs (j - 1) 0 ≡ get_or xs j 0 → eqb (get_or ys (j - 1) 0) (get_or ys j 0) ≡ repeats xs ys j
  unfolding repeats
  repeats_same e = sym (rw (eq-eqb (get_or xs (j - 1) 0) (get_or xs j 0) e))

  pub follows_new : (b : Bool) → get_or xs (j - 1) 0 ≢ NONE → among xs (get_or xs j 0) j ≡ 0 → b ≡ begins P xs ys j → b ≡ follows P xs ys j
  unfolding follows
  follows_new b n e f = f ∙ sym (rw (ne_eqb (get_or xs (j - 1) 0) NONE n, eq-eqb (among xs (get_or xs j 0) j) 0 e))

  pub follows_again : (b : Bool) → get_or xs (j - 1) 0 ≢ NONE → among xs (get_or xs j 0) j ≢ 0 → b ≡ repeats xs ys j → b ≡ follows P xs ys j
  unfolding follows
  follows_again b n e f = f ∙ sym (rw (ne_eqb (get_or xs (j - 1) 0) NONE n, ne_eqb (among xs (get_or xs j 0) j) 0 e))

  pub padding_first : get_or ys j 0 ≡ NONE → j ≡ 0 → false ≡ bad_padding P xs ys j
  unfolding bad_padding
  padding_first e z = rw (eq-eqb (get_or ys j 0) NONE e, le-ltb 0 j (omega arith))

  pub padding_later : (b : Bool) → get_or ys j 0 ≡ NONE → j ≢ 0 → b ≡ whole_before P xs j → not b ≡ bad_padding P xs ys j
  unfolding bad_padding
  padding_later b e z f = ap not f ∙ sym (rw (eq-eqb (get_or ys j 0) NONE e, lt-ltb 0 j (omega arith)))

  pub entry_first : among xs (get_or xs j 0) j < lockers P (get_or xs j 0) → j ≡ 0 → false ≡ bad_entry P xs ys j
  unfolding bad_entry
  entry_first h z = rw (lt-leb (lockers P (get_or xs j 0)) (among xs (get_or xs j 0) j) h, le-ltb 0 j (omega arith))

  pub entry_later : (b : Bool) → among xs (get_or xs j 0) j < lockers P (get_or xs j 0) → j ≢ 0 → b ≡ follows P xs ys j → not b ≡ bad_entry P xs ys j
  unfolding bad_entry
  entry_later b h z f =
      ap not f ∙ sym (rw (lt-leb (lockers P (get_or xs j 0)) (among xs (get_or xs j 0) j) h, lt-ltb 0 j (omega arith)))

  pub place_padding : (b : Bool) → get_or xs j 0 ≡ NONE → b ≡ bad_padding P xs ys j → b ≡ bad_place P xs ys j
  unfolding bad_place
  place_padding b e f = f ∙ sym (rw (eq-eqb (get_or xs j 0) NONE e))

  pub place_entry : (b : Bool) → get_or xs j 0 ≢ NONE → b ≡ bad_entry P xs ys j → b ≡ bad_place P xs ys j
  unfolding bad_place
  place_entry b n f = f ∙ sym (rw (ne_eqb (get_or xs j 0) NONE n))

-- the loop that counts
module _ (xs : List ℕ) (p : ℕ) where
  pub among_start : among xs p 0 ≡ 0
  unfolding among count
  among_start = refl

  pub among_more : (j : ℕ) → get_or xs j 0 ≡ p → among xs p (suc j) ≡ suc (among xs p j)
  unfolding among count is_id
  among_more j e = rw (eq-eqb (get_or xs j 0) p e) (omega arith)

  pub among_other : (j : ℕ) → get_or xs j 0 ≢ p → among xs p (suc j) ≡ among xs p j
  unfolding among count is_id
  among_other j n = rw (ne_eqb (get_or xs j 0) p n) (omega arith)

  pub among_next : (j : ℕ) → among xs p (j + 1) ≡ among xs p j + bit (eqb (get_or xs j 0) p)
  unfolding among count is_id
  among_next j = rw add-one

-- as the code reads and counts
pub whole_single : (P xs : List ℕ) (j all : ℕ) → 0 < j → all ≡ get_or P (get_or xs (j - 1) 0) 0 → all ≤ 1 → true ≡ whole_before P xs j
unfolding whole_before
whole_single P xs j all some e h =
    let q = get_or xs (j - 1) 0 in
    let next : j ≡ suc (j - 1) = omega arith in
    sym (le-leb (get_or P q 0) (among xs q j) (omega (arith, e, ap (among xs q) next, among_more xs q (j - 1) refl)))

pub among_turn : (xs : List ℕ) (p j c b : ℕ) → c ≡ among xs p j → b ≡ bit (eqb (get_or xs j 0) p) → c + b ≡ among xs p (j + 1)
among_turn xs p j c b e f = omega (arith, among_next xs p j)

pub among_end : (xs : List ℕ) (p j k c : ℕ) → j ≤ k → k ≤ j → c ≡ among xs p j → c ≡ among xs p k
among_end xs p j k c h l e = let q : j ≡ k = omega arith in e ∙ ap (among xs p) q

-- the row of a neighbour
pub row_part_length : (K i : ℕ) (xs : List ℕ) → i * K + K ≤ length xs → length (row_entries K i xs) ≡ K
unfolding row_entries
row_part_length K i xs = mid_length (i * K) K xs

-- what supports an entry
module _ (g : Network) (P : List ℕ) (K : ℕ) (ids dists : List ℕ) (i p d : ℕ) where
  pub supported_padding : p ≡ NONE → true ≡ is_supported g P K ids dists i p d
  unfolding is_supported
  supported_padding e = rw (eq-eqb p NONE e)

-- every row lies in both arrays
pub rows_lie : {g : Network} {K : ℕ} {ids dists : List ℕ} → CanRead g K ids dists → (i : ℕ) → i < node_count g → HasRows K ids dists i
rows_lie {g} {K} r i h =
    let f = row_fits i (node_count g) K h in
    record { in_ids = omega (arith, r.sized.all_ids); in_dists = omega (arith, r.sized.all_dists) }

pub row_parts_even : (K i : ℕ) (ids dists : List ℕ) → HasRows K ids dists i → length (row_entries K i dists) ≡ length (row_entries K i ids)
row_parts_even K i ids dists h = row_part_length K i dists h.in_dists ∙ sym (row_part_length K i ids h.in_ids)

-- the rows of a node's neighbours lie in both arrays
pub neighbour_lies : {g : Network} {K : ℕ} {ids dists : List ℕ} → CanRead g K ids dists → (i j : ℕ) → i < node_count g → j < length (neighbours_of g i)
    → HasRows K ids dists (get_or (neighbours_of g i) j 0)
neighbour_lies {g} r i j h l = rows_lie r (get_or (neighbours_of g i) j 0) (r.accepted.leads_in (arc_at (accepted_ranges r.accepted) i h j l))
