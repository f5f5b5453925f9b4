-- A row that is lent as a part of the arrays, at its node's place, and is looked at or appended to: what that says of the whole arrays.
-- Assumes nothing.
use Prim.Native.Nat.{ℕ, ◌+◌, ◌-◌, ◌*◌, ◌≤◌, ◌<◌}
use mathlib.Core.Path.{◌≡◌, refl, sym, ap, ◌∙◌}
use mathlib.Core.Logic.{◌⊎◌, ⊎_elim, inl, inr}
use mathlib.Core.Bool.{Bool}
use mathlib.Core.List.{List}
use native.Mathlib.Nat.{zero-add}
use native.Mathlib.Omega.{arith}
use lib.ListN.{length, get_or, set}
use borrow.Rule.Slice.PartMut.{mid_of, put_mid, mid_len}
use Rattle.network.proofs.Lends.{mid_length, mid_at}
use Rattle.network.specs.Rows.{row_entries}
use Rattle.table.specs.Build.{Stands, HasPlace, NoPlace, HasPlaceIs, HasPlaceAtIs, AppendTakes, CanReadRow, HasPlaceAt, NoPlaceAt, CanAppend, AppendTakesAt, with_run, often}
use Rattle.table.proofs.Runs.{put_run}

module _ (a e : ℕ) (xs : List ℕ) where
  stands_part : (size p : ℕ) → size ≤ e - a → Stands (mid_of a (e - a) xs) 0 size p → Stands xs a size p
  stands_part size p h s = record { index = s.index; low = s.low; is = sym (mid_at a (e - a) xs s.index (omega (arith, s.low))) ∙ rw (zero-add s.index) at s.is }

  part_stands : (size p : ℕ) → size ≤ e - a → Stands xs a size p → Stands (mid_of a (e - a) xs) 0 size p
  part_stands size p h s = record { index = s.index; low = s.low; is = rw (zero-add s.index) (mid_at a (e - a) xs s.index (omega (arith, s.low)) ∙ s.is) }

  -- what a place for p in the part of K places from a on says of the whole
  module _ {K : ℕ} (size p : ℕ) (end : e ≡ a + K) (fits : e ≤ length xs) (short : size ≤ K) where
    place_part : HasPlace (mid_of a (e - a) xs) size p → (size < K) × (Stands xs a size p → ⊥)
    place_part h = (omega (arith, h.free, mid_len a e xs fits), λ s. h.lacks (part_stands size p (omega arith) s))

    none_part : NoPlace (mid_of a (e - a) xs) size p → (size ≡ K) ⊎ Stands xs a size p
    none_part h = ⊎_elim (λ q. inl (omega (arith, mid_len a e xs fits))) (λ s. inr (stands_part size p (omega arith) s)) h.why

-- the row of node i starts at a, and ends before e; w is the node's word
module _ {xs ids : List ℕ} {K i : ℕ} (look : CanReadRow xs ids K i) (a e w size p : ℕ) (from : a ≡ i * K) (end : e ≡ a + K) (word : w ≡ i) (is : size ≡ get_or xs w 0) where
  size_is : size ≡ get_or xs i 0
  size_is = is ∙ ap (λ (x : ℕ). get_or xs x 0) word

  place_at : HasPlace (mid_of a (e - a) ids) size p → HasPlaceAt xs ids K i p
  place_at h =
      let q = place_part a e ids size p end (omega (arith, look.ids_room)) (omega (arith, look.size, size_is)) h in
      record { free = omega (arith, size_is, q.0); lacks = λ s. q.1 (rw (from, size_is) s) }

  none_at : NoPlace (mid_of a (e - a) ids) size p → NoPlaceAt xs ids K i p
  none_at h = record { why = rw (sym from, sym size_is) (none_part a e ids size p end (omega (arith, look.ids_room)) (omega (arith, look.size, size_is)) h) }

-- the row of node w as `row_of` hands it out: its length, and whether it has a place for p
pub part_size : {xs ids l : List ℕ} {K i : ℕ} → CanReadRow xs ids K i → (w : ℕ) → w ≡ i → l ≡ row_entries K w ids → length l ≡ K
unfolding row_entries
part_size {ids} {K} look w word part = ap length part ∙ mid_length (w * K) K ids (omega (arith, ap (λ (x : ℕ). x * K) word, look.ids_room))

pub place_look : {xs ids : List ℕ} {K i : ℕ} → CanReadRow xs ids K i → (w size p : ℕ) (l : List ℕ) → w ≡ i → size ≡ get_or xs w 0 → l ≡ row_entries K w ids → {r : Bool}
    → HasPlaceIs l size p r → HasPlaceAtIs xs ids K i p r
unfolding row_entries
place_look {xs} {ids} {K} {i} look w size p l word is part h =
    let e : w * K + K - w * K ≡ K = omega arith in
    let from = ap (λ (x : ℕ). x * K) word in
    record {
      yes = λ q. place_at look (w * K) (w * K + K) w size p from refl word is (rw e (rw part at (h.yes q)));
      no = λ q. none_at look (w * K) (w * K + K) w size p from refl word is (rw e (rw part at (h.no q)));
    }

-- the row of node i is appended to
module _ {xs ids dists : List ℕ} {K i all : ℕ} (can : CanAppend xs ids dists K i all) (a e w size p d : ℕ) (from : a ≡ i * K) (end : e ≡ a + K) (word : w ≡ i)
    (is : size ≡ get_or xs w 0) where
  -- the row has K places
  long : length (mid_of a (e - a) ids) ≡ K
  long = omega (arith, mid_len a e ids (omega (arith, can.look.ids_room)))

  pub takes_at : {zs es : List ℕ} {then : ℕ} → AppendTakes (mid_of a (e - a) ids) zs (mid_of a (e - a) dists) es size p d all then
      → AppendTakesAt xs (set xs w then) ids (put_mid a (e - a) ids zs) dists (put_mid a (e - a) dists es) K i p d all
  takes_at {zs} {es} {then} t =
      let s = size_is can.look a e w size p from end word is in
      let q : a + size ≡ i * K + get_or xs i 0 = omega (arith, s) in
      let o : often (length (mid_of a (e - a) ids)) size all ≡ often K (get_or xs i 0) all = rw (long, s) refl in
      let n = often K (get_or xs i 0) all in
      let l : size + n ≤ e - a = omega (arith, s, can.look.size) in
      let c : then ≡ get_or xs i 0 + n = omega (arith, t.count, s, o) in
      record {
        place = place_at can.look a e w size p from end word is t.place;
        words = ap (λ (x : ℕ). set xs x then) word ∙ ap (set xs i) c;
        new_ids =
            ap (put_mid a (e - a) ids) (t.new_ids ∙ ap (λ (x : ℕ). with_run (mid_of a (e - a) ids) size x p) o)
            ∙ put_run a e ids (omega arith) (omega (arith, can.look.ids_room)) size n p l
            ∙ ap (λ (x : ℕ). with_run ids x n p) q;
        new_dists =
            ap (put_mid a (e - a) dists) (t.new_dists ∙ ap (λ (x : ℕ). with_run (mid_of a (e - a) dists) size x d) o)
            ∙ put_run a e dists (omega arith) (omega (arith, can.dists_room)) size n d l
            ∙ ap (λ (x : ℕ). with_run dists x n d) q;
      }
