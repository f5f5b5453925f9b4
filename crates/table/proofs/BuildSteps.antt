-- What the loops of build's steps keep, turn by turn.
-- Assumes nothing.
use Prim.Native.Nat.{ℕ, zero, suc, ◌+◌, ◌-◌, ◌*◌, ◌≤◌, ◌<◌}
use mathlib.Core.Path.{◌≡◌, refl, sym, ap, ◌∙◌}
use mathlib.Core.Bool.{Bool, true, false}
use mathlib.Core.Logic.{◌≢◌, ◌⊎◌, inl, inr, ⊎_elim}
use mathlib.Core.List.{List}
use native.Mathlib.Decide.{ℕ_discrete}
use native.Mathlib.Omega.{arith}
use lib.ListN.{length, get_or, drop, replicate}
use lib.Seq.{get_or-drop}
use borrow.Rule.Slice.PartMut.{put_mid}
use Rattle.expansion.specs.Queue.{Queue}
use Rattle.expansion.specs.Area.{Blank}
use Rattle.std.specs.Prelude.{None, Some}
use Rattle.table.specs.Build.{Stands, HasPlace, HasPlaceIs, CanReadRow, HasPlaceAt, NoPlaceAt, AppendTakes, Appended, with_run, often}
use Rattle.table.proofs.Runs.{run_filled}

-- stands: the j ids from place `from` on are not p
pub stands_none : {ids : List ℕ} {from p : ℕ} → Stands ids from 0 p → ⊥
stands_none s = omega (arith, s.low)

pub stands_more : {ids : List ℕ} {from j p : ℕ} → (Stands ids from j p → ⊥) → get_or ids (from + j) 0 ≢ p → Stands ids from (j + 1) p → ⊥
stands_more {ids} {from} {j} lacks other s =
    elim (ℕ_discrete s.index j) [
      | yes e ↦ other (ap (λ (x : ℕ). get_or ids (from + x) 0) (sym e) ∙ s.is)
      | no n ↦ lacks (record { index = s.index; low = omega (arith, s.low); is = s.is })
    ]

-- append: a row without a place for p stays, and one that has a place has taken p as often as there is room for
pub append_none : {ids dists : List ℕ} {size p : ℕ} (d all : ℕ) {r : Bool} → HasPlaceIs ids size p r → r ≡ false → Appended ids ids dists dists size p d all None
append_none d all h e = record { place = h.no e; new_ids = refl; new_dists = refl }

pub append_some : {ids ids' dists dists' : List ℕ} {size p d all end : ℕ} {r : Bool} → HasPlaceIs ids size p r → r ≡ true → 0 < all
    → end ≡ size + often (length ids) size all → ids' ≡ with_run ids size (end - size) p → dists' ≡ with_run dists size (end - size) d
    → Appended ids ids' dists dists' size p d all (Some end)
append_some {ids} {dists = dists} {size = size} {p = p} {d = d} {all = all} {end = end} h e some c a b =
    let q : end - size ≡ often (length ids) size all = omega arith in
    record {
      place = h.yes e;
      count = c;
      new_ids = a ∙ ap (λ (n : ℕ). with_run ids size n p) q;
      new_dists = b ∙ ap (λ (n : ℕ). with_run dists size n d) q;
    }

-- the same where both parts behind the row's entries are filled
pub append_filled : {ids dists zs es : List ℕ} {size p d all end : ℕ} → length dists ≡ length ids → HasPlace ids size p → end ≡ size + often (length ids) size all
    → zs ≡ replicate (end - size) p → es ≡ replicate (end - size) d
    → AppendTakes ids (put_mid size (end - size) ids zs) dists (put_mid size (end - size) dists es) size p d all end
append_filled {ids} {dists} {size = size} {p = p} {d = d} {all = all} {end = end} same h c a b =
    let q : end - size ≡ often (length ids) size all = omega arith in
    let f = h.free in
    record {
      place = h;
      count = c;
      new_ids = ap (put_mid size (end - size) ids) a ∙ run_filled ids size p end (omega arith) (omega arith) ∙ ap (λ (n : ℕ). with_run ids size n p) q;
      new_dists = ap (put_mid size (end - size) dists) b ∙ run_filled dists size d end (omega arith) (omega arith) ∙ ap (λ (n : ℕ). with_run dists size n d) q;
    }

-- offer: words that stay say the same of a row's places
module _ {xs ys ids : List ℕ} {K i p : ℕ} (same : get_or ys i 0 ≡ get_or xs i 0) where
  pub place_kept : HasPlaceAt ys ids K i p → HasPlaceAt xs ids K i p
  place_kept h = record { free = omega (arith, h.free); lacks = λ s. h.lacks (rw same s) }

  pub none_kept : NoPlaceAt ys ids K i p → NoPlaceAt xs ids K i p
  none_kept h = record { why = rw same at h.why }

pub look_kept : {xs ys ids : List ℕ} {K i : ℕ} → get_or ys i 0 ≡ get_or xs i 0 → length ys ≡ length xs → CanReadRow xs ids K i → CanReadRow ys ids K i
look_kept same e c = record { word = omega (arith, c.word); size = omega (arith, c.size); ids_room = c.ids_room }

-- a row has a place for p or has none
stands_or : (ids : List ℕ) (from size p : ℕ) → Stands ids from size p ⊎ (Stands ids from size p → ⊥)
stands_or ids from zero p = inr stands_none
stands_or ids from (suc n) p =
    elim (ℕ_discrete (get_or ids (from + n) 0) p) [
      | yes e ↦ inl (record { index = n; low = omega arith; is = e })
      | no m ↦
          ⊎_elim
          (λ s. inl (record { index = s.index; low = omega (arith, s.low); is = s.is }))
          (λ l. inr (λ s. stands_more l m (record { index = s.index; low = omega (arith, s.low); is = s.is })))
          (stands_or ids from n p)
    ]

pub place_or : (xs ids : List ℕ) (K i p : ℕ) → get_or xs i 0 ≤ K → HasPlaceAt xs ids K i p ⊎ NoPlaceAt xs ids K i p
place_or xs ids K i p h =
    elim (ℕ_discrete (get_or xs i 0) K) [
      | yes e ↦ inr (record { why = inl e })
      | no n ↦
          ⊎_elim
          (λ s. inr (record { why = inr s }))
          (λ l. inl (record { free = omega arith; lacks = l }))
          (stands_or ids (i * K) (get_or xs i 0) p)
    ]

-- it cannot have one and have none
pub place_not_none : {xs ids : List ℕ} {K i p : ℕ} → HasPlaceAt xs ids K i p → NoPlaceAt xs ids K i p → ⊥
place_not_none a b = ⊎_elim (λ e. omega (arith, a.free)) (λ s. a.lacks s) b.why

-- seed: words that are all 0 hold an empty queue
pub seed_queue : {xs : List ℕ} (n : ℕ) → Blank xs 0 → Queue (drop n xs) 0
seed_queue {xs} n blank = record { room = omega arith; ordered = λ i h l. absurd (omega arith); zeros = λ j h. get_or-drop n xs j 0 ∙ blank.zero (n + j) (omega arith) }
