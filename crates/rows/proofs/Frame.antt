-- A row of the flat arrays is written anew, and no other row changes.
-- Assumes nothing.
use Prim.Native.Nat.{ℕ, ◌+◌, ◌-◌, ◌*◌, ◌<◌, ◌≤◌}
use mathlib.Core.Path.{◌≡◌, sym, ap, ◌∙◌}
use mathlib.Core.Logic.{◌≢◌, ⊎_elim}
use mathlib.Core.List.{List}
use native.Mathlib.Nat.{zero-add}
use native.Mathlib.Decide.{ℕ_discrete}
use native.Mathlib.Omega.{arith}
use lib.ListN.{length, get_or, set, length-set}
use lib.Seq.{ext_get_or, get_or-set_same, get_or-set_other}
use borrow.Rule.Slice.PartMut.{mid_of, put_mid, mid_len}
use Rattle.network.proofs.Lends.{Returned, returned}
use Rattle.rows.specs.Flat.{place, places, row_at}
use Rattle.rows.specs.Put.{HasRow}
use Rattle.rows.proofs.Flat.{places_length, places_at, places_same}
use Rattle.rows.proofs.Laid.{rows_apart}

-- both arrays with row i made (zs, ws), both K long
pub record RowPut (K i : ℕ) (ids dists ids' dists' zs ws : List ℕ) : Type 0 where
  pub ids_put : Returned ids ids' (i * K) (i * K + K) zs
  pub dists_put : Returned dists dists' (i * K) (i * K + K) ws

-- the part that is row i is K long
pub row_width : (i K : ℕ) → (i * K + K) - i * K ≡ K
row_width i K = omega arith

pub row_long : (i K : ℕ) (xs : List ℕ) → i * K + K ≤ length xs → length (mid_of (i * K) ((i * K + K) - i * K) xs) ≡ K
row_long i K xs h = mid_len (i * K) (i * K + K) xs h ∙ row_width i K

-- a row lent mutably and back
pub row_lent : {K i : ℕ} {ids dists zs ws : List ℕ} → HasRow ids dists K i
    → length zs ≡ length (mid_of (i * K) ((i * K + K) - i * K) ids) → length ws ≡ length (mid_of (i * K) ((i * K + K) - i * K) dists)
    → RowPut K i ids dists (put_mid (i * K) ((i * K + K) - i * K) ids zs) (put_mid (i * K) ((i * K + K) - i * K) dists ws) zs ws
row_lent {K} {i} {ids} {dists} {zs} {ws} h p q =
    record {
      ids_put = returned (i * K) (i * K + K) ids zs (omega arith) h.fits p;
      dists_put = returned (i * K) (i * K + K) dists ws (omega arith) (omega (arith, h.fits, h.same)) q;
    }

module _ {K i : ℕ} {ids dists ids' dists' zs ws : List ℕ} (r : RowPut K i ids dists ids' dists' zs ws) where
  -- row i is the new one
  pub put_row : row_at ids' dists' K i ≡ places zs ws 0 K
  put_row =
      ext_get_or (0, 0) (row_at ids' dists' K i) (places zs ws 0 K)
      (places_length ids' dists' (i * K) K ∙ sym (places_length zs ws 0 K))
      (λ j s.
      let l : j < K = omega (arith, places_length ids' dists' (i * K) K) in
      places_at ids' dists' (i * K) K j (0, 0) l
      ∙ (λ k. (r.ids_put.part j (omega arith) k, r.dists_put.part j (omega arith) k))
      ∙ ap (place zs ws) (sym (zero-add j))
      ∙ sym (places_at zs ws 0 K j (0, 0) l))

  -- another row is as it was
  pub put_other : (c : ℕ) → c ≢ i → row_at ids' dists' K c ≡ row_at ids dists K c
  put_other c n =
      places_same ids' dists' ids dists (c * K) K
      (λ j l.
      ⊎_elim
      (λ h k. (r.ids_put.before (c * K + j) h k, r.dists_put.before (c * K + j) h k))
      (λ h k. (r.ids_put.after (c * K + j) h k, r.dists_put.after (c * K + j) h k))
      (rows_apart c i j K n l))

-- one place of row i is set in both arrays
module _ (K i j p d : ℕ) (ids dists : List ℕ) (l : j < K) where
  pub set_other : (c : ℕ) → c ≢ i → row_at (set ids (i * K + j) p) (set dists (i * K + j) d) K c ≡ row_at ids dists K c
  set_other c n =
      places_same (set ids (i * K + j) p) (set dists (i * K + j) d) ids dists (c * K) K
      (λ m s.
      let q : c * K + m ≢ i * K + j = ⊎_elim (λ h. omega arith) (λ h. omega arith) (rows_apart c i m K n s) in
      λ k. (get_or-set_other ids (i * K + j) (c * K + m) p 0 q k, get_or-set_other dists (i * K + j) (c * K + m) d 0 q k))

  pub set_row : i * K + j < length ids → i * K + j < length dists → row_at (set ids (i * K + j) p) (set dists (i * K + j) d) K i ≡ set (row_at ids dists K i) j (p, d)
  set_row h h' =
      let new = set ids (i * K + j) p in
      let new' = set dists (i * K + j) d in
      ext_get_or (0, 0) (row_at new new' K i) (set (row_at ids dists K i) j (p, d))
      (places_length new new' (i * K) K ∙ sym (simp length-set (places_length ids dists (i * K) K)))
      (λ m s.
      let t : m < K = omega (arith, places_length new new' (i * K) K) in
      let e = places_at new new' (i * K) K m (0, 0) t in
      elim (ℕ_discrete m j) [
        | yes q ↦
            e
            ∙ ap (λ v. place new new' (i * K + v)) q
            ∙ (λ k. (get_or-set_same ids (i * K + j) p 0 h k, get_or-set_same dists (i * K + j) d 0 h' k))
            ∙ sym (get_or-set_same (row_at ids dists K i) j (p, d) (0, 0) (omega (arith, places_length ids dists (i * K) K)))
            ∙ ap (λ v. get_or (set (row_at ids dists K i) j (p, d)) v (0, 0)) (sym q)
        | no q ↦
            let o : i * K + m ≢ i * K + j = λ z. q (omega arith) in
            e
            ∙ (λ k. (get_or-set_other ids (i * K + j) (i * K + m) p 0 o k, get_or-set_other dists (i * K + j) (i * K + m) d 0 o k))
            ∙ sym (places_at ids dists (i * K) K m (0, 0) t)
            ∙ sym (get_or-set_other (row_at ids dists K i) j m (p, d) (0, 0) q)
      ])
