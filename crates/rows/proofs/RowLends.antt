-- A row of a table is lent mutably as the part of both arrays that it is, and comes back with one point put in or taken out.
-- Assumes nothing.
use Prim.Native.Nat.{ℕ, ◌+◌, ◌-◌, ◌*◌}
use mathlib.Core.Path.{◌≡◌, ◌∙◌}
use mathlib.Core.Bool.{Bool}
use mathlib.Core.List.{List}
use lib.ListN.{length}
use borrow.Rule.Slice.PartMut.{mid_of, put_mid}
use Rattle.rows.specs.Flat.{places, row_at}
use Rattle.rows.specs.Put.{PutIn, HasRow, PutInRow}
use Rattle.rows.specs.Take.{TakenOut, TakenOutOfRow}
use Rattle.rows.proofs.Laid.{part_places}
use Rattle.rows.proofs.Frame.{row_width, row_long, row_lent, put_row, put_other}

module _ {K i : ℕ} {ids dists : List ℕ} (h : HasRow ids dists K i) where
  size : length (mid_of (i * K) ((i * K + K) - i * K) ids) ≡ K
  size = row_long i K ids h.fits

  lent : places (mid_of (i * K) ((i * K + K) - i * K) ids) (mid_of (i * K) ((i * K + K) - i * K) dists) 0 K ≡ row_at ids dists K i
  lent = rw (row_width i K) (part_places ids dists (i * K) K)

  -- what `put_in_row` leaves
  pub put_in_row : {zs ws : List ℕ} {p d : ℕ} {r : Bool}
      → PutIn (mid_of (i * K) ((i * K + K) - i * K) ids) (mid_of (i * K) ((i * K + K) - i * K) dists) zs ws p d r
      → PutInRow ids dists (put_mid (i * K) ((i * K + K) - i * K) ids zs) (put_mid (i * K) ((i * K + K) - i * K) dists ws) K i p d r
  put_in_row t =
      let b = row_lent h t.ids_size t.dists_size in
      record {
        ids_size = b.ids_put.size;
        dists_size = b.dists_put.size;
        row = put_row b ∙ rw (size, lent) at t.row;
        others = put_other b;
        taken = rw (size, lent) at t.taken;
      }

  -- what `take_out_of_row` leaves
  pub taken_out_of_row : {zs ws : List ℕ} {p all : ℕ} {r : Bool}
      → TakenOut (mid_of (i * K) ((i * K + K) - i * K) ids) (mid_of (i * K) ((i * K + K) - i * K) dists) zs ws p all r
      → TakenOutOfRow ids dists (put_mid (i * K) ((i * K + K) - i * K) ids zs) (put_mid (i * K) ((i * K + K) - i * K) dists ws) K i p all r
  taken_out_of_row t =
      let b = row_lent h t.ids_size t.dists_size in
      record {
        ids_size = b.ids_put.size;
        dists_size = b.dists_put.size;
        row = put_row b ∙ rw (size, lent) at t.row;
        others = put_other b;
        was = rw (size, lent) at t.was;
      }
