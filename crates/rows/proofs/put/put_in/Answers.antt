-- Both parts are shifted at the place of the point, or neither.
use Rattle.std.proofs.Common.{refl, sym, length}
use Rattle.rows.specs.Flat.{places}
use Rattle.rows.proofs.Flat.{places_length}
use Rattle.rows.proofs.PutLaws.{insert_size, put_row, put_taken, put_none, not_taken}
use Rattle.rows.proofs.put.put_in.Goals as goal

pub returns-in_default : goal.returns-in_default
returns-in_default c =
    let none = c.in_default.ensures {u = tt} in
    let taken = put_none c.args.p c.args.d c.args.ids.now c.args.distances.now c.requires none in
    let size = places_length c.args.ids.now c.args.distances.now 0 (length c.args.ids.now) in
    record {
      ids_size = refl;
      dists_size = refl;
      row = sym (rw size at (not_taken (c.args.p, c.args.d) (places c.args.ids.now c.args.distances.now 0 (length c.args.ids.now)) (sym taken)));
      taken = taken;
    }

pub returns : goal.returns
returns c =
    let o = c.in-Some.ensures in
    record {
      ids_size = rw c.insert_at.ensures (insert_size c.in-Some.at c.args.p c.args.ids.now);
      dists_size = rw c.insert_at-2.ensures (insert_size c.in-Some.at c.args.d c.args.distances.now);
      row =
          rw (c.insert_at.ensures, c.insert_at-2.ensures)
          (put_row c.args.p c.args.d c.in-Some.at c.args.ids.now c.args.distances.now c.requires o);
      taken = put_taken c.args.p c.args.d c.in-Some.at c.args.ids.now c.args.distances.now c.requires o;
    }
