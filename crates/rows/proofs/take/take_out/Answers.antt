-- A row that has all lockers of the node loses its first place, if there is one; another row stays.
use Rattle.std.proofs.Common.{refl, sym, ◌∙◌}
use Rattle.rows.proofs.TakeLaws.{first_place, no_place, taken_row, not_there, has_all_lem, has_not_all}
use Rattle.rows.proofs.take.take_out.Goals as goal

pub returns-then-among-all : goal.returns-then-among-all
returns-then-among-all c = record { ids_size = refl; dists_size = refl; row = refl; was = has_not_all _ _ _ _ _ c.among.ensures c.if-among-all.true }

pub returns-in-Some : goal.returns-in-Some
returns-in-Some c =
    let f = c.take_at.ensures in
    let g = c.take_at-in-Some.ensures in
    record {
      ids_size = f.size;
      dists_size = g.size;
      row = taken_row c.requires (first_place _ _ _ (sym c.place_of_point.ensures ∙ c.in-Some.is)) f g;
      was = has_all_lem _ _ _ _ _ c.among.ensures c.if-among-all.false;
    }

pub returns-in_default : goal.returns-in_default
returns-in_default c =
    record {
      ids_size = refl;
      dists_size = refl;
      row = not_there _ _ _ (no_place _ _ (sym c.place_of_point.ensures ∙ c.in_default.is));
      was = has_all_lem _ _ _ _ _ c.among.ensures c.if-among-all.false;
    }
