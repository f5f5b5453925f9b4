-- Two tables of five junctions with K = 2, by computing, the row and its struct: at junction 0 the own row begins nearer, at 1 the rival's, at 2 both
-- begin as near, at 3 neither has an entry, and at 4 the rival's alone has one.
-- Assumes nothing.
use Prim.Native.Nat.{ℕ}
use mathlib.Core.Path.{◌≡◌, refl}
use mathlib.Core.List.{List, [], ◌∷◌}
use Rattle.network.specs.Distance.{NONE}
use Rattle.network.specs.Rows.{row_entries}
use Rattle.nearer_row.specs.Nearer.{own_nearer, nearer_row}
use Rattle.nearer_row.specs.Part.{nearer_part}

abbrev own : List ℕ
own = 0 ∷ 7 ∷ 5 ∷ NONE ∷ 2 ∷ 3 ∷ NONE ∷ NONE ∷ NONE ∷ NONE ∷ []

abbrev rival : List ℕ
rival = 4 ∷ 6 ∷ 1 ∷ 9 ∷ 2 ∷ 8 ∷ NONE ∷ NONE ∷ 30 ∷ NONE ∷ []

own_nearer_row : nearer_row 2 0 own rival ≡ 0 ∷ 7 ∷ []
unfolding nearer_row own_nearer row_entries
own_nearer_row = refl

own_nearer_part : nearer_part 2 0 own rival ≡ record { number = 0; rival = 0; start = 0; length = 2 }
unfolding nearer_part own_nearer row_entries
own_nearer_part = refl

rival_nearer_row : nearer_row 2 1 own rival ≡ 1 ∷ 9 ∷ []
unfolding nearer_row own_nearer row_entries
rival_nearer_row = refl

rival_nearer_part : nearer_part 2 1 own rival ≡ record { number = 0; rival = 1; start = 2; length = 2 }
unfolding nearer_part own_nearer row_entries
rival_nearer_part = refl

equal_row : nearer_row 2 2 own rival ≡ 2 ∷ 3 ∷ []
unfolding nearer_row own_nearer row_entries
equal_row = refl

equal_part : nearer_part 2 2 own rival ≡ record { number = 0; rival = 0; start = 4; length = 2 }
unfolding nearer_part own_nearer row_entries
equal_part = refl

none_row : nearer_row 2 3 own rival ≡ NONE ∷ NONE ∷ []
unfolding nearer_row own_nearer row_entries
none_row = refl

none_part : nearer_part 2 3 own rival ≡ record { number = 0; rival = 0; start = 6; length = 2 }
unfolding nearer_part own_nearer row_entries
none_part = refl

rival_alone_row : nearer_row 2 4 own rival ≡ 30 ∷ NONE ∷ []
unfolding nearer_row own_nearer row_entries
rival_alone_row = refl

rival_alone_part : nearer_part 2 4 own rival ≡ record { number = 0; rival = 1; start = 8; length = 2 }
unfolding nearer_part own_nearer row_entries
rival_alone_part = refl
