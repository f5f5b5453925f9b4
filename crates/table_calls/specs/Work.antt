-- Records of the work: what the functions of this crate ask. No public contract rests on them.
-- Assumes nothing.
use Rattle.std.specs.Prelude.{ℕ, List}
use Rattle.network.specs.Network.{Network}
use Rattle.table.specs.Insert.{CanInsert}
use Rattle.table.specs.Remove.{CanRemove}
use Rattle.conditions.specs.declared.kind.Kind.{Kind}
use Rattle.conditions.specs.declared.kind.Kind.TheVariants.{Insert, Remove}

-- what insert or remove asks of the words that it is lent
abbrev pub CanChange : Kind → Network → List ℕ → List ℕ → List ℕ → List ℕ → ℕ → ℕ → Type 0
CanChange Insert = CanInsert
CanChange Remove = CanRemove
