-- What `next` leaves, for each case of its answer.
-- Assumes nothing.
use Rattle.std.specs.Prelude.{ℕ, ◌≡◌, List, Option, None, Some}
use Rattle.expansion.specs.declared.step.Taken.{Taken}
use Rattle.expansion.specs.Area.{Took}

abbrev pub TakenIs : ℕ → List ℕ → List ℕ → ℕ → ℕ → Option Taken → Type 0
TakenIs n xs ys b len None = (len ≡ 0) × (ys ≡ xs)
TakenIs n xs ys b len (Some t) = Took n xs ys b len t.left t.label t.node t.parent
