-- The byte at place i of points, from what the code compares there: a high one is found, and a good one passed.
-- Assumes nothing.
use Prim.Native.Nat.{ℕ, ◌+◌, ◌≤◌, ◌<◌}
use mathlib.Core.Path.{◌≡◌}
use mathlib.Core.Bool.{true, false}
use mathlib.Core.List.{List}
use lib.ListN.{length, get_or}
use borrow.Author.Tests.{lt-ltb, le-ltb}
use Rattle.network.specs.Count.{any}
use Rattle.network.proofs.Tests.{any_start, any_more, found}
use Rattle.conditions.specs.Conditions.{bad_byte_at}

pub no_byte : (P : List ℕ) → any (bad_byte_at P) 0 ≡ false
no_byte P = any_start (bad_byte_at P)

pub byte_found : (P : List ℕ) (i : ℕ) → i < length P → 15 < get_or P i 0 → true ≡ any (bad_byte_at P) (length P)
unfolding bad_byte_at
byte_found P i l h = found _ _ _ l (lt-ltb 15 (get_or P i 0) h)

pub byte_passed : (P : List ℕ) (i : ℕ) → any (bad_byte_at P) i ≡ false → get_or P i 0 ≤ 15 → any (bad_byte_at P) (i + 1) ≡ false
unfolding bad_byte_at
byte_passed P i e h = any_more _ _ e (le-ltb 15 (get_or P i 0) h)

pub ruleset byte_steps = (no_byte, byte_found, byte_passed)
