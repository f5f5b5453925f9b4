-- The scratch that call j asks, from what the code compares there: more than is lent is found, and no more is passed.
-- Assumes nothing.
use Prim.Native.Nat.{ℕ, ◌+◌, ◌≤◌, ◌<◌}
use mathlib.Core.Path.{◌≡◌}
use mathlib.Core.Bool.{true, false}
use mathlib.Core.List.{List}
use lib.ListN.{length, get_or}
use borrow.Author.Tests.{lt-ltb, le-ltb}
use Rattle.network.specs.Count.{any}
use Rattle.network.proofs.Tests.{any_start, any_more, found}
use Rattle.replay.specs.Outcome.{asks_more_at}

pub no_length : (words : ℕ) (lengths : List ℕ) → any (asks_more_at words lengths) 0 ≡ false
no_length words lengths = any_start (asks_more_at words lengths)

pub length_found : (words : ℕ) (lengths : List ℕ) (j : ℕ) → j < length lengths → words < get_or lengths j 0
    → true ≡ any (asks_more_at words lengths) (length lengths)
unfolding asks_more_at
length_found words lengths j l h = found _ _ _ l (lt-ltb words (get_or lengths j 0) h)

pub length_passed : (words : ℕ) (lengths : List ℕ) (j : ℕ) → any (asks_more_at words lengths) j ≡ false → get_or lengths j 0 ≤ words
    → any (asks_more_at words lengths) (j + 1) ≡ false
unfolding asks_more_at
length_passed words lengths j e h = any_more _ _ e (le-ltb words (get_or lengths j 0) h)

pub ruleset length_steps = (no_length, length_found, length_passed)
