-- What one call of the list is, and what the loop over the calls asks and leaves: a run in the sense of demand 3, with its answers in two arrays.
-- Assumes nothing.
use Rattle.std.specs.Prelude.{ℕ, ◌≤◌, ◌<◌, ◌≡◌, List, map, ◌++◌, length, get_or, drop, replicate}
use Rattle.network.specs.Network.{Network}
use Rattle.conditions.specs.declared.answers.Update.{Update}
use Rattle.demands.specs.Demand3.{Run}
use Rattle.replay.specs.declared.CallWords.{CallWords}
use Rattle.replay.specs.Calls.{CallArrays, kind_of, calls_below}
use Rattle.replay.specs.Outcome.{Lent}

-- call j of a list is there, and its words
pub record HasCall (list : CallArrays) (j : ℕ) : Type 0 where
  pub kind : j < length list.kinds
  pub node : j < length list.nodes
  pub places : j < length list.places
  pub scratch : j < length list.lengths

abbrev pub words_at : CallArrays → ℕ → CallWords
words_at list j =
    record { kind = kind_of (get_or list.kinds j 0); node = get_or list.nodes j 0; places = get_or list.places j 0; length = get_or list.lengths j 0 }

-- one entry for each call in every array, no call's scratch longer than the one lent, and that one all zero
pub record ListFits (list : CallArrays) (old : Lent) : Type 0 where
  pub nodes : length list.nodes ≡ length list.kinds
  pub places : length list.places ≡ length list.kinds
  pub lengths : length list.lengths ≡ length list.kinds
  pub numbers : length old.numbers ≡ length list.kinds
  pub counts : length old.counts ≡ length list.kinds
  pub room : (j : ℕ) → j < length list.kinds → get_or list.lengths j 0 ≤ length old.scratch
  pub zero : old.scratch ≡ replicate (length old.scratch) 0

-- what the first j calls leave
pub record CallsFollowed (g : Network) (list : CallArrays) (j : ℕ) (old new : Lent) : Type 0 where
  pub answers : List Update
  pub each : length answers ≡ j
  pub run : Run g old.points old.ids old.distances (calls_below list j) answers new.points new.ids new.distances
  pub numbers : new.numbers ≡ map (λ (u : Update). u.number) answers ++ drop j old.numbers
  pub counts : new.counts ≡ map (λ (u : Update). u.changed) answers ++ drop j old.counts
  pub zero : new.scratch ≡ replicate (length old.scratch) 0
