-- What the search for the households that a site wins requires and leaves. Document 02, Ask 1. The lent words are: found nodes n | the area of the inner
-- expansions, 4 n | flags n | the area of the outer expansion, 4 n.
-- Assumes nothing.
use Rattle.std.specs.Prelude.{ℕ, ◌*◌, ◌≤◌, ◌<◌, ◌≡◌, List, length}
use Rattle.network.specs.Network.{Network, node_count}
use Rattle.network.specs.Accepted.{Accepted}
use Rattle.network.specs.Households.{is_won, won}
use Rattle.network.specs.Answers.{answered}
use Rattle.expansion.specs.Area.{Blank, Wiped, Area}
use Rattle.searches.specs.Eager.{is_found}

-- where the flags start, and where the outer area does
abbrev pub flags_base : Network → ℕ
flags_base g = 5 * node_count g

abbrev pub outer_base : Network → ℕ
outer_base g = 6 * node_count g

-- a node, a byte of sites for each node, and words that are all 0, with room for the found nodes and for the inner expansions
pub record CanCountSites (g : Network) (T xs : List ℕ) (v : ℕ) : Type 0 where
  pub accepted : Accepted g
  pub sites : length T ≡ node_count g
  pub inside : v < node_count g
  pub blank : Blank xs 0
  pub size : flags_base g ≤ length xs

-- an accepted network with a byte of sites for each node, a node q, k at least 1, and words that are all 0 with room for the areas
pub record CanWin (g : Network) (T xs : List ℕ) (q k : ℕ) : Type 0 where
  pub accepted : Accepted g
  pub sites : length T ≡ node_count g
  pub inside : q < node_count g
  pub some : 1 ≤ k
  pub blank : Blank xs 0
  pub size : 10 * node_count g ≤ length xs

-- the expansion ends: the flags are those of the list
pub record Explored (g : Network) (H T : List ℕ) (q k : ℕ) (xs ys : List ℕ) (settled : ℕ) : Type 0 where
  pub size : length ys ≡ length xs
  pub area : Area (node_count g) ys (outer_base g) settled 0
  pub flags : (h : ℕ) → h < node_count g → is_found (flags_base g) ys h ≡ is_won g H T q k h

-- the list and its length; all words are 0
pub record WonLeft (g : Network) (H T : List ℕ) (q k : ℕ) (xs ys old new : List ℕ) (r : ℕ) : Type 0 where
  pub sized : r ≡ length (won g H T q k)
  pub answers : new ≡ answered (won g H T q k) old
  pub area : Wiped xs ys 0
