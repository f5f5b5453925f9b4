-- What the search from the nodes of a route requires and leaves. Document 02, Ask 7. The lent words are eager's: verified flags n | found flags n | visits n,
-- which stay 0 | found nodes n | the area of the inner expansions, 4 n | the area of the outer expansion, 4 n.
-- Assumes nothing.
use Rattle.std.specs.Prelude.{ℕ, ◌+◌, ◌*◌, ◌≤◌, ◌<◌, ◌≡◌, Bool, true, false, List, length, get_or}
use Rattle.network.specs.Network.{Network, node_count}
use Rattle.network.specs.Accepted.{Accepted}
use Rattle.network.specs.Routes.{on_route, is_touched, touched}
use Rattle.network.specs.Answers.{answered}
use Rattle.network.specs.Scratch.{eager_words}
use Rattle.expansion.specs.Area.{queue_base, Blank, Wiped, Area}
use Rattle.expansion.specs.Expand.{is_waiting}
use Rattle.searches.specs.Flags.{ids_base}
use Rattle.searches.specs.Eager.{is_found}

-- where the outer area starts
abbrev pub route_outer_base : Network → ℕ
route_outer_base g = 8 * node_count g

-- what stands in a node's first word: 2 on the route
abbrev pub stop_word : Bool → ℕ
stop_word true = 2
stop_word false = 0

-- a list of nodes, and words that are all 0, with n words before the area and room for it
pub record CanStartRoute (n : ℕ) (R xs : List ℕ) (b : ℕ) : Type 0 where
  pub few : n ≤ 65535
  pub inside : (v : ℕ) → on_route R v ≡ true → v < n
  pub blank : Blank xs 0
  pub before : n ≤ b
  pub room : queue_base n b + 2 * n ≤ length xs

-- the nodes of the list have their mark, and wait, and no others
pub record RouteStarted (n : ℕ) (R xs ys : List ℕ) (b len : ℕ) : Type 0 where
  pub size : length ys ≡ length xs
  pub area : Area n ys b 0 len
  pub marks : (v : ℕ) → v < n → get_or ys v 0 ≡ stop_word (on_route R v)
  pub rest : (j : ℕ) → n ≤ j → j < b → get_or ys j 0 ≡ 0
  pub waits : (v : ℕ) → v < n → is_waiting ys b v ≡ on_route R v

-- an accepted network with a byte for each node, a list of nodes, at least one nearest, and words that are all 0 with room for the areas
pub record CanRoute (g : Network) (P R xs : List ℕ) (k : ℕ) : Type 0 where
  pub accepted : Accepted g
  pub points : length P ≡ node_count g
  pub inside : (v : ℕ) → on_route R v ≡ true → v < node_count g
  pub some : 1 ≤ k
  pub blank : Blank xs 0
  pub size : eager_words g ≤ length xs

-- the expansion ends: the found flags are those of the list
pub record RouteExplored (g : Network) (P R : List ℕ) (k : ℕ) (xs ys : List ℕ) (settled : ℕ) : Type 0 where
  pub size : length ys ≡ length xs
  pub area : Area (node_count g) ys (route_outer_base g) settled 0
  pub blank : (j : ℕ) → ids_base g ≤ j → j < route_outer_base g → get_or ys j 0 ≡ 0
  pub found : (p : ℕ) → p < node_count g → is_found (node_count g) ys p ≡ is_touched g P R k p

-- the list and its length; all words are 0
pub record RouteLeft (g : Network) (P R : List ℕ) (k : ℕ) (xs ys old new : List ℕ) (r : ℕ) : Type 0 where
  pub sized : r ≡ length (touched g P R k)
  pub answers : new ≡ answered (touched g P R k) old
  pub area : Wiped xs ys 0
