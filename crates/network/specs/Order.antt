-- Terms of the theory: lists in order, who is nearer, how many come before; a distance with a way. (No answer of a call is defined by them.)
-- Assumes nothing.
use Rattle.std.specs.Prelude.{ℕ, ◌+◌, ◌≤◌, ◌<◌, ◌≡◌, ◌≢◌, Bool, true, ◌&&◌, eqb, ltb}
use mathlib.Core.List.{List, [], ◌∷◌, Memᴰ}
use Rattle.network.specs.Network.{Network, node_count}
use Rattle.network.specs.Count.{bit, sum_over}
use Rattle.network.specs.Distance.{NONE, dist}
use Rattle.network.specs.Points.{lockers, marked, is_nearer}
use Rattle.network.specs.Nearest.{key}

-- a list by distance then node: each is at most all behind it
abbrev pub AtLeast : ℕ → List (ℕ × ℕ) → Type 0
AtLeast k xs = (y : ℕ × ℕ) → Memᴰ y xs → k ≤ key y

abbrev pub Ordered : List (ℕ × ℕ) → Type 0
Ordered [] = Unit {0}
Ordered (x ∷ xs) = AtLeast (key x) xs × Ordered xs

-- a point p with d(i, p) < e
pub record Nearer (g : Network) (P : List ℕ) (i e p : ℕ) : Type 0 where
  pub inside : p < node_count g
  pub point : marked P p ≡ true
  pub less : dist g i p < e

-- how many of the lockers nearer to i than e have a key less than k
unfoldable pub is_before : Network → List ℕ → ℕ → ℕ → ℕ → ℕ → Bool
is_before g P i e k x = is_nearer g P i e x && ltb (key (x, dist g i x)) k

unfoldable pub before : Network → List ℕ → ℕ → ℕ → ℕ → ℕ
before g P i e k = sum_over (is_before g P i e k) (lockers P) (node_count g)

-- how often node p stands in a list
abbrev pub times : ℕ → List (ℕ × ℕ) → ℕ
times p [] = 0
times p (x ∷ xs) = times p xs + bit (eqb x.0 p)

-- a sum that is no sum of NONE: there is a way, and it is no longer
pub record Upto (d s : ℕ) : Type 0 where
  pub some : d ≢ NONE
  pub most : d ≤ s
