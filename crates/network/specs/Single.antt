-- Ask 8 leaves what document 01 says of bytes 0 and 1: at one locker a node at most, the counts are those of nodes, and a list has each node once. The
-- theorem, `single` of proofs/Single.antt, is for every network.
-- Assumes nothing.
use Rattle.std.specs.Prelude.{ℕ, suc, ◌≤◌, ◌≡◌, Bool, true, false, not, ◌&&◌, List, eqb}
use Rattle.network.specs.Network.{Network, node_count}
use Rattle.network.specs.Distance.{dist}
use Rattle.network.specs.Count.{count}
use Rattle.network.specs.Points.{lockers, marked, is_nearer, count_nearer, others_nearer}
use Rattle.network.specs.Nearest.{insert, by_distance}

-- '1 is a point, 0 none'
abbrev pub Single : List ℕ → Type 0
Single P = (p : ℕ) → lockers P p ≤ 1

-- the points other than p that are nearer to p than e: 'The point p itself doesn't count'
abbrev pub is_other : Network → List ℕ → ℕ → ℕ → ℕ → Bool
is_other g P p e x = not (eqb x p) && is_nearer g P p e x

-- a pair in its place, where a test says so
abbrev pub insert_if : Bool → ℕ × ℕ → List (ℕ × ℕ) → List (ℕ × ℕ)
insert_if true x ys = insert x ys
insert_if false x ys = ys

pub record AsBefore (g : Network) (P : List ℕ) : Type 0 where
  pub mark : (p : ℕ) → marked P p ≡ eqb (lockers P p) 1
  pub nearer : (m e : ℕ) → count_nearer g P m e ≡ count (is_nearer g P m e) (node_count g)
  pub others : (p e : ℕ) → others_nearer g P p e ≡ count (is_other g P p e) (node_count g)
  pub ordered : (i e n : ℕ) → by_distance g P i e (suc n) ≡ insert_if (is_nearer g P i e n) (n, dist g i n) (by_distance g P i e n)
