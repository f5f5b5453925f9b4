-- The distance is the least sum of a walk. A walk that starts where k + 1 nodes are free has a sum of at least `within g k`: behind its last
-- visit to its first node one node fewer is free.
-- Assumes nothing.
use Prim.Native.Nat.{ℕ, zero, suc, ◌+◌, ◌-◌, ◌*◌, ◌≤◌, ◌<◌}
use mathlib.Core.Path.{◌≡◌}
use mathlib.Core.Bool.{Bool, true}
use mathlib.Core.Logic.{◌≢◌}
use native.Mathlib.Omega.{arith}
use Rattle.network.specs.Network.{Network, Arc, node_count}
use Rattle.network.proofs.NodeArcs.{arc_source}
use Rattle.network.specs.Accepted.{Accepted}
use Rattle.network.specs.Walk.{Walk}
use Rattle.network.specs.Count.{count}
use Rattle.network.specs.Distance.{NONE, within, dist, Least}
use Rattle.network.proofs.Within.{plus_some, within_same, within_arc, within_walk}
use Rattle.network.proofs.Counts.{without, count_without, count_all}
use Rattle.network.proofs.Trail.{Trail, free, walk_trail, Last, at_end, onward, last_of_start}

-- a walk's sum s, and the most that k arcs can weigh, are no less than `within g k`
record Bounds (g : Network) (k a b s : ℕ) : Type 0 where
  most : within g k a b ≤ 65535 * k
  sum : within g k a b ≤ s

ends : (g : Network) (k a b s : ℕ) → a ≡ b → Bounds g k a b s
ends g k a b s e = let z = within_same g k a b e in omega arith

module _ {g : Network} (ok : Accepted g) where
  -- one arc from a, and the rest of the walk
  longer : {a b c w r s : ℕ} (k : ℕ) → k < 65535 → Arc g a c w → w + r ≤ s → Bounds g k c b r → Bounds g (suc k) a b s
  longer {b} {c} {w} k small arc l rest =
      let p = plus_some w (within g k c b) (omega arith) in
      let q = within_arc k b arc in
      let m = ok.weight_high arc in
      record { most = omega arith; sum = omega arith }

  bounds : (k : ℕ) (t : ℕ → Bool) {a b s : ℕ} → k ≤ 65535 → count t (node_count g) ≤ suc k → Trail g t b a s → Bounds g k a b s
  bounds zero t {a} {b} {s} small few tr = from (last_of_start tr)
    where
      from : Last g t b a s → Bounds g zero a b s
      from (at_end e) = ends g zero a b s e
      from (onward {c} arc k l) =
          absurd
          (omega
          (arith, count_without t a (node_count g) (arc_source arc) (free tr), count_without (without t a) c (node_count g) (ok.leads_in arc) (free k)))
  bounds (suc k) t {a} {b} {s} small few tr = from (last_of_start tr) (λ c r m f x. bounds k (without t a) m f x)
    where
      from : Last g t b a s → ((c r : ℕ) → k ≤ 65535 → count (without t a) (node_count g) ≤ suc k → Trail g (without t a) b c r → Bounds g k c b r) → Bounds g (suc k) a b s
      from (at_end e) ih = ends g (suc k) a b s e
      from (onward arc rest l) ih =
          longer k small arc l (ih _ _ (omega arith) (omega (arith, count_without t a (node_count g) (arc_source arc) (free tr))) rest)

  walk_bounds : {a b s : ℕ} (k : ℕ) → k ≤ 65535 → node_count g ≤ suc k → Walk g a b s → Bounds g k a b s
  walk_bounds k small few tr = bounds k (λ _. true) small (omega (arith, count_all (node_count g))) (walk_trail tr)

module _ {g : Network} (ok : Accepted g) (a b : ℕ) where
  reached : {s : ℕ} → Walk g a b s → Bounds g (node_count g) a b s
  reached k = walk_bounds ok (node_count g) ok.few (omega arith) k

  -- n - 1 arcs are enough: what they reach is a walk, so the distance is no more
  low : {s : ℕ} → Bounds g (node_count g - 1) a b s → within g (node_count g) a b ≤ 65535 * (node_count g - 1)
  low r = omega (arith, r.most, (reached (within_walk g (node_count g - 1) a b (omega (arith, r.most, ok.few)))).sum)

  bound : within g (node_count g) a b ≢ NONE → within g (node_count g) a b ≤ 65535 * (node_count g - 1)
  bound n = low (walk_bounds ok (node_count g - 1) (omega (arith, ok.few)) (omega arith) (within_walk g (node_count g) a b n))

  pub distance : Least g a b
  unfolding dist
  distance =
      record {
        none = λ e k. omega (arith, (reached k).most, ok.few);
        walk = λ n. within_walk g (node_count g) a b n;
        least_sum = λ k. (reached k).sum;
        bound = bound;
        limit = λ n. omega (arith, bound n, ok.few);
      }
