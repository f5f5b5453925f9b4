-- Laws of tags and keys: a tag fits; a key gives back its distance, its node and its parent; keys go by distance first, and then by node.
-- Assumes nothing.
use Prim.Native.Nat.{ℕ, ◌/◌, ◌≤◌, ◌<◌}
use mathlib.Core.Path.{◌≡◌}
use mathlib.Core.Logic.{◌⊎◌, inl, inr, ⊎_elim}
use native.Mathlib.Decide.{dec_lt}
use native.Mathlib.Omega.{arith}
use Rattle.expansion.specs.Queue.{key_of, distance_of, NoLater}
use Rattle.expansion.specs.Tags.{tag_of}

-- a tag fits
pub tag_fits : (v u : ℕ) → v < 65536 → u < 65536 → tag_of v u < 4294967296
tag_fits v u h l = omega arith

-- keys are equal only for equal distances, nodes and parents
pub entry_same : (d v u d' v' u' : ℕ) → v < 65536 → u < 65536 → v' < 65536 → u' < 65536 → key_of d (tag_of v u) ≡ key_of d' (tag_of v' u') → (d ≡ d') × (v ≡ v') × (u ≡ u')
entry_same d v u d' v' u' a b a' b' e = (omega arith, omega arith, omega arith)

-- the lesser key has no greater distance
pub key_distance : (d t d' t' : ℕ) → t' < 4294967296 → key_of d t ≤ key_of d' t' → d ≤ d'
key_distance d t d' t' l h = omega arith

-- the lesser key comes out no later
pub at_most_no_later : (a b : ℕ) → a ≤ b → NoLater a b
at_most_no_later a b h = elim (dec_lt (distance_of a) (distance_of b)) [ yes l ↦ inl l | no n ↦ inr (omega arith, omega arith) ]

-- what that says of the two: without the parents, the one key is no more than the other; their distances and nodes
pub no_later_key : (a b : ℕ) → NoLater a b → a / 65536 ≤ b / 65536
no_later_key a b = ⊎_elim (λ l. omega arith) (λ s. omega arith)

pub no_later_parts : (d v u d' v' u' : ℕ) → v < 65536 → u < 65536 → v' < 65536 → u' < 65536 → NoLater (key_of d (tag_of v u)) (key_of d' (tag_of v' u')) → (d < d') ⊎ ((d ≡ d') × (v ≤ v'))
no_later_parts d v u d' v' u' a b a' b' = ⊎_elim (λ l. inl (omega arith)) (λ s. inr (omega arith, omega arith))
