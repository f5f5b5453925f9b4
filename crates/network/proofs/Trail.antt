-- A walk through free nodes alone, and what is left of it behind its last visit to a node. Where a walk starts at a node it need not come back
-- to it: so a least walk goes on through nodes that are free but for that one, and it ends before the free nodes do.
-- Assumes nothing.
use Prim.Native.Nat.{ℕ, ◌+◌, ◌≤◌}
use mathlib.Core.Path.{◌≡◌, refl, sym, ◌∙◌}
use mathlib.Core.Bool.{Bool, true, false≢true}
use mathlib.Core.Logic.{◌⊎◌, inl, inr, ⊎_elim}
use native.Mathlib.Decide.{ℕ_discrete}
use native.Mathlib.Omega.{arith}
use Rattle.network.specs.Network.{Network, Arc}
use Rattle.network.specs.Walk.{Walk, here, step}
use Rattle.network.proofs.Counts.{without, without_other, without_self}

pub data Trail (g : Network) (t : ℕ → Bool) (b : ℕ) : ℕ → ℕ → Type 0 where
  stay : {a : ℕ} → t a ≡ true → a ≡ b → Trail g t b a 0
  go : {a c w s : ℕ} → t a ≡ true → Arc g a c w → Trail g t b c s → Trail g t b a (w + s)

pub free : {g : Network} {t : ℕ → Bool} {a b s : ℕ} → Trail g t b a s → t a ≡ true
free (stay f e) = f
free (go f r tr) = f

pub walk_trail : {g : Network} {a b s : ℕ} → Walk g a b s → Trail g (λ _. true) b a s
walk_trail here = stay refl refl
walk_trail (step r k) = go refl r (walk_trail k)

-- The last visit to x: it is the end, or the walk goes on through nodes that are not x.
pub data Last (g : Network) (t : ℕ → Bool) (b x s : ℕ) : Type 0 where
  at_end : x ≡ b → Last g t b x s
  onward : {c w r : ℕ} → Arc g x c w → Trail g (without t x) b c r → w + r ≤ s → Last g t b x s

pub last : {g : Network} {t : ℕ → Bool} {b a s : ℕ} (x : ℕ) → Trail g t b a s → Trail g (without t x) b a s ⊎ Last g t b x s
last {t = t} {a = a} x (stay f e) =
    elim (ℕ_discrete a x) [ yes q ↦ inr (at_end (sym q ∙ e)) | no n ↦ inl (stay (without_other t x a n ∙ f) e) ]
last {g = g} {t = t} {b = b} {a = a} x (go {c} {w} {s} f r tr) = again (last x tr)
  where
    again : Trail g (without t x) b c s ⊎ Last g t b x s → Trail g (without t x) b a (w + s) ⊎ Last g t b x (w + s)
    again (inl k) =
        elim (ℕ_discrete a x) [
          | yes q ↦ inr (onward (rw q at r) k (omega arith))
          | no n ↦ inl (go (without_other t x a n ∙ f) r k)
        ]
    again (inr (at_end e)) = inr (at_end e)
    again (inr (onward r' k l)) = inr (onward r' k (omega arith))

pub last_of_start : {g : Network} {t : ℕ → Bool} {a b s : ℕ} → Trail g t b a s → Last g t b a s
last_of_start {t} {a} tr = ⊎_elim (λ k. absurd (false≢true (sym (without_self t a) ∙ free k))) (λ l. l) (last a tr)
