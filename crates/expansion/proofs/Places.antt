-- The first m entries of a list: their places.
-- Assumes nothing.
use Prim.Native.Nat.{ℕ, zero, suc, ◌<◌}
use mathlib.Core.Path.{◌≡◌, sym}
use mathlib.Core.Logic.{⊎_elim}
use mathlib.Core.List.Memᴰ
use mathlib.Core.List.{List, [], ◌∷◌, Memᴰ}
use native.Mathlib.Omega.{arith}
use lib.ListN.{length, take, get_or, length-take}
use lib.Seq.{get_or-take}
use Rattle.network.proofs.Counts.{member_at}

-- z stands at place m of xs
pub record Next (xs : List (ℕ × ℕ)) (m : ℕ) (z : ℕ × ℕ) : Type 0 where
  pub low : m < length xs
  pub is : get_or xs m (0, 0) ≡ z

-- the places of the first m
pub first_in : (m : ℕ) (xs : List (ℕ × ℕ)) (j : ℕ) → j < m → j < length xs → Memᴰ (get_or xs j (0, 0)) (take m xs)
first_in m xs j h l =
    Memᴰ.cast (sym (get_or-take m xs j (0, 0) h)) (member_at (0, 0) (take m xs) j (omega (arith, length-take m xs)))

pub record PlaceIn (m : ℕ) (xs : List (ℕ × ℕ)) (z : ℕ × ℕ) : Type 0 where
  pub index : ℕ
  pub low : index < m
  pub inside : index < length xs
  pub is : z ≡ get_or xs index (0, 0)

pub in_first : (m : ℕ) (xs : List (ℕ × ℕ)) (z : ℕ × ℕ) → Memᴰ z (take m xs) → PlaceIn m xs z
in_first zero xs z i = absurd (Memᴰ.not-nil i)
in_first (suc m) [] z i = absurd (Memᴰ.not-nil i)
in_first (suc m) (x ∷ xs) z i =
    ⊎_elim
    (λ e. record { index = 0; low = omega arith; inside = omega arith; is = e })
    (λ t. let r = in_first m xs z t in record { index = suc r.index; low = omega (arith, r.low); inside = omega (arith, r.inside); is = r.is })
    (Memᴰ.cases_cons i)
