-- The words when the first of them and the outer area are cleared.
-- Assumes nothing.
use Prim.Native.Nat.{ℕ, ◌*◌, ◌≤◌, ◌<◌}
use mathlib.Core.Path.{◌≡◌, ap, ◌∙◌}
use mathlib.Core.List.{List, ◌++◌}
use native.Mathlib.Decide.{dec_lt}
use native.Mathlib.Omega.{arith}
use lib.ListN.{length, get_or, take, drop, replicate, length-replicate}
use Rattle.expansion.specs.Area.{Wiped}
use Rattle.expansion.proofs.Settled.{zero_blank}
use Rattle.searches.specs.Eager.{CanWipe}
use Rattle.network.proofs.Lends.{first_size, first_part, first_after}

-- the first e words are cleared, those up to b are 0 already, and the area from b on is blank
pub wiped_front : {xs ys zs : List ℕ} (e b : ℕ) → e ≤ length ys → ((j : ℕ) → e ≤ j → j < b → get_or xs j 0 ≡ 0) → Wiped xs ys b
    → zs ≡ replicate (length (take e ys)) 0 → Wiped xs (zs ++ drop e ys) 0
wiped_front {xs} {ys} {zs} e b fits blank w is =
    record {
      frame = record { size = first_size e ys zs fits same ∙ w.frame.size; words = λ i h. absurd (omega arith) };
      blank = record { zero = λ j h. word j };
    }
  where
    same : length zs ≡ length (take e ys)
    same = ap length is ∙ length-replicate (length (take e ys)) 0

    word : (j : ℕ) → get_or (zs ++ drop e ys) j 0 ≡ 0
    word j =
        elim (dec_lt j e) [
          | yes h ↦ first_part e ys zs fits same j h ∙ (zero_blank (length (take e ys)) 0 is).zero j (omega arith)
          | no h ↦
              first_after e ys zs fits same j (omega arith)
              ∙ elim (dec_lt j b) [
                | yes l ↦ w.frame.words j l ∙ blank j (omega arith) l
                | no l ↦ w.blank.zero j (omega arith)
              ]
        ]

-- eager's: the words before the found nodes
module _ {n : ℕ} {xs ys : List ℕ} {b settled len : ℕ} (c : CanWipe n xs b settled len) (w : Wiped xs ys b) where
  pub flags_fit : 3 * n ≤ length ys
  flags_fit = omega (arith, c.low, c.area.queue.room, w.frame.size)

  pub wiped_all : {zs : List ℕ} → zs ≡ replicate (length (take (3 * n) ys)) 0 → Wiped xs (zs ++ drop (3 * n) ys) 0
  wiped_all = wiped_front (3 * n) b flags_fit c.blank w
