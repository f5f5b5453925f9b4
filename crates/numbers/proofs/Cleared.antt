-- Cleared scratch: the part of it that is lent to the work is blank, and behind the work all words are 0 again. Document 01, 'Numbers of refusal':
-- 'An accepted call with scratch leaves it all zero.'
-- Assumes nothing.
use Prim.Native.Nat.{ℕ, ◌+◌, ◌-◌, ◌≤◌}
use mathlib.Core.Path.{◌≡◌, sym, ap, ◌∙◌}
use mathlib.Core.List.{List, ◌++◌}
use native.Mathlib.Decide.{dec_lt}
use native.Mathlib.Omega.{arith}
use lib.ListN.{length, get_or, take, drop, replicate, length-replicate, length-append, length-take, length-drop, get_or-replicate, get_or-append, get_or-eq_default}
use lib.Seq.{length-take-le, get_or-append-add, get_or-take, get_or-drop, ext_get_or}
use Rattle.expansion.specs.Area.{Blank, Wiped}
use Rattle.expansion.proofs.Settled.{zero_blank}

-- cleared words have the length that they had
pub zero_length : {zs : List ℕ} (n : ℕ) → zs ≡ replicate n 0 → length zs ≡ n
zero_length n e = ap length e ∙ length-replicate n 0

-- words that are wiped are all 0, as many as they were
pub all_zero : {xs ys : List ℕ} (n : ℕ) → length xs ≡ n → Wiped xs ys 0 → ys ≡ replicate n 0
all_zero {xs} {ys} n e w =
    ext_get_or 0 ys (replicate n 0) (w.frame.size ∙ e ∙ sym (length-replicate n 0))
    (λ i h. w.blank.zero i (omega arith) ∙ sym (get_or-replicate n i 0 0 (omega (arith, w.frame.size))))

-- the words are 0 where a part in front is, and the rest
pub joined_wiped : (xs ys zs : List ℕ) (used : ℕ) → length ys ≡ length xs → used ≤ length xs → length zs ≡ length (take used ys) → Blank zs 0 → Blank ys used
    → Wiped xs (zs ++ drop used ys) 0
joined_wiped xs ys zs used size fits part front back =
    let long : length zs ≡ used = part ∙ length-take-le used ys (omega arith) in
    record {
      frame = record { size = simp (length-append, length-drop) (omega arith); words = λ i h. absurd (omega arith) };
      blank =
          record {
            zero =
                λ j _.
                elim (dec_lt j (length zs)) [
                  | yes h ↦ get_or-append zs (drop used ys) 0 j h ∙ front.zero j (omega arith)
                  | no h ↦
                      let q : j ≡ length zs + (j - length zs) = omega arith in
                      ap (λ (i : ℕ). get_or (zs ++ drop used ys) i 0) q
                      ∙ get_or-append-add zs (drop used ys) (j - length zs) 0
                      ∙ get_or-drop used ys (j - length zs) 0
                      ∙ back.zero (used + (j - length zs)) (omega arith)
                ];
          };
    }

-- cleared words of which a part in front is lent
pub part_blank : {ys : List ℕ} (n used : ℕ) → ys ≡ replicate n 0 → Blank (take used ys) 0
part_blank {ys} n used e =
    record {
      zero =
          λ j _.
          elim (dec_lt j used) [
            | yes h ↦ get_or-take used ys j 0 h ∙ (zero_blank n 0 e).zero j (omega arith)
            | no h ↦ get_or-eq_default (take used ys) 0 (simp length-take (omega arith))
          ];
    }

pub part_wiped : (xs : List ℕ) {ys zs : List ℕ} (used : ℕ) → ys ≡ replicate (length xs) 0 → used ≤ length xs → Wiped (take used ys) zs 0
    → Wiped xs (zs ++ drop used ys) 0
part_wiped xs {ys} {zs} used e fits w =
    joined_wiped xs ys zs used (zero_length (length xs) e) fits w.frame.size w.blank (zero_blank (length xs) used e)
