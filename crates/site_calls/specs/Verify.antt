-- The verify call: 1 to 5, 6, 7 (p, then q), 9, 10 (12 × n: Ask 5), 11. Document 01, 'What a site receives': 'Verify: for a marked p and q, yes or
-- no by the rule above'; document 02, Ask 6: 'Verify of the point on q says no', behind 11 as any other answer.
-- Assumes nothing.
use Rattle.std.specs.Prelude.{Bool, Result, Ok, Err, ℕ, List, length, replicate}
use Rattle.network.specs.Network.{Network}
use Rattle.network.specs.Points.{verified}
use Rattle.numbers.specs.Numbers.{verify_number}
use Rattle.conditions.specs.Conditions.{by_number}

-- the answer, and the final contents of scratch
pub record VerifyOutcome : Type 0 where
  pub answer : Result Bool ℕ
  pub scratch : List ℕ

unfoldable pub verify_outcome : Network → List ℕ → ℕ → ℕ → ℕ → List ℕ → VerifyOutcome
verify_outcome g P p q k scratch =
    by_number (verify_number g P p q k scratch)
    (record { answer = Err (verify_number g P p q k scratch); scratch = scratch })
    (record { answer = Ok (verified g P p q k); scratch = replicate (length scratch) 0 })
