-- What an answer of overlap.h is as a Result: number 0 accepts, and any other number is the refusal's.
-- Assumes nothing.
use Rattle.std.specs.Prelude.{◌≡◌, ◌≢◌, ℕ, Result, MatchResult}
use Rattle.network_n.specs.declared.answers.Refused.{Refused}

-- accepted with a value of which P holds, or refused by the number
abbrev pub Answers : {T : Type 0} → ℕ → (T → Type 0) → Result T Refused → Type 0
Answers number P answer = MatchResult answer (λ value. (number ≡ 0) × P value) (λ refused. (refused.0 ≡ number) × (number ≢ 0))
