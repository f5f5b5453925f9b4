-- What the exported calls return and leave: overlap.h's struct of the answer, and the final contents of the lent arrays.
-- Assumes nothing.
use Rattle.std.specs.Prelude.{ℕ, ◌≡◌, List}
use Rattle.conditions.specs.declared.answers.Listing.{Listing}
use Rattle.conditions.specs.declared.answers.Verdict.{Verdict}
use Rattle.site_calls.specs.Nearest.{NearestOutcome}
use Rattle.site_calls.specs.Verify.{VerifyOutcome}
use Rattle.conditions.specs.Values.{listed_listing, rule_verdict}
use Rattle.site_calls.specs.Shared.{SearchOutcome}
use Rattle.site_calls.specs.Eager.{EagerOutcome}

pub record NearestExported (outcome : NearestOutcome) (r : Listing) (scratch ids distances : List ℕ) : Type 0 where
  pub answer : r ≡ listed_listing outcome.answer
  pub scratch_left : scratch ≡ outcome.scratch
  pub ids_left : ids ≡ outcome.ids
  pub distances_left : distances ≡ outcome.distances

pub record VerifyExported (outcome : VerifyOutcome) (r : Verdict) (scratch : List ℕ) : Type 0 where
  pub answer : r ≡ rule_verdict outcome.answer
  pub scratch_left : scratch ≡ outcome.scratch

pub record SearchExported (outcome : SearchOutcome) (r : Listing) (scratch answers : List ℕ) : Type 0 where
  pub answer : r ≡ listed_listing outcome.answer
  pub scratch_left : scratch ≡ outcome.scratch
  pub answers_left : answers ≡ outcome.answers

pub record EagerExported (outcome : EagerOutcome) (r : Listing) (scratch answers visits : List ℕ) : Type 0 where
  pub search : SearchExported outcome.search r scratch answers
  pub visits_left : visits ≡ outcome.visits
