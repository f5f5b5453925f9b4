-- What a search that returned number 0 has said and written: no condition was met, and the outcome is the accepted one.
-- Assumes nothing.
use Prim.Native.Nat.{ℕ, ◌≤◌}
use mathlib.Core.Path.{◌≡◌, refl, sym, ap, ◌∙◌}
use mathlib.Core.List.{List}
use native.Mathlib.Decide.{ℕ_discrete, dec_lt}
use native.Mathlib.Omega.{arith}
use lib.ListN.{length}
use Rattle.network.specs.Network.{Network}
use Rattle.network.specs.Answers.{answered}
use Rattle.network.specs.Points.{listed, expanded}
use Rattle.network.specs.Visits.{visits}
use Rattle.conditions.specs.declared.answers.Listing.{Listing}
use Rattle.numbers.specs.Numbers.{eager_number, search_number}
use Rattle.site_calls.specs.Eager.{limited_outcome, eager_outcome}
use Rattle.site_calls.specs.Lazy.{lazy_outcome}
use Rattle.site_calls.specs.Exported.{SearchExported, EagerExported}
use Rattle.site_calls.proofs.Outcomes.{limited_refused, limited_beyond, limited_done, visits_done, eager_search, eager_visits, lazy_refused, lazy_done}

-- the list of a site
pub record SaidList (g : Network) (P : List ℕ) (q k : ℕ) (old new : List ℕ) (r : Listing) : Type 0 where
  pub sized : r.length ≡ length (listed g P q k)
  pub answers : new ≡ answered (listed g P q k) old

-- a search with a limit
pub record SaidLimited (number : ℕ) (g : Network) (P : List ℕ) (q k limit : ℕ) (old new : List ℕ) (r : Listing) : Type 0 where
  pub zero : number ≡ 0
  pub within : expanded g P q k ≤ limit
  pub count : r.count ≡ expanded g P q k
  pub list : SaidList g P q k old new r

module _ (g : Network) (P : List ℕ) (q k : ℕ) (scratch old : List ℕ) {scratch' new : List ℕ} {r : Listing} (accepted : r.number ≡ 0) where
  pub limited_said : (number limit : ℕ) → SearchExported (limited_outcome number g P q k limit scratch old) r scratch' new
      → SaidLimited number g P q k limit old new r
  limited_said number limit h =
      elim (ℕ_discrete number 0) [
        | no n ↦
            let a = rw (← limited_refused g P q k limit scratch old number refl n) at h in
            absurd (n (sym (ap (λ (l : Listing). l.number) a.answer) ∙ accepted))
        | yes z ↦
            elim (dec_lt limit (expanded g P q k)) [
              | yes l ↦
                  let a = rw (← limited_beyond g P q k limit scratch old z refl l refl) at h in
                  absurd (omega (arith, ap (λ (l : Listing). l.number) a.answer, accepted))
              | no l ↦
                  let a = rw (← limited_done g P q k limit scratch old z refl (omega arith) refl refl refl) at h in
                  record {
                    zero = z;
                    within = omega arith;
                    count = ap (λ (l : Listing). l.count) a.answer;
                    list = record { sized = ap (λ (l : Listing). l.length) a.answer; answers = a.answers_left };
                  }
            ]
      ]

  -- eager, and its visits
  pub eager_said : (limit : ℕ) (steps : List ℕ) {steps' : List ℕ} → EagerExported (eager_outcome g P q k limit scratch old steps) r scratch' new steps'
      → SaidLimited (eager_number g P q k scratch old steps) g P q k limit old new r × (steps' ≡ answered (visits g P q k) steps)
  eager_said limit steps h =
      let s = limited_said (eager_number g P q k scratch old steps) limit (eager_search g P q k limit scratch old steps h) in
      (s, eager_visits g P q k limit scratch old steps h ∙ sym (visits_done g P q k limit steps s.zero s.within))

  -- lazy and lazy-EP
  pub lazy_said : SearchExported (lazy_outcome g P q k scratch old) r scratch' new → (search_number g P q k scratch old ≡ 0) × SaidList g P q k old new r
  lazy_said h =
      elim (ℕ_discrete (search_number g P q k scratch old) 0) [
        | no n ↦
            let a = rw (← lazy_refused g P q k scratch old (search_number g P q k scratch old) refl n) at h in
            absurd (n (sym (ap (λ (l : Listing). l.number) a.answer) ∙ accepted))
        | yes z ↦
            let a = rw (← lazy_done g P q k scratch old z refl refl refl) at h in
            (z, record { sized = ap (λ (l : Listing). l.length) a.answer; answers = a.answers_left })
      ]
