-- A route of one node is answered as a site: its number is that of a search, as no road can be missing, and what it touches is what the node receives.
-- Assumes nothing.
use Prim.Native.Nat.{ℕ}
use mathlib.Core.Path.{◌≡◌, refl, sym, ap, ◌∙◌}
use mathlib.Core.List.{List, [], ◌∷◌}
use native.Mathlib.Decide.{ℕ_discrete, dec_lt}
use native.Mathlib.Omega.{arith}
use lib.ListN.{length}
use Rattle.network.specs.Network.{Network, node_count}
use Rattle.network.specs.Points.{listed, expanded}
use Rattle.network.specs.Routes.{breaks_from, bad_route, touched}
use Rattle.network.specs.Scratch.{scratch_words}
use Rattle.network.specs.Answers.{answered}
use Rattle.network.proofs.Routes.{one_search}
use Rattle.conditions.specs.Conditions.{first_number, node_number, nodes_number, k_number, short_number, route_number}
use Rattle.conditions.specs.Values.{listed_listing}
use Rattle.conditions.proofs.NotMet.{first_last, first_first}
use Rattle.numbers.specs.Numbers.{network_points_number, site_number, query_number, search_number, eager_number}
use Rattle.numbers.proofs.Ready.{search_ready}
use Rattle.site_calls.specs.Shared.{SearchOutcome, list_outcome}
use Rattle.site_calls.specs.Eager.{limited_outcome, eager_outcome}
use Rattle.site_calls.specs.Lazy.{lazy_outcome}
use Rattle.site_calls.proofs.Outcomes.{list_refused, limited_refused, limited_beyond, limited_done, lazy_refused, lazy_done}
use Rattle.route_calls.specs.Numbers.{route_call_number}
use Rattle.route_calls.specs.Route.{route_outcome, ListAlike, OneNode}

-- ---- The number.

-- a last number of 0 makes no difference
last_none : (x : ℕ) → first_number (x ∷ 0 ∷ []) ≡ first_number (x ∷ [])
unfolding first_number
last_none x = refl

-- six numbers, the second a list of one and the last 0, against the same as a search groups them
same_first : (a b c d e : ℕ) → first_number (a ∷ first_number (b ∷ []) ∷ c ∷ d ∷ e ∷ 0 ∷ [])
    ≡ first_number (first_number (first_number (a ∷ b ∷ []) ∷ c ∷ d ∷ []) ∷ e ∷ [])
same_first a b c d e =
    ap (λ (x : ℕ). first_number (a ∷ x ∷ c ∷ d ∷ e ∷ 0 ∷ [])) (sym (first_last b b refl))
    ∙ sym (first_first (a ∷ b ∷ c ∷ d ∷ e ∷ []) (0 ∷ []))
    ∙ last_none (first_number (a ∷ b ∷ c ∷ d ∷ e ∷ []))
    ∙ first_first (a ∷ b ∷ c ∷ d ∷ e ∷ []) []
    ∙ sym (first_first (a ∷ b ∷ []) (c ∷ d ∷ e ∷ []))
    ∙ sym (first_first (first_number (a ∷ b ∷ []) ∷ c ∷ d ∷ []) (e ∷ []))

module _ (g : Network) (P : List ℕ) (q k : ℕ) where
  same_number : (scratch answers : List ℕ) → route_call_number g P (q ∷ []) k scratch answers ≡ search_number g P q k scratch answers
  unfolding route_call_number nodes_number route_number bad_route breaks_from site_number query_number search_number
  same_number scratch answers =
      same_first (network_points_number g P) (node_number (node_count g) q) (k_number k) (short_number (length scratch) (scratch_words g k)) (short_number (length answers) (node_count g))

  -- ---- The outcome.

  -- refused, the list does not matter; accepted, it is the node's
  same_list_lem : (scratch answers : List ℕ) (number : ℕ) → number ≡ search_number g P q k scratch answers
      → list_outcome number (touched g P (q ∷ []) k) scratch answers ≡ list_outcome number (listed g P q k) scratch answers
  same_list_lem scratch answers number e =
      elim (ℕ_discrete number 0) [
        | no n ↦ sym (list_refused (touched g P (q ∷ []) k) scratch answers number refl n) ∙ list_refused (listed g P q k) scratch answers number refl n
        | yes z ↦
            let ok = (search_ready g P q k scratch answers (sym e ∙ z)).query.accepted in
            ap (λ (list : List ℕ). list_outcome number list scratch answers) ((one_search ok P k).one_node q)
      ]

  as_search : (scratch answers : List ℕ) → route_outcome g P (q ∷ []) k scratch answers ≡ lazy_outcome g P q k scratch answers
  unfolding route_outcome lazy_outcome
  as_search scratch answers =
      same_list_lem scratch answers (route_call_number g P (q ∷ []) k scratch answers) (same_number scratch answers)
      ∙ ap (λ (number : ℕ). list_outcome number (listed g P q k) scratch answers) (same_number scratch answers)

  -- ---- Beside eager: what a search that returns number 0 has listed.

  record Wrote (o : SearchOutcome) (old : List ℕ) : Type 0 where
    sized : (listed_listing o.answer).length ≡ length (listed g P q k)
    answers : o.answers ≡ answered (listed g P q k) old

  lazy_wrote : (scratch old : List ℕ) → (listed_listing (lazy_outcome g P q k scratch old).answer).number ≡ 0 → Wrote (lazy_outcome g P q k scratch old) old
  lazy_wrote scratch old h =
      elim (ℕ_discrete (search_number g P q k scratch old) 0) [
        | no n ↦ absurd (n (rw (← lazy_refused g P q k scratch old (search_number g P q k scratch old) refl n) at h))
        | yes z ↦ rw (← lazy_done g P q k scratch old z refl refl refl) (record { sized = refl; answers = refl })
      ]

  limited_wrote : (number limit : ℕ) (scratch old : List ℕ) → (listed_listing (limited_outcome number g P q k limit scratch old).answer).number ≡ 0
      → Wrote (limited_outcome number g P q k limit scratch old) old
  limited_wrote number limit scratch old h =
      elim (ℕ_discrete number 0) [
        | no n ↦ absurd (n (rw (← limited_refused g P q k limit scratch old number refl n) at h))
        | yes z ↦
            elim (dec_lt limit (expanded g P q k)) [
              | yes l ↦ absurd (omega (arith, rw (← limited_beyond g P q k limit scratch old z refl l refl) at h))
              | no l ↦ rw (← limited_done g P q k limit scratch old z refl (omega arith) refl refl refl) (record { sized = refl; answers = refl })
            ]
      ]

  as_eager : (limit : ℕ) (scratch eager-scratch answers visits : List ℕ)
      → ListAlike (route_outcome g P (q ∷ []) k scratch answers) (eager_outcome g P q k limit eager-scratch answers visits).search
  unfolding eager_outcome
  as_eager limit scratch eager-scratch answers visits a b =
      let l : Wrote (route_outcome g P (q ∷ []) k scratch answers) answers =
      rw (as_search scratch answers) (lazy_wrote scratch answers (rw (as_search scratch answers) at a)) in
      let e = limited_wrote (eager_number g P q k eager-scratch answers visits) limit eager-scratch answers b in
      (l.sized ∙ sym e.sized, l.answers ∙ sym e.answers)

pub one_node : (g : Network) (P : List ℕ) (q k : ℕ) → OneNode g P q k
one_node g P q k = record { as_search = as_search g P q k; as_eager = as_eager g P q k }
