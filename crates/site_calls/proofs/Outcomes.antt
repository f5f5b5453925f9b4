-- The outcomes of the calls: refused with its number, and accepted; and what the exported calls make of them.
-- Assumes nothing.
use Rattle.std.specs.Prelude.{Option, None, Some, Result, Ok, Err}
use Prim.Native.Nat.{ℕ, ◌≤◌, ◌<◌}
use mathlib.Core.Path.{◌≡◌, ap, ◌∙◌}
use mathlib.Core.Logic.{◌≢◌}
use mathlib.Core.Bool.{Bool}
use mathlib.Core.List.{List}
use lib.ListN.{length, replicate}
use borrow.Author.Tests.{eq-eqb, ne_eqb, lt-ltb, le-ltb}
use Rattle.network.specs.Network.{Network}
use Rattle.network.specs.Distance.{distances_from}
use Rattle.network.specs.Answers.{answered}
use Rattle.network.specs.Nearest.{nearest}
use Rattle.network.specs.Points.{verified, listed, expanded, short_k, exceeds_limit}
use Rattle.network.specs.Visits.{visits}
use Rattle.expansion.specs.Area.{Wiped}
use Rattle.searches.specs.declared.eager.LimitedList.{LimitedList}
use Rattle.searches.specs.Eager.{LimitedLeft, VisitsLeft}
use Rattle.conditions.specs.declared.answers.Listing.{Listing}
use Rattle.conditions.specs.declared.answers.Listed.{Listed}
use Rattle.site_calls.specs.Distances.{distances_outcome}
use Rattle.numbers.specs.Numbers.{distances_number, nearest_number, verify_number, search_number, limited_number, eager_number}
use Rattle.site_calls.specs.Nearest.{NearestOutcome, nearest_ids, nearest_distances, nearest_outcome}
use Rattle.site_calls.specs.Work.{limited_listed}
use Rattle.site_calls.specs.Verify.{VerifyOutcome, verify_outcome}
use Rattle.conditions.specs.Conditions.{limit_number}
use Rattle.numbers.proofs.Cleared.{all_zero}
use Rattle.site_calls.specs.Shared.{SearchOutcome, list_outcome, EntriesOutcome, entries_outcome}
use Rattle.conditions.specs.Values.{found_list, listed_listing}
use Rattle.site_calls.specs.Eager.{EagerOutcome, limited_outcome, visits_outcome, eager_outcome, short_outcome}
use Rattle.site_calls.specs.Lazy.{lazy_outcome}
use Rattle.site_calls.specs.Exported.{NearestExported, SearchExported, EagerExported}

-- a call that lists nodes, and one that writes entries
module _ (list scratch answers : List ℕ) where
  pub list_refused : {number : ℕ} (r : ℕ) → r ≡ number → r ≢ 0
      → ◌≡◌ {A = SearchOutcome} (record { answer = Err r; scratch = scratch; answers = answers }) (list_outcome number list scratch answers)
  unfolding list_outcome
  list_refused r e n = rw (← e, ne_eqb r 0 n)

  pub list_done : {number size : ℕ} {s a : List ℕ} → number ≡ 0 → s ≡ replicate (length scratch) 0 → size ≡ length list → a ≡ answered list answers
      → ◌≡◌ {A = SearchOutcome} (record { answer = Ok (found_list size 0); scratch = s; answers = a }) (list_outcome number list scratch answers)
  unfolding list_outcome
  list_done {number} e z m h = rw (eq-eqb number 0 e, z, m, h)

  pub entries_refused : {number : ℕ} (r : ℕ) → r ≡ number → r ≢ 0
      → ◌≡◌ {A = EntriesOutcome} (record { number = r; scratch = scratch; answers = answers }) (entries_outcome number list scratch answers)
  unfolding entries_outcome
  entries_refused r e n = rw (← e, ne_eqb r 0 n)

  pub entries_done : {number : ℕ} {s a : List ℕ} → number ≡ 0 → s ≡ replicate (length scratch) 0 → a ≡ answered list answers
      → ◌≡◌ {A = EntriesOutcome} (record { number = 0; scratch = s; answers = a }) (entries_outcome number list scratch answers)
  unfolding entries_outcome
  entries_done {number} e z h = rw (eq-eqb number 0 e, z, h)

module _ (g : Network) (node : ℕ) (scratch answers : List ℕ) where
  pub distances_refused : (number : ℕ) → number ≡ distances_number g node scratch answers → number ≢ 0
      → ◌≡◌ {A = EntriesOutcome} (record { number = number; scratch = scratch; answers = answers }) (distances_outcome g node scratch answers)
  unfolding distances_outcome
  distances_refused = entries_refused (distances_from g node) scratch answers

  pub distances_done : {s a : List ℕ} → distances_number g node scratch answers ≡ 0 → s ≡ replicate (length scratch) 0
      → a ≡ answered (distances_from g node) answers
      → ◌≡◌ {A = EntriesOutcome} (record { number = 0; scratch = s; answers = a }) (distances_outcome g node scratch answers)
  unfolding distances_outcome
  distances_done = entries_done (distances_from g node) scratch answers

module _ (g : Network) (P : List ℕ) (node e k : ℕ) (scratch ids distances : List ℕ) where
  pub nearest_refused : (number : ℕ) → number ≡ nearest_number g P node k scratch ids distances → number ≢ 0
      → ◌≡◌ {A = NearestOutcome} (record { answer = Err number; scratch = scratch; ids = ids; distances = distances })
      (nearest_outcome g P node e k scratch ids distances)
  unfolding nearest_outcome
  nearest_refused number q n = rw (← q, ne_eqb number 0 n)

  pub nearest_done : {s i d : List ℕ} {r : ℕ} → nearest_number g P node k scratch ids distances ≡ 0 → s ≡ replicate (length scratch) 0
      → r ≡ length (nearest g P node e k) → i ≡ answered (nearest_ids g P node e k) ids → d ≡ answered (nearest_distances g P node e k) distances
      → ◌≡◌ {A = NearestOutcome} (record { answer = Ok (found_list r 0); scratch = s; ids = i; distances = d })
      (nearest_outcome g P node e k scratch ids distances)
  unfolding nearest_outcome
  nearest_done q z m h l = rw (eq-eqb (nearest_number g P node k scratch ids distances) 0 q, z, m, h, l)

module _ (g : Network) (P : List ℕ) (p q k : ℕ) (scratch : List ℕ) where
  pub verify_refused : (number : ℕ) → number ≡ verify_number g P p q k scratch → number ≢ 0
      → ◌≡◌ {A = VerifyOutcome} (record { answer = Err number; scratch = scratch }) (verify_outcome g P p q k scratch)
  unfolding verify_outcome
  verify_refused number e n = rw (← e, ne_eqb number 0 n)

  pub verify_done : {s : List ℕ} {r : Bool} → verify_number g P p q k scratch ≡ 0 → s ≡ replicate (length scratch) 0 → r ≡ verified g P p q k
      → ◌≡◌ {A = VerifyOutcome} (record { answer = Ok r; scratch = s }) (verify_outcome g P p q k scratch)
  unfolding verify_outcome
  verify_done e z h = rw (eq-eqb (verify_number g P p q k scratch) 0 e, z, h)

-- the searches with a limit
module _ (g : Network) (P : List ℕ) (q k limit : ℕ) (scratch answers : List ℕ) where
  pub limited_refused : {number : ℕ} (r : ℕ) → r ≡ number → r ≢ 0
      → ◌≡◌ {A = SearchOutcome} (record { answer = Err r; scratch = scratch; answers = answers }) (limited_outcome number g P q k limit scratch answers)
  unfolding limited_outcome
  limited_refused r e n = rw (← e, ne_eqb r 0 n)

  pub limited_done : {number : ℕ} {s a : List ℕ} {size count : ℕ} → number ≡ 0 → s ≡ replicate (length scratch) 0
      → expanded g P q k ≤ limit → size ≡ length (listed g P q k) → count ≡ expanded g P q k → a ≡ answered (listed g P q k) answers
      → ◌≡◌ {A = SearchOutcome} (record { answer = Ok (found_list size count); scratch = s; answers = a }) (limited_outcome number g P q k limit scratch answers)
  unfolding limited_outcome limit_number exceeds_limit
  limited_done {number} e z l m n h = rw (eq-eqb number 0 e, le-ltb limit (expanded g P q k) l, z, m, n, h)

  pub limited_beyond : {number : ℕ} {s a : List ℕ} → number ≡ 0 → s ≡ replicate (length scratch) 0 → limit < expanded g P q k → a ≡ answers
      → ◌≡◌ {A = SearchOutcome} (record { answer = Err 12; scratch = s; answers = a }) (limited_outcome number g P q k limit scratch answers)
  unfolding limited_outcome limit_number exceeds_limit
  limited_beyond {number} e z l h = rw (eq-eqb number 0 e, lt-ltb limit (expanded g P q k) l, z, h)

  -- what the search leaves is the outcome of number 0, whatever its answer
  pub limited_outcome_lem : {number : ℕ} {xs s new : List ℕ} (a : Option LimitedList) → number ≡ 0 → LimitedLeft g P q k limit xs s answers new a
      → (Wiped xs s 0 → s ≡ replicate (length scratch) 0)
      → ◌≡◌ {A = SearchOutcome} (record { answer = limited_listed a; scratch = s; answers = new }) (limited_outcome number g P q k limit scratch answers)
  limited_outcome_lem None e h z = limited_beyond e (z h.area) h.beyond h.answers
  limited_outcome_lem (Some c) e h z = limited_done e (z h.area) h.within h.sized h.counted h.answers

-- the visits of eager
module _ (g : Network) (P : List ℕ) (q k limit : ℕ) (steps : List ℕ) where
  pub visits_refused : {number : ℕ} (r : ℕ) → r ≡ number → r ≢ 0 → steps ≡ visits_outcome number g P q k limit steps
  unfolding visits_outcome
  visits_refused r e n = rw (← e, ne_eqb r 0 n)

  pub visits_done : {number : ℕ} → number ≡ 0 → expanded g P q k ≤ limit → answered (visits g P q k) steps ≡ visits_outcome number g P q k limit steps
  unfolding visits_outcome limit_number exceeds_limit
  visits_done {number} e l = rw (eq-eqb number 0 e, le-ltb limit (expanded g P q k) l)

  visits_beyond : {number : ℕ} → number ≡ 0 → limit < expanded g P q k → steps ≡ visits_outcome number g P q k limit steps
  unfolding visits_outcome limit_number exceeds_limit
  visits_beyond {number} e l = rw (eq-eqb number 0 e, lt-ltb limit (expanded g P q k) l)

  pub visits_outcome_lem : {number : ℕ} (xs s old new left : List ℕ) (a : Option LimitedList) → number ≡ 0 → LimitedLeft g P q k limit xs s old new a
      → VisitsLeft g P q k steps left a → left ≡ visits_outcome number g P q k limit steps
  visits_outcome_lem xs s old new left None e h v = v ∙ visits_beyond e h.beyond
  visits_outcome_lem xs s old new left (Some c) e h v = v ∙ visits_done e h.within

-- both are eager's
module _ (g : Network) (P : List ℕ) (q k limit : ℕ) (scratch answers steps : List ℕ) where
  pub eager_refused : (number : ℕ) → number ≡ eager_number g P q k scratch answers steps → number ≢ 0
      → ◌≡◌ {A = EagerOutcome} (record { search = record { answer = Err number; scratch = scratch; answers = answers }; visits = steps })
      (eager_outcome g P q k limit scratch answers steps)
  unfolding eager_outcome
  eager_refused number e n =
      let a = limited_refused g P q k limit scratch answers number e n in
      let b = visits_refused g P q k limit steps number e n in
      λ i. record { search = a i; visits = b i }

  pub eager_left : (xs : List ℕ) {s new left : List ℕ} (a : Option LimitedList) → eager_number g P q k scratch answers steps ≡ 0 → length xs ≡ length scratch
      → LimitedLeft g P q k limit xs s answers new a → VisitsLeft g P q k steps left a
      → ◌≡◌ {A = EagerOutcome} (record { search = record { answer = limited_listed a; scratch = s; answers = new }; visits = left })
      (eager_outcome g P q k limit scratch answers steps)
  unfolding eager_outcome
  eager_left xs {s} {new} {left} a e l h v =
      let b = limited_outcome_lem g P q k limit scratch answers a e h (all_zero (length scratch) l) in
      let d = visits_outcome_lem g P q k limit steps xs s answers new left a e h v in
      λ i. record { search = b i; visits = d i }

-- the short query is the one of them
module _ (g : Network) (P : List ℕ) (q : ℕ) (scratch answers : List ℕ) where
  pub short_refused : (number : ℕ) → number ≡ limited_number g P q short_k scratch answers → number ≢ 0
      → ◌≡◌ {A = SearchOutcome} (record { answer = Err number; scratch = scratch; answers = answers }) (short_outcome g P q scratch answers)
  unfolding short_outcome
  short_refused = limited_refused g P q short_k 65535 scratch answers

  pub short_left : (xs : List ℕ) {s new : List ℕ} (a : Option LimitedList) → limited_number g P q short_k scratch answers ≡ 0 → length xs ≡ length scratch
      → LimitedLeft g P q short_k 65535 xs s answers new a
      → ◌≡◌ {A = SearchOutcome} (record { answer = limited_listed a; scratch = s; answers = new }) (short_outcome g P q scratch answers)
  unfolding short_outcome
  short_left xs a e l h = limited_outcome_lem g P q short_k 65535 scratch answers a e h (all_zero (length scratch) l)

module _ (g : Network) (P : List ℕ) (q k : ℕ) (scratch answers : List ℕ) where
  pub lazy_refused : (number : ℕ) → number ≡ search_number g P q k scratch answers → number ≢ 0
      → ◌≡◌ {A = SearchOutcome} (record { answer = Err number; scratch = scratch; answers = answers }) (lazy_outcome g P q k scratch answers)
  unfolding lazy_outcome
  lazy_refused = list_refused (listed g P q k) scratch answers

  pub lazy_done : {s a : List ℕ} {size : ℕ} → search_number g P q k scratch answers ≡ 0 → s ≡ replicate (length scratch) 0
      → size ≡ length (listed g P q k) → a ≡ answered (listed g P q k) answers
      → ◌≡◌ {A = SearchOutcome} (record { answer = Ok (found_list size 0); scratch = s; answers = a }) (lazy_outcome g P q k scratch answers)
  unfolding lazy_outcome
  lazy_done = list_done (listed g P q k) scratch answers

-- overlap.h's struct of an answer, and the arrays as it leaves them
pub nearest_exported : {o : NearestOutcome} {a : Result Listed ℕ} {s i d : List ℕ} {r : Listing} → r ≡ listed_listing a
    → ◌≡◌ {A = NearestOutcome} (record { answer = a; scratch = s; ids = i; distances = d }) o → NearestExported o r s i d
nearest_exported h e =
    record {
      answer = h ∙ ap (λ (x : NearestOutcome). listed_listing x.answer) e;
      scratch_left = ap (λ (x : NearestOutcome). x.scratch) e;
      ids_left = ap (λ (x : NearestOutcome). x.ids) e;
      distances_left = ap (λ (x : NearestOutcome). x.distances) e;
    }

pub search_exported : {o : SearchOutcome} {a : Result Listed ℕ} {s l : List ℕ} {r : Listing} → r ≡ listed_listing a
    → ◌≡◌ {A = SearchOutcome} (record { answer = a; scratch = s; answers = l }) o → SearchExported o r s l
search_exported h e =
    record {
      answer = h ∙ ap (λ (x : SearchOutcome). listed_listing x.answer) e;
      scratch_left = ap (λ (x : SearchOutcome). x.scratch) e;
      answers_left = ap (λ (x : SearchOutcome). x.answers) e;
    }

pub eager_exported : {o : EagerOutcome} {a : Result Listed ℕ} {s l v : List ℕ} {r : Listing} → r ≡ listed_listing a
    → ◌≡◌ {A = EagerOutcome} (record { search = record { answer = a; scratch = s; answers = l }; visits = v }) o → EagerExported o r s l v
eager_exported h e =
    record { search = search_exported h (ap (λ (x : EagerOutcome). x.search) e); visits_left = ap (λ (x : EagerOutcome). x.visits) e }

-- what an exported call of eager says of the search, and of the visits
module _ (g : Network) (P : List ℕ) (q k limit : ℕ) (scratch answers steps : List ℕ) {r : Listing} {s l v : List ℕ}
    (h : EagerExported (eager_outcome g P q k limit scratch answers steps) r s l v) where
  pub eager_search : SearchExported (limited_outcome (eager_number g P q k scratch answers steps) g P q k limit scratch answers) r s l
  unfolding eager_outcome
  eager_search = h.search

  pub eager_visits : v ≡ visits_outcome (eager_number g P q k scratch answers steps) g P q k limit steps
  unfolding eager_outcome
  eager_visits = h.visits_left
