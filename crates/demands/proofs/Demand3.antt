-- Demand 3, by induction on the list of calls: the marks are the book's, and both arrays are the table of those marks; so every call's number and
-- changed count are the book's, and the searches that are lent this give one list. And eager's steps are the same for every caller.
-- Assumes nothing.
use Prim.Native.Nat.{ℕ, ◌+◌, ◌-◌, ◌*◌, ◌≤◌, ◌<◌}
use mathlib.Core.Path.{◌≡◌, refl, sym, ap, ◌∙◌}
use mathlib.Core.Bool.{false, not, ◌||◌}
use mathlib.Core.Logic.{◌≢◌, ⊎_elim}
use mathlib.Core.List.{List, [], ◌∷◌}
use native.Mathlib.Decide.{ℕ_discrete, dec_lt}
use native.Mathlib.Nat.{mul-le-mul_left}
use native.Mathlib.Omega.{arith}
use lib.Dec.{eqb}
use lib.ListN.{length, get_or, set, take, drop, length-set, replicate}
use lib.Seq.{get_or-set_same, get_or-set_other, take-append_seam}
use borrow.Author.Tests.{eq-eqb, ne_eqb, lt-leb, le-ltb, ltb-false}
use Rattle.network.specs.Count.{any}
use Rattle.network.specs.Network.{Network, node_count}
use Rattle.network.specs.Accepted.{Accepted}
use Rattle.network.specs.Check.{network_number}
use Rattle.network.specs.Points.{lockers, expanded, short_k}
use Rattle.network.specs.Visits.{visits}
use Rattle.network.specs.Answers.{answered}
use Rattle.network.specs.Rows.{rows_changed, Sized, IsTable}
use Rattle.network.proofs.Tests.{or_parts, any_none, none_any}
use Rattle.network.proofs.NumberZero.{number_zero}
use Rattle.network.proofs.Visits.{visits_count}
use Rattle.rows.proofs.Laid.{table_sizes}
use Rattle.network.specs.Scratch.{eager_words, scratch_words}
use Rattle.searches.proofs.Expanded.{expanded_most}
use Rattle.conditions.specs.declared.answers.Update.{Update}
use Rattle.conditions.specs.declared.answers.Listing.{Listing}
use Rattle.conditions.specs.declared.kind.Kind.{Kind}
use Rattle.conditions.specs.declared.kind.Kind.TheVariants.{Insert, Remove}
use Rattle.conditions.specs.Conditions.{first_number, bad_byte_at, points_number, node_number, k_number, table_number, table_k_number, short_number, kind_number}
use Rattle.numbers.specs.Numbers.{network_points_number, site_number, query_number, table_check_number, table_node_number, build_number, table_query_number, search_number, limited_number, eager_number, change_number}
use Rattle.site_calls.specs.Eager.{limited_outcome, short_outcome}
use Rattle.site_calls.specs.Exported.{SearchExported}
use Rattle.table_calls.specs.Build.{BuildOutcome, build_outcome}
use Rattle.table_calls.specs.Updated.{kind_marks, Arrays, ChangeExported}
use Rattle.demands.specs.Book.{Call, book_number, book_call, book_answers, book_marks}
use Rattle.demands.specs.Demand3.{OursAfter, Run, ends, call, foreign, Quotes, Agree, EagerCall, SameSteps, demand_3}
use Rattle.numbers.proofs.Ready.{kind_ready, eager_ready}
use Rattle.conditions.proofs.NotMet.{first_skip, first_first, first_none, first_zero, number_none, points_ready, node_ready, table_ready}
use Rattle.site_calls.proofs.Outcomes.{limited_done, visits_done, eager_search, eager_visits, lazy_done}
use Rattle.table_calls.proofs.Outcomes.{build_done, change_refused, change_accepted, query_accepted}
use Rattle.demands.proofs.Said.{eager_said}

-- 6 is not met of marks, nor of marks with one more or one fewer
bytes : (n : ℕ) (P : List ℕ) → points_number n P ≡ 0 → (i : ℕ) → i < length P → get_or P i 0 ≤ 15
unfolding points_number bad_byte_at
bytes n P e i h =
    let r = or_parts (not (eqb (length P) n)) _ (number_none (not (eqb (length P) n) || any (bad_byte_at P) (length P)) 6 (omega arith) e) in
    ltb-false 15 (get_or P i 0) (any_none (bad_byte_at P) (length P) i r.1 h)

marks_kept : (n : ℕ) (P : List ℕ) (x v : ℕ) → v ≤ 15 → x < n → points_number n P ≡ 0 → points_number n (set P x v) ≡ 0
unfolding points_number bad_byte_at
marks_kept n P x v low h e =
    rw (eq-eqb (length (set P x v)) n (simp length-set (points_ready n P e)), none_any (bad_byte_at (set P x v)) (length (set P x v)) fine)
  where
    fine : (i : ℕ) → i < length (set P x v) → bad_byte_at (set P x v) i ≡ false
    fine i l =
        let m : i < length P = simp length-set at l in
        elim (ℕ_discrete i x) [
          | yes q ↦ le-ltb 15 (get_or (set P x v) i 0) (rw q (omega (arith, get_or-set_same P x v 0 (omega (arith, points_ready n P e)))))
          | no q ↦ le-ltb 15 (get_or (set P x v) i 0) (omega (arith, get_or-set_other P x i v 0 q, bytes n P e i m))
        ]

kind_kept : (kind : Kind) (n : ℕ) (P : List ℕ) (x : ℕ) → x < n → kind_number kind P x ≡ 0 → points_number n P ≡ 0 → points_number n (kind_marks kind P x) ≡ 0
kind_kept Insert n P x h m e = marks_kept n P x (lockers P x + 1) (omega (arith, kind_ready Insert P x m)) h e
kind_kept Remove n P x h m e = marks_kept n P x (lockers P x - 1) (omega (arith, bytes n P e x (omega (arith, points_ready n P e)))) h e

-- between two calls: 6 is not met of the marks, and the arrays are their table
record Standing (g : Network) (K : ℕ) (P ids distances : List ℕ) : Type 0 where
  points : points_number (node_count g) P ≡ 0
  table : IsTable g P K ids distances

-- the book's clauses
book_done : (g : Network) (K : ℕ) (P : List ℕ) (c : Call) (r : Update) (Q : List ℕ) → book_number g K P c ≡ 0 → r.number ≡ 0
    → r.changed ≡ rows_changed g P (kind_marks c.kind P c.node) K → Q ≡ kind_marks c.kind P c.node
    → book_call g K P c ≡ record { answer = r; marks = Q }
unfolding book_call
book_done g K P c r Q e z h m =
    rw (eq-eqb (book_number g K P c) 0 e) (λ i. record { answer = record { number = sym z i; changed = sym h i }; marks = sym m i })

book_refused : (g : Network) (K : ℕ) (P : List ℕ) (c : Call) → book_number g K P c ≢ 0
    → book_call g K P c ≡ record { answer = record { number = book_number g K P c; changed = 0 }; marks = P }
unfolding book_call
book_refused g K P c n = rw (ne_eqb (book_number g K P c) 0 n)

same_places : (n K L : ℕ) → 1 ≤ n → n * K ≡ n * L → L ≡ K
same_places n K L h e =
    elim (dec_lt K L) [
      | yes l ↦ absurd (omega (arith, mul-le-mul_left n l))
      | no a ↦ elim (dec_lt L K) [ yes l ↦ absurd (omega (arith, mul-le-mul_left n l)) | no b ↦ omega arith ]
    ]

after_call : (ours lent left after : List ℕ) → left ≡ lent → OursAfter ours lent left after → after ≡ ours
after_call ours lent left after e a = ⊎_elim (λ h. h.1 ∙ e ∙ h.0) (λ h. h) a

-- a call that returns a number has written nothing
refused_same : (kind : Kind) (g : Network) (node K : ℕ) (old new : Arrays) (r : Update) → ChangeExported kind g node K old new r → r.number ≢ 0 → new ≡ old
refused_same kind g node K old new r h n =
    elim (ℕ_discrete (change_number kind g old.points node K old.scratch old.ids old.distances) 0) [
      | yes z ↦ absurd (n (change_accepted h z).0)
      | no m ↦ (change_refused h m).1
    ]

module _ (g : Network) (net : network_number g ≡ 0) (K : ℕ) where
  ok : Accepted g
  ok = (number_zero g).0 net

  -- no condition of 1 to 6 is met
  points_zero : {P ids distances : List ℕ} → Standing g K P ids distances → network_points_number g P ≡ 0
  unfolding network_points_number
  points_zero {P} s = first_skip (network_number g) _ net ∙ first_skip (points_number (node_count g) P) [] s.points ∙ sym first_none

  -- a call's number by its contract is the book's
  module _ {P ids distances : List ℕ} (s : Standing g K P ids distances) (scratch : List ℕ) where
    site_is : (node : ℕ) → site_number g P node ≡ first_number (node_number (node_count g) node ∷ [])
    unfolding site_number
    site_is node = first_skip (network_points_number g P) _ (points_zero s)

    node_skips : (node L : ℕ) → table_node_number g P node L ids distances
        ≡ first_number (node_number (node_count g) node ∷ table_number (node_count g) L (node_count g * K) (node_count g * K) ∷ [])
    unfolding table_node_number
    node_skips node L =
        let z = table_sizes P K ids distances s.table in
        rw (z.all_ids, z.all_dists)
        (ap (λ (x : ℕ). first_number (x ∷ table_number (node_count g) L (node_count g * K) (node_count g * K) ∷ [])) (site_is node)
        ∙ first_first (node_number (node_count g) node ∷ []) (table_number (node_count g) L (node_count g * K) (node_count g * K) ∷ []))

    number_is : (c : Call) → length scratch ≡ c.scratch_length → change_number c.kind g P c.node c.places scratch ids distances ≡ book_number g K P c
    unfolding change_number book_number
    number_is c l =
        rw (← l)
        (ap (λ (z : ℕ). first_number (z ∷ short_number (length scratch) (scratch_words g c.places) ∷ kind_number c.kind P c.node ∷ [])) (node_skips c.node c.places)
        ∙ first_first _ _)

  -- a call does what the book does
  record Turned (P : List ℕ) (c : Call) (r : Update) (new : Arrays) : Type 0 where
    page : book_call g K P c ≡ record { answer = r; marks = new.points }
    standing : Standing g K new.points new.ids new.distances

  turned : {P ids distances : List ℕ} (s : Standing g K P ids distances) (c : Call) (r : Update) (scratch : List ℕ) (new : Arrays)
      → length scratch ≡ c.scratch_length
      → ChangeExported c.kind g c.node c.places (record { points = P; scratch = scratch; ids = ids; distances = distances }) new r
      → Turned P c r new
  unfolding book_number
  turned {P} {ids} {distances} s c r scratch new l h =
      let e = number_is s scratch c l in
      elim (ℕ_discrete (book_number g K P c) 0) [
        | yes z ↦
            let a = first_zero (node_number (node_count g) c.node) _ z in
            let b = first_zero (table_number (node_count g) c.places (node_count g * K) (node_count g * K)) _ a.1 in
            let m = first_zero (short_number c.scratch_length (scratch_words g c.places)) _ b.1 in
            let y = first_zero (kind_number c.kind P c.node) [] m.1 in
            let t = table_ready (node_count g) c.places (node_count g * K) (node_count g * K) b.0 in
            let q = same_places (node_count g) K c.places ok.some t.2 in
            let x = node_ready (node_count g) c.node a.0 in
            let d = change_accepted h (e ∙ z) in
            let u = rw q at d.1 in
            record {
              page = book_done g K P c r new.points z d.0 (u.counted s.table) u.marks;
              standing = rw u.marks (record { points = kind_kept c.kind (node_count g) P c.node x y.0 s.points; table = u.table s.table });
            }
        | no n ↦
            let d = change_refused h (λ z. n (sym e ∙ z)) in
            record {
              page = book_refused g K P c n ∙ (λ i. record { answer = (ap (λ (m : ℕ). record { number = m; changed = 0 }) (sym e) ∙ sym d.0) i; marks = sym (ap (λ (y : Arrays). y.points) d.1) i });
              standing = rw d.1 s;
            }
      ]

  -- a list of calls
  record Followed (P : List ℕ) (cs : List Call) (rs : List Update) (P' ids' distances' : List ℕ) : Type 0 where
    answers : rs ≡ book_answers g K P cs
    marks : P' ≡ book_marks g K P cs
    standing : Standing g K P' ids' distances'

  followed : {P ids distances : List ℕ} {cs : List Call} {rs : List Update} {P' ids' distances' : List ℕ} → Standing g K P ids distances
      → Run g P ids distances cs rs P' ids' distances' → Followed P cs rs P' ids' distances'
  unfolding book_answers book_marks
  followed s ends = record { answers = refl; marks = refl; standing = s }
  followed s (call {c = c} {r = r} scratch new l h rest) =
      let t = turned s c r scratch new l h in
      let f = followed t.standing rest in
      record { answers = rw t.page (ap (λ (z : List Update). r ∷ z) f.answers); marks = rw t.page f.marks; standing = f.standing }
  followed s (foreign kind other node L old new r h n p i d rest) =
      let e = refused_same kind other node L old new r h n in
      let a = after_call _ _ _ _ (ap (λ (y : Arrays). y.points) e) p in
      let b = after_call _ _ _ _ (ap (λ (y : Arrays). y.ids) e) i in
      let c = after_call _ _ _ _ (ap (λ (y : Arrays). y.distances) e) d in
      let f = followed (rw (a, b, c) s) rest in
      record { answers = rw (← a) f.answers; marks = rw (← a) f.marks; standing = f.standing }

  -- the searches that are lent what the list left
  module _ {P ids distances : List ℕ} (s : Standing g K P ids distances) (most : K ≤ 17) (q k : ℕ) (site : q < node_count g) (some : 1 ≤ k) (few : k ≤ 16)
      (scratch old : List ℕ) (places : node_count g ≤ length old) where
    node_zero : node_number (node_count g) q ≡ 0
    unfolding node_number
    node_zero = rw (lt-leb (node_count g) q site)

    k_zero : k_number k ≡ 0
    unfolding k_number
    k_zero = rw (ne_eqb k 0 (omega arith), le-ltb 16 k (omega arith))

    table_k_zero : k < K → table_k_number k K ≡ 0
    unfolding table_k_number
    table_k_zero fewer = rw (ne_eqb k 0 (omega arith), lt-leb K k fewer)

    table_zero : 2 ≤ K → table_number (node_count g) K (length ids) (length distances) ≡ 0
    unfolding table_number
    table_zero least =
        let z = table_sizes P K ids distances s.table in
        rw (le-ltb K 2 least, le-ltb 17 K most, eq-eqb (length ids) (node_count g * K) z.all_ids, eq-eqb (length distances) (node_count g * K) z.all_dists)

    scratch_zero : (m : ℕ) → m ≤ length scratch → short_number (length scratch) m ≡ 0
    unfolding short_number
    scratch_zero m room = rw (le-ltb (length scratch) m room)

    answers_zero : short_number (length old) (node_count g) ≡ 0
    unfolding short_number
    answers_zero = rw (le-ltb (length old) (node_count g) places)

    site_zero : site_number g P q ≡ 0
    unfolding site_number
    site_zero = first_skip (network_points_number g P) _ (points_zero s) ∙ first_skip (node_number (node_count g) q) [] node_zero ∙ sym first_none

    search_zero : scratch_words g k ≤ length scratch → search_number g P q k scratch old ≡ 0
    unfolding search_number query_number
    search_zero room =
        first_skip (query_number g P q k scratch) _
        (first_skip (site_number g P q) _ site_zero ∙ first_skip (k_number k) _ k_zero ∙ first_skip (short_number (length scratch) (scratch_words g k)) [] (scratch_zero (scratch_words g k) room) ∙ sym first_none)
        ∙ first_skip (short_number (length old) (node_count g)) [] answers_zero ∙ sym first_none

    query_zero : scratch_words g k ≤ length scratch → 2 ≤ K → k < K → table_query_number g P q k K ids distances scratch old ≡ 0
    unfolding table_query_number table_node_number
    query_zero room least fewer =
        first_skip (table_node_number g P q K ids distances) _
        (first_skip (site_number g P q) _ site_zero ∙ first_skip (table_number (node_count g) K (length ids) (length distances)) [] (table_zero least) ∙ sym first_none)
        ∙ first_skip (table_k_number k K) _ (table_k_zero fewer) ∙ first_skip (short_number (length scratch) (scratch_words g k)) _ (scratch_zero (scratch_words g k) room)
        ∙ first_skip (short_number (length old) (node_count g)) [] answers_zero ∙ sym first_none

    limited_zero : eager_words g ≤ length scratch → limited_number g P q k scratch old ≡ 0
    unfolding limited_number
    limited_zero room =
        first_skip (site_number g P q) _ site_zero ∙ first_skip (k_number k) _ k_zero
        ∙ first_skip (short_number (length scratch) (eager_words g)) _ (scratch_zero (eager_words g) room)
        ∙ first_skip (short_number (length old) (node_count g)) [] answers_zero ∙ sym first_none

    eager_zero : eager_words g ≤ length scratch → (steps : List ℕ) → node_count g ≤ length steps → eager_number g P q k scratch old steps ≡ 0
    unfolding eager_number short_number
    eager_zero room steps h =
        first_skip (limited_number g P q k scratch old) _ (limited_zero room)
        ∙ first_skip (short_number (length steps) (node_count g)) [] (rw (le-ltb (length steps) (node_count g) h)) ∙ sym first_none

    -- an accepted search with a limit
    quoted : {number limit : ℕ} → number ≡ 0 → expanded g P q k ≤ limit → {scratch' new : List ℕ} {r : Listing}
        → SearchExported (limited_outcome number g P q k limit scratch old) r scratch' new → Quotes g P q k old new r × (r.count ≡ expanded g P q k)
    quoted {limit = limit} zero within h =
        let x = rw (← limited_done g P q k limit scratch old zero refl within refl refl refl) at h in (
          record {
            number = ap (λ (l : Listing). l.number) x.answer;
            sized = ap (λ (l : Listing). l.length) x.answer;
            answers = x.answers_left;
          },
          ap (λ (l : Listing). l.count) x.answer,
        )

    agreed : 2 ≤ K → (scratch' new : List ℕ) (r : Listing) → Agree g P K ids distances q k scratch old scratch' new r
    agreed least scratch' new r =
        record {
          eager =
              λ room limit within steps steps' fits h.
              let zero = eager_zero room steps fits in
              let x = quoted zero within (eager_search g P q k limit scratch old steps h) in
              (x.0, x.1, eager_visits g P q k limit scratch old steps h ∙ sym (visits_done g P q k limit steps zero within));
          lazy =
              λ room h.
              let x = rw (← lazy_done g P q k scratch old (search_zero room) refl refl refl) at h in
              record {
                number = ap (λ (l : Listing). l.number) x.answer;
                sized = ap (λ (l : Listing). l.length) x.answer;
                answers = x.answers_left;
              };
          by_table =
              λ room fewer h.
              let d = query_accepted h (query_zero room least fewer) in
              record { number = d.0; sized = d.2.sized s.table; answers = d.2.list s.table };
        }

  -- build, lent what the list left
  built_zero : {P ids distances : List ℕ} → Standing g K P ids distances → 2 ≤ K → K ≤ 17 → (scratch a b : List ℕ) → scratch_words g K ≤ length scratch
      → Sized g K a b → build_number g P K scratch a b ≡ 0
  unfolding build_number table_check_number table_number short_number
  built_zero {P} s least most scratch a b room z =
      first_skip (table_check_number g P K a b) _
      (first_skip (network_points_number g P) _ (points_zero s)
      ∙ first_skip (table_number (node_count g) K (length a) (length b)) []
      (rw (le-ltb K 2 least, le-ltb 17 K most, eq-eqb (length a) (node_count g * K) z.all_ids, eq-eqb (length b) (node_count g * K) z.all_dists))
      ∙ sym first_none)
      ∙ first_skip (short_number (length scratch) (scratch_words g K)) [] (rw (le-ltb (length scratch) (scratch_words g K) room)) ∙ sym first_none

  rebuilt : {P ids distances : List ℕ} → Standing g K P ids distances → 2 ≤ K → K ≤ 17 → (scratch a b : List ℕ) → scratch_words g K ≤ length scratch
      → Sized g K a b
      → ◌≡◌ {A = BuildOutcome} (build_outcome g P K scratch a b) (record { number = 0; scratch = replicate (length scratch) 0; ids = ids; distances = distances })
  rebuilt {P} s least most scratch a b room z = sym (build_done g P K scratch a b (built_zero s least most scratch a b room z) refl s.table)

-- Ask 4: what an accepted call of eager counts and lists is the definition's, so two of them take the same steps
steps_are : (g : Network) (P : List ℕ) (q k : ℕ) (r : Listing) (left : List ℕ) → EagerCall g P q k r left
    → (r.count ≡ expanded g P q k) × (take r.count left ≡ visits g P q k)
unfolding answered
steps_are g P q k r left h =
    let s = eager_said g P q k h.scratch h.old h.accepted h.limit h.steps h.exported in
    let e = visits_count (eager_ready g P q k h.scratch h.old h.steps s.0.zero).0.accepted P q k in
    (s.0.count, rw (s.1, s.0.count, ← e) (take-append_seam (visits g P q k) (drop (length (visits g P q k)) h.steps)))

pub same_steps : (g : Network) (P : List ℕ) → SameSteps g P
same_steps g P q k a b visits-a visits-b x y =
    let s = steps_are g P q k a visits-a x in
    let t = steps_are g P q k b visits-b y in
    (s.0 ∙ sym t.0, s.1 ∙ sym t.1)

-- what an accepted build leaves
built : (g : Network) (P : List ℕ) (K : ℕ) (scratch ids distances : List ℕ) → build_number g P K scratch ids distances ≡ 0
    → IsTable g P K (build_outcome g P K scratch ids distances).ids (build_outcome g P K scratch ids distances).distances
unfolding build_outcome
built g P K scratch ids distances e =
    rw (eq-eqb (build_number g P K scratch ids distances) 0 e) (record { same_ids = refl; same_dists = refl })

pub demand : demand_3
unfolding build_number table_check_number network_points_number short_outcome
demand g P₀ K scratch ids distances e calls answers P ids' distances' run =
    let a = (first_zero (table_check_number g P₀ K ids distances) _ e).0 in
    let d = first_zero (network_points_number g P₀) _ a in
    let b = first_zero (network_number g) _ d.0 in
    let c = first_zero (points_number (node_count g) P₀) [] b.1 in
    let h = first_zero (table_number (node_count g) K (length ids) (length distances)) [] d.1 in
    let t = table_ready (node_count g) K (length ids) (length distances) h.0 in
    let f = followed g b.0 K (record { points = c.0; table = built g P₀ K scratch ids distances e }) run in
    record {
      answered_so = f.answers;
      marks = f.marks;
      table_ids_lem = f.standing.table.same_ids;
      table_distances_lem = f.standing.table.same_dists;
      agree = λ q k site some few s old s' new r places. agreed g b.0 K f.standing t.1 q k site some few s old places t.0 s' new r;
      short =
          λ q site s old s' new r room places.
          quoted g b.0 K f.standing t.1 q short_k site (omega arith) (omega arith) s old places
          (limited_zero g b.0 K f.standing t.1 q short_k site (omega arith) (omega arith) s old places room)
          (expanded_most ((number_zero g).0 b.0) P q short_k);
      steps = same_steps g P;
      afresh = rebuilt g b.0 K f.standing t.0 t.1;
    }
