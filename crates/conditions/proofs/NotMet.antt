-- The numbers of the conditions: the first of several, and a number 0: the condition is not met.
-- Assumes nothing.
use Prim.Native.Nat.{ℕ, ◌*◌, ◌≤◌, ◌<◌}
use mathlib.Core.Path.{◌≡◌, refl, sym, ap, ◌∙◌}
use mathlib.Core.Bool.{Bool, true, false, cond, not, ◌||◌, false≢true}
use mathlib.Core.List.{List, [], ◌∷◌, ◌++◌, map}
use mathlib.Core.Logic.{◌≢◌, ⊎_elim}
use native.Mathlib.Decide.{ℕ_discrete}
use native.Mathlib.Omega.{arith}
use lib.Dec.{eqb, leb, ltb}
use lib.ListN.{length}
use borrow.Author.Tests.{eq-eqb, ne_eqb, eqb-true, eqb-false, leb-false, ltb-false, not-false}
use Rattle.network.specs.Count.{any}
use Rattle.network.specs.Routes.{on_route}
use Rattle.network.specs.Refusal.{number_of}
use Rattle.network.specs.declared.refusal.Refusal.{Refusal}
use Rattle.network.specs.declared.refusal.Refusal.TheVariants.{Size, Starts, Neighbours, Weights, Returns, Points, Node, Table, Nearest, Short, Lockers, Limit, Route}
use Rattle.network.proofs.Tests.{or_parts, or_cases}
use Rattle.conditions.specs.Conditions.{first_number, bad_byte_at, points_number, node_number, nodes_number, table_number, k_number, table_k_number, short_number}

-- the clauses of `first_number`: the first number is not 0; it is
pub first_is : (x : ℕ) (xs : List ℕ) (r : ℕ) → r ≡ x → r ≢ 0 → r ≡ first_number (x ∷ xs)
unfolding first_number
first_is x xs r e n = e ∙ rw (ne_eqb x 0 (λ z. n (e ∙ z)))

pub first_later : (x : ℕ) (xs : List ℕ) (r y : ℕ) → r ≡ x → r ≡ 0 → y ≡ first_number xs → y ≡ first_number (x ∷ xs)
unfolding first_number
first_later x xs r y e z h = h ∙ rw (eq-eqb x 0 (sym e ∙ z))

pub first_none : 0 ≡ first_number []
unfolding first_number
first_none = refl

pub first_last : (x r : ℕ) → r ≡ x → r ≡ first_number (x ∷ [])
first_last x r e =
    elim (ℕ_discrete r 0) [
      | yes z ↦ first_later x [] r r e z (z ∙ first_none)
      | no n ↦ first_is x [] r e n
    ]

-- a condition met is a refusal, whose number is not 0
pub number_some : (r : Refusal) → 1 ≤ number_of r
number_some Size = omega arith
number_some Starts = omega arith
number_some Neighbours = omega arith
number_some Weights = omega arith
number_some Returns = omega arith
number_some Points = omega arith
number_some Node = omega arith
number_some Table = omega arith
number_some Nearest = omega arith
number_some Short = omega arith
number_some Lockers = omega arith
number_some Limit = omega arith
number_some Route = omega arith

-- the first condition is met; it is not; the last one alone is left
pub first_refused : (r : Refusal) (x : ℕ) (xs : List ℕ) → number_of r ≡ x → number_of r ≡ first_number (x ∷ xs)
first_refused r x xs e = first_is x xs (number_of r) e (λ z. omega (arith, number_some r))

pub first_passed : {y : ℕ} (x : ℕ) (xs : List ℕ) → 0 ≡ x → y ≡ first_number xs → y ≡ first_number (x ∷ xs)
first_passed {y} x xs e h = first_later x xs 0 y e refl h

pub ruleset first_met = (first_refused, first_passed, first_last)

-- a number of 0 is passed over; the first number of several stands for them
pub first_skip : (x : ℕ) (xs : List ℕ) → x ≡ 0 → first_number (x ∷ xs) ≡ first_number xs
first_skip x xs e = sym (first_later x xs x (first_number xs) refl e refl)

pub first_first : (xs ys : List ℕ) → first_number (first_number xs ∷ ys) ≡ first_number (xs ++ ys)
first_first [] ys = first_skip (first_number []) ys (sym first_none)
first_first (x ∷ xs) ys =
    elim (ℕ_discrete x 0) [
      | yes e ↦
          ap (λ (z : ℕ). first_number (z ∷ ys)) (first_skip x xs e) ∙ first_first xs ys ∙ sym (first_skip x (xs ++ ys) e)
      | no n ↦ sym (first_is (first_number (x ∷ xs)) ys x (first_is x xs x refl n) n) ∙ first_is x (xs ++ ys) x refl n
    ]

-- a first number of 0: every number is 0
pub first_zero : (x : ℕ) (xs : List ℕ) → first_number (x ∷ xs) ≡ 0 → (x ≡ 0) × (first_number xs ≡ 0)
unfolding first_number
first_zero x xs e =
    elim (ℕ_discrete x 0) [
      | yes q ↦ (q, rw (eq-eqb x 0 q) at e)
      | no n ↦ absurd (n (rw (ne_eqb x 0 n) at e))
    ]

-- a condition's number of 0: its test did not pass
pub number_none : (b : Bool) (number : ℕ) → number ≢ 0 → cond b number 0 ≡ 0 → b ≡ false
number_none true number n e = absurd (n e)
number_none false number n e = refl

pub points_ready : (n : ℕ) (P : List ℕ) → points_number n P ≡ 0 → length P ≡ n
unfolding points_number
points_ready n P e =
    let r = or_parts (not (eqb (length P) n)) _ (number_none (not (eqb (length P) n) || any (bad_byte_at P) (length P)) 6 (omega arith) e) in
    eqb-true (length P) n (not-false (eqb (length P) n) r.0)

pub node_ready : (n v : ℕ) → node_number n v ≡ 0 → v < n
unfolding node_number
node_ready n v e = leb-false n v (number_none (leb n v) 7 (omega arith) e)

pub nodes_ready : (n : ℕ) (R : List ℕ) → nodes_number n R ≡ 0 → (v : ℕ) → on_route R v ≡ true → v < n
unfolding nodes_number on_route
nodes_ready n [] e v h = absurd (false≢true h)
nodes_ready n (r ∷ rs) e v h =
    let a = first_zero (node_number n r) (map (node_number n) rs) e in
    ⊎_elim
    (λ q. let x = eqb-true v r q in omega (arith, node_ready n r a.0))
    (λ q. nodes_ready n rs a.1 v q)
    (or_cases (eqb v r) (on_route rs v) h)

pub k_ready : (k : ℕ) → k_number k ≡ 0 → (1 ≤ k) × (k ≤ 16)
unfolding k_number
k_ready k e =
    let r = or_parts (eqb k 0) _ (number_none (eqb k 0 || ltb 16 k) 9 (omega arith) e) in
    let n = eqb-false k 0 r.0 in
    (omega arith, ltb-false 16 k r.1)

pub table_ready : (n K id-count distance-count : ℕ) → table_number n K id-count distance-count ≡ 0 → (2 ≤ K) × (K ≤ 17) × (id-count ≡ n * K) × (distance-count ≡ n * K)
unfolding table_number
table_ready n K id-count distance-count e =
    let t = number_none (ltb K 2 || ltb 17 K || not (eqb id-count (n * K)) || not (eqb distance-count (n * K))) 8 (omega arith) e in
    let a = or_parts (ltb K 2 || ltb 17 K || not (eqb id-count (n * K))) _ t in
    let b = or_parts (ltb K 2 || ltb 17 K) _ a.0 in
    let c = or_parts (ltb K 2) _ b.0 in (
      ltb-false K 2 c.0,
      ltb-false 17 K c.1,
      eqb-true id-count (n * K) (not-false (eqb id-count (n * K)) b.1),
      eqb-true distance-count (n * K) (not-false (eqb distance-count (n * K)) a.1),
    )

pub short_ready : (have need : ℕ) → short_number have need ≡ 0 → need ≤ have
unfolding short_number
short_ready have need e = ltb-false have need (number_none (ltb have need) 10 (omega arith) e)

pub table_k_ready : (k K : ℕ) → table_k_number k K ≡ 0 → (1 ≤ k) × (k < K)
unfolding table_k_number
table_k_ready k K e =
    let r = or_parts (eqb k 0) _ (number_none (eqb k 0 || leb K k) 9 (omega arith) e) in
    let n = eqb-false k 0 r.0 in
    (omega arith, leb-false K k r.1)
