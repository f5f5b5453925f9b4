-- The conditions of a list of nodes, as a loop tries them: 7 node by node; of 14, whether two nodes have a road, and then road by road.
-- Assumes nothing.
use Prim.Native.Nat.{ℕ, suc, ◌+◌, ◌-◌, ◌≤◌, ◌<◌}
use mathlib.Core.Path.{◌≡◌, refl, sym, ap, ◌∙◌}
use mathlib.Core.Bool.{Bool, true, false, false≢true}
use mathlib.Core.Logic.{◌≢◌}
use mathlib.Core.List.{List, [], ◌∷◌, map}
use native.Mathlib.Numerals.{add-one}
use native.Mathlib.Decide.{ℕ_discrete, dec_lt}
use native.Mathlib.Omega.{arith}
use lib.Dec.{eqb}
use lib.ListN.{length, get_or, drop, drop_of_length-le}
use lib.Seq.{drop-cons}
use Rattle.std.proofs.Common.{Result, Ok, Err, is_ok}
use Rattle.std.specs.Ordering.{nat_cmp}
use Rattle.std.specs.List.Sorted.{IsBinarySearchResult}
use Rattle.std.proofs.lemmas.List.{nil_from_length}
use Rattle.std.proofs.lemmas.List.Sorted.{searched}
use borrow.Author.Tests.{eq-eqb, ne_eqb}
use Rattle.network.specs.Network.{Network, network, node_count, neighbours_of}
use Rattle.network.specs.Accepted.{Accepted}
use Rattle.network.specs.Refusal.{number_of}
use Rattle.network.specs.declared.refusal.Refusal.{Refusal}
use Rattle.network.specs.Answers.{Ascending}
use Rattle.network.specs.Routes.{has_road, breaks_from, bad_route, on_route}
use Rattle.network.proofs.Routes.{on_place}
use Rattle.network.proofs.Tests.{alike, one_any, none_any, any_passes}
use Rattle.network.proofs.CheckTests.{rises, never_falls, halved}
use Rattle.network.proofs.NumberZero.{accepted_searchable}
use Rattle.conditions.specs.Conditions.{first_number, node_number, nodes_number}
use Rattle.conditions.specs.Roads.{RisingPart, RisingParts}
use Rattle.conditions.proofs.NotMet.{first_refused, first_none, first_skip}

-- 7 of the nodes from place i on
abbrev pub nodes_from : ℕ → List ℕ → ℕ → ℕ
nodes_from n R i = first_number (map (node_number n) (drop i R))

module _ (n : ℕ) (R : List ℕ) where
  pub nodes_start : nodes_from n R 0 ≡ nodes_number n R
  unfolding nodes_number
  nodes_start = refl

  module _ (i : ℕ) (so-far : nodes_from n R i ≡ nodes_number n R) where
    -- the node at i meets it; it does not; no node is left
    pub nodes_here : (r : Refusal) → i < length R → number_of r ≡ node_number n (get_or R i 0) → number_of r ≡ nodes_number n R
    nodes_here r h e = rw (drop-cons R i 0 h) (first_refused r (node_number n (get_or R i 0)) (map (node_number n) (drop (suc i) R)) e) ∙ so-far

    pub nodes_next : i < length R → 0 ≡ node_number n (get_or R i 0) → nodes_from n R (i + 1) ≡ nodes_number n R
    nodes_next h e =
        rw (add-one, drop-cons R i 0 h) (sym (first_skip (node_number n (get_or R i 0)) (map (node_number n) (drop (suc i) R)) (sym e))) ∙ so-far

    pub nodes_end : length R ≤ i → 0 ≡ nodes_number n R
    nodes_end h = rw (drop_of_length-le R h) first_none ∙ so-far

pub ruleset nodes_steps = (nodes_start, nodes_here, nodes_next, nodes_end)

-- b stands at its place among a's neighbours, what is before it is less and what is from it on is not, or nowhere
module _ (g : Network) (a b place : ℕ) (up : Ascending (neighbours_of g a))
    (less : (j : ℕ) → j < place → get_or (neighbours_of g a) j 0 < b)
    (rest : (j : ℕ) → place ≤ j → j < length (neighbours_of g a) → b ≤ get_or (neighbours_of g a) j 0) where
  other : (j : ℕ) → j < length (neighbours_of g a) → j ≢ place → eqb (get_or (neighbours_of g a) j 0) b ≡ false
  other j l n =
      ne_eqb (get_or (neighbours_of g a) j 0) b
      (λ e.
      elim (dec_lt j place) [
        | yes s ↦ omega (arith, less j s)
        | no s ↦ omega (arith, rises (neighbours_of g a) up place j (omega arith) l, rest place (omega arith) (omega arith))
      ])

  pub road_past : length (neighbours_of g a) ≤ place → false ≡ has_road g a b
  unfolding has_road
  road_past h =
      sym (none_any (λ j. eqb (get_or (neighbours_of g a) j 0) b) (length (neighbours_of g a)) (λ j l. other j l (omega arith)))

  pub road_told : place < length (neighbours_of g a) → eqb (get_or (neighbours_of g a) place 0) b ≡ has_road g a b
  unfolding has_road
  road_told h =
      alike (eqb (get_or (neighbours_of g a) place 0) b) (has_road g a b)
      (λ e. one_any (λ j. eqb (get_or (neighbours_of g a) j 0) b) (length (neighbours_of g a)) place h e)
      (λ e.
      let p = any_passes (λ j. eqb (get_or (neighbours_of g a) j 0) b) (length (neighbours_of g a)) e in
      elim (ℕ_discrete p.at place) [
        | yes q ↦ rw (← q) p.passes
        | no n ↦ absurd (false≢true (sym (other p.at p.low n) ∙ p.passes))
      ])

-- the same of the place that halving a's neighbours finds
pub road_halved : (g : Network) (a b : ℕ) (r : Result ℕ ℕ) → Ascending (neighbours_of g a) → IsBinarySearchResult (λ y. nat_cmp y b) (neighbours_of g a) r → is_ok r ≡ has_road g a b
unfolding has_road
road_halved g a b (Ok i) up h =
    let f = halved up h in
    let xs = neighbours_of g a in
    sym (eq-eqb (get_or xs i 0) b f.1)
    ∙ road_told g a b i up (λ j l. omega (arith, f.1, rises xs up j i l f.0))
    (λ j l m. elim (ℕ_discrete i j) [ yes e ↦ omega (arith, f.1, ap (λ (k : ℕ). get_or xs k 0) e) | no n ↦ omega (arith, f.1, rises xs up i j (omega arith) m) ])
    f.0
road_halved g a b (Err i) up h =
    let xs = neighbours_of g a in
    let s = searched xs b (Err i) h (never_falls up) in
    elim (dec_lt i (length xs)) [
      | yes l ↦ sym (ne_eqb (get_or xs i 0) b (λ e. omega (arith, s.2 i (omega arith) l))) ∙ road_told g a b i up s.1 (λ j m l. omega (arith, s.2 j m l)) l
      | no n ↦ road_past g a b i up s.1 (λ j m l. omega (arith, s.2 j m l)) (omega arith)
    ]

-- no road depends on a weight
pub road_weights : (starts neighbours v w : List ℕ) (a b : ℕ) → has_road (network starts neighbours v) a b ≡ has_road (network starts neighbours w) a b
unfolding has_road
road_weights starts neighbours v w a b = refl

pub breaks_weights : (starts neighbours v w : List ℕ) (a : ℕ) (R : List ℕ) → breaks_from (network starts neighbours v) a R ≡ breaks_from (network starts neighbours w) a R
unfolding breaks_from
breaks_weights starts neighbours v w a [] = refl
breaks_weights starts neighbours v w a (b ∷ bs) = rw (road_weights starts neighbours v w a b, breaks_weights starts neighbours v w b bs) refl

pub route_weights : (starts neighbours v w : List ℕ) (R : List ℕ) → bad_route (network starts neighbours v) R ≡ bad_route (network starts neighbours w) R
unfolding bad_route
route_weights starts neighbours v w [] = refl
route_weights starts neighbours v w (a ∷ rest) = breaks_weights starts neighbours v w a rest

-- each node of a list on an accepted network
pub accepted_along : {g : Network} → Accepted g → (R : List ℕ) → ((v : ℕ) → on_route R v ≡ true → v < node_count g) → RisingParts g.starts g.neighbours R
accepted_along ok R inside v e =
    let s = accepted_searchable ok in
    let h = inside v e in
    record { part = s.neighbours.part v (omega arith); up = s.ascending v (omega arith) }

-- of 14, the roads from the node before place i on
abbrev pub breaks_at : Network → List ℕ → ℕ → Bool
breaks_at g R i = breaks_from g (get_or R (i - 1) 0) (drop i R)

-- what each node of a list has, the one at a place has
pub rising_at : (starts neighbours R : List ℕ) → RisingParts starts neighbours R → (i : ℕ) → i < length R → RisingPart starts neighbours (get_or R i 0)
rising_at starts neighbours R h i l = h (get_or R i 0) (on_place R i l)

pub breaks_start : (g : Network) (R : List ℕ) → length R ≢ 0 → breaks_at g R 1 ≡ bad_route g R
unfolding bad_route
breaks_start g [] n = absurd (n refl)
breaks_start g (r ∷ rs) n = refl

module _ (g : Network) (R : List ℕ) where
  pub no_node : length R ≡ 0 → true ≡ bad_route g R
  unfolding bad_route
  no_node e = rw (nil_from_length R e)

  module _ (i : ℕ) (so-far : breaks_at g R i ≡ bad_route g R) where
    -- the road to the node at i is missing; it is there; no node is left
    pub breaks_here : i < length R → has_road g (get_or R (i - 1) 0) (get_or R i 0) ≡ false → true ≡ bad_route g R
    unfolding breaks_from
    breaks_here h e = sym (rw (drop-cons R i 0 h, e)) ∙ so-far

    pub breaks_next : i < length R → has_road g (get_or R (i - 1) 0) (get_or R i 0) ≡ true → breaks_at g R (i + 1) ≡ bad_route g R
    unfolding breaks_from
    breaks_next h e =
        let q : i + 1 - 1 ≡ i = omega arith in
        let step : breaks_at g R (i + 1) ≡ breaks_at g R i = rw (q, add-one, drop-cons R i 0 h, e) in
        step ∙ so-far

    pub breaks_end : length R ≤ i → false ≡ bad_route g R
    unfolding breaks_from
    breaks_end h = sym (rw (drop_of_length-le R h)) ∙ so-far

pub ruleset breaks_steps = (no_node, breaks_start, breaks_here, breaks_next, breaks_end)
