-- The network check's number is 0 exactly if the network is accepted.
-- Assumes nothing.
use Prim.Native.Nat.{ℕ, zero, suc, ◌+◌, ◌-◌, ◌≤◌, ◌<◌}
use mathlib.Core.Path.{◌≡◌, refl, ap}
use mathlib.Core.Bool.{Bool, true, false, cond, not}
use mathlib.Core.Logic.{◌↔◌, ◌⊎◌, inl, inr}
use native.Mathlib.Omega.{arith}
use lib.Dec.{eqb}
use lib.ListN.{length, get_or}
use borrow.Author.Tests.{eqb-true, eqb-false, ltb-false, not-false, eq-eqb}
use Rattle.network.specs.Count.{any}
use Rattle.network.specs.Network.{Network, Arc, node_count, start_of, target, weight_of, neighbours_of, weights_of}
use Rattle.network.specs.Accepted.{Accepted}
use Rattle.network.specs.Parts.{HasPart, Searchable}
use Rattle.network.specs.Check.{bad_size, bad_starts, bad_neighbour_at, bad_part, bad_neighbours_of, bad_neighbours, bad_weight_at, bad_weights, is_arc_at, has_arc, lacks_return_at, lacks_return_of, lacks_return, network_number}
use Rattle.network.proofs.Tests.{and_parts, and_intro, or_parts, any_none, none_any, one_any, any_passes}
use Rattle.network.proofs.NodeArcs.{arc_source}
use Rattle.network.proofs.CheckTests.{neighbour_good, weight_good}
use Rattle.network.proofs.Ranges.{sized, sized_passes, Ranges, ranges, ranges_pass, Place, arc_place, place_arc, arc_at, neighbour_at, neighbours_length, owner, start_most, GoodNeighbour, good_neighbours, good_ascending, searchable}

-- no condition is met
pub record NoneMet (g : Network) : Type 0 where
  pub size : bad_size g.starts ≡ false
  pub starts : bad_starts g ≡ false
  pub neighbours : bad_neighbours g.starts g.neighbours ≡ false
  pub weights : bad_weights g.weights ≡ false
  pub return_arcs : lacks_return g ≡ false

-- the first of five conditions, and 0 where none is met
first_of_five : (a b c d e : Bool) → ◌≡◌ {A = ℕ} (cond a 1 (cond b 2 (cond c 3 (cond d 4 (cond e 5 0))))) 0
    → (a ≡ false) × (b ≡ false) × (c ≡ false) × (d ≡ false) × (e ≡ false)
first_of_five true b c d e h = absurd (omega arith)
first_of_five false true c d e h = absurd (omega arith)
first_of_five false false true d e h = absurd (omega arith)
first_of_five false false false true e h = absurd (omega arith)
first_of_five false false false false true h = absurd (omega arith)
first_of_five false false false false false h = (refl, refl, refl, refl, refl)

module _ (g : Network) where
  pub zero_none_met : network_number g ≡ 0 → NoneMet g
  unfolding network_number
  zero_none_met h =
      let r = first_of_five (bad_size g.starts) (bad_starts g) (bad_neighbours g.starts g.neighbours) (bad_weights g.weights) (lacks_return g) h in
      record { size = r.0; starts = r.1; neighbours = r.2; weights = r.3; return_arcs = r.4 }

  pub none_met_zero : NoneMet g → network_number g ≡ 0
  unfolding network_number
  none_met_zero m = rw (m.size, m.starts, m.neighbours, m.weights, m.return_arcs)

-- From the tests to the network.
module _ {g : Network} (m : NoneMet g) where
  r : Ranges g
  r = ranges g m.starts

  good : {a b w : ℕ} → (x : Arc g a b w) → GoodNeighbour (node_count g) a (neighbours_of g a) (arc_place r x).at
  good {a} x = good_neighbours g m.neighbours a (arc_source x) (arc_place r x).at (arc_place r x).low

  sorted : (a e : ℕ) → start_of g a ≤ e → suc e < start_of g (suc a) → target g e < target g (suc e)
  sorted a e h l =
      let x : Arc g a (target g e) (weight_of g e) = record { index = e; from = h; below = omega arith; leads = refl; weighs = refl } in
      let n = arc_source x in
      let j = e - start_of g a in
      let k = neighbours_length r a n in
      let p : start_of g a + j ≡ e = omega arith in
      let q : start_of g a + suc j ≡ suc e = omega arith in
      rw (neighbour_at r a n j (omega arith), neighbour_at r a n (suc j) (omega arith), p, q) at
      ((good_ascending (node_count g) a (neighbours_of g a) (λ i s. good_neighbours g m.neighbours a n i s)).next j (omega arith))

  weights_good : (e : ℕ) → e < length g.weights → (1 ≤ weight_of g e) × (weight_of g e ≤ 65535)
  unfolding bad_weights bad_weight_at
  weights_good e h =
      let q = or_parts (eqb (get_or g.weights e 0) 0) _ (any_none (bad_weight_at g.weights) (length g.weights) e m.weights h) in
      let z = eqb-false (get_or g.weights e 0) 0 q.0 in
      (omega arith, ltb-false 65535 (get_or g.weights e 0) q.1)

  weight_good_at : {a b w : ℕ} → Arc g a b w → (1 ≤ w) × (w ≤ 65535)
  weight_good_at {a} x =
      rw x.weighs at (weights_good x.index (omega (arith, x.below, start_most r (suc a) (arc_source x), r.paired)))

  return_at : {a b w : ℕ} → Arc g a b w → Arc g b a w
  unfolding lacks_return lacks_return_of lacks_return_at has_arc is_arc_at
  return_at {a} {b} {w} x =
      let p = arc_place r x in
      let n = arc_source x in
      let t = any_none (lacks_return_at g a) (length (neighbours_of g a)) p.at (any_none (lacks_return_of g) (node_count g) a m.return_arcs n) p.low in
      let s = any_passes (is_arc_at g b a w) (length (neighbours_of g b)) (rw (p.leads, p.weighs) at (not-false (has_arc g (get_or (neighbours_of g a) p.at 0) a (get_or (weights_of g a) p.at 0)) t)) in
      let u = and_parts (eqb (get_or (neighbours_of g b) s.at 0) a) _ s.passes in
      place_arc r (rw p.leads at (good x).inside)
      (record { at = s.at; low = s.low; leads = eqb-true _ _ u.0; weighs = eqb-true _ _ u.1 })

  pub none_met_accepted : Accepted g
  none_met_accepted =
      let s = sized g.starts m.size in
      record {
        some = omega (arith, s.least);
        few = omega (arith, s.most);
        starts_zero = r.starts_zero;
        rising = r.rising;
        ends = r.ends;
        paired = r.paired;
        few_arcs = r.few_arcs;
        leads_in = λ x. rw (arc_place r x).leads at (good x).inside;
        no_loop = λ x. rw (arc_place r x).leads at (good x).other;
        sorted = sorted;
        weight_low = λ x. (weight_good_at x).0;
        weight_high = λ x. (weight_good_at x).1;
        returns = return_at;
      }

-- From the network to the tests.
module _ {g : Network} (ok : Accepted g) where
  pub accepted_ranges : Ranges g
  accepted_ranges =
      record { starts_zero = ok.starts_zero; rising = ok.rising; ends = ok.ends; paired = ok.paired; few_arcs = ok.few_arcs }

  neighbours_pass : bad_neighbours g.starts g.neighbours ≡ false
  unfolding bad_neighbours bad_neighbours_of bad_part
  neighbours_pass =
      none_any (bad_neighbours_of g.starts g.neighbours) (node_count g)
      (λ a h. none_any (bad_neighbour_at (node_count g) a (neighbours_of g a)) (length (neighbours_of g a)) (λ j l. passes a h j l (arc_at accepted_ranges a h j l)))
    where
      above : (a : ℕ) → a < node_count g → (j : ℕ) → j < length (neighbours_of g a) → (j ≤ 0) ⊎ (get_or (neighbours_of g a) (j - 1) 0 < get_or (neighbours_of g a) j 0)
      above a h zero l = inl (omega arith)
      above a h (suc j) l =
          let k = neighbours_length accepted_ranges a h in
          let q : suc j - 1 ≡ j = omega arith in
          let p : start_of g a + suc j ≡ suc (start_of g a + j) = omega arith in
          inr (rw (q, neighbour_at accepted_ranges a h j (omega arith), neighbour_at accepted_ranges a h (suc j) l, p) (ok.sorted a (start_of g a + j) (omega arith) (omega arith)))

      passes : (a : ℕ) → a < node_count g → (j : ℕ) → j < length (neighbours_of g a) → Arc g a (get_or (neighbours_of g a) j 0) (get_or (weights_of g a) j 0) → bad_neighbour_at (node_count g) a (neighbours_of g a) j ≡ false
      passes a h j l x = neighbour_good (node_count g) a (neighbours_of g a) j (ok.leads_in x) (ok.no_loop x) (above a h j l)

  weights_pass : bad_weights g.weights ≡ false
  unfolding bad_weights
  weights_pass = none_any (bad_weight_at g.weights) (length g.weights) passes
    where
      passes : (e : ℕ) → e < length g.weights → bad_weight_at g.weights e ≡ false
      passes e h =
          let o = owner accepted_ranges e (omega (arith, ok.paired)) in
          let x : Arc g o.node (target g e) (weight_of g e) = record { index = e; from = o.from; below = o.below; leads = refl; weighs = refl } in
          let low = ok.weight_low x in
          weight_good g.weights e (omega arith) (ok.weight_high x)

  returns_pass : lacks_return g ≡ false
  unfolding lacks_return lacks_return_of lacks_return_at has_arc is_arc_at
  returns_pass =
      none_any (lacks_return_of g) (node_count g)
      (λ a h. none_any (lacks_return_at g a) (length (neighbours_of g a)) (λ j l. passes a j (arc_place accepted_ranges (ok.returns (arc_at accepted_ranges a h j l)))))
    where
      passes : (a j : ℕ) → Place g (get_or (neighbours_of g a) j 0) a (get_or (weights_of g a) j 0)
          → not (any (is_arc_at g (get_or (neighbours_of g a) j 0) a (get_or (weights_of g a) j 0)) (length (neighbours_of g (get_or (neighbours_of g a) j 0)))) ≡ false
      passes a j p =
          ap not
          (one_any (is_arc_at g (get_or (neighbours_of g a) j 0) a (get_or (weights_of g a) j 0)) (length (neighbours_of g (get_or (neighbours_of g a) j 0))) p.at p.low
          (and_intro (eqb (get_or (neighbours_of g (get_or (neighbours_of g a) j 0)) p.at 0) a) _ (eq-eqb _ _ p.leads) (eq-eqb _ _ p.weighs)))

  pub accepted_none_met : NoneMet g
  accepted_none_met =
      record {
        size = sized_passes g.starts (record { least = omega (arith, ok.some); most = omega (arith, ok.few) });
        starts = ranges_pass g accepted_ranges;
        neighbours = neighbours_pass;
        weights = weights_pass;
        return_arcs = returns_pass;
      }

pub number_zero : (g : Network) → (network_number g ≡ 0) ↔ Accepted g
number_zero g = (λ e. none_met_accepted (zero_none_met g e), λ ok. none_met_zero g (accepted_none_met ok))

-- an accepted network has a part of each array for each node, and its arcs can be looked for
pub accepted_searchable : {g : Network} → Accepted g → Searchable g
accepted_searchable ok = searchable (omega (arith, ok.some)) (accepted_ranges ok) (accepted_none_met ok).neighbours

-- one node's part of each: what `neighbours_of` and `weights_of` require
pub node_parts : {g : Network} {i : ℕ} → Accepted g → i < node_count g → HasPart g.starts g.neighbours i × HasPart g.starts g.weights i
node_parts {g} {i} ok h =
    let p = accepted_searchable ok in
    let l : i + 1 < length g.starts = omega arith in
    (p.neighbours.part i l, p.weights.part i l)
