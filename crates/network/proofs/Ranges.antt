-- What numbers 1 to 3 leave where they are not met: the size of starts, the ranges of the arcs, the places of a node's arcs in its parts, and
-- that an arc between two nodes can be looked for.
-- Assumes nothing.
use Prim.Native.Nat.{ℕ, zero, suc, ◌+◌, ◌-◌, ◌≤◌, ◌<◌}
use mathlib.Core.Path.{◌≡◌, refl, sym, ap, ◌∙◌}
use mathlib.Core.Bool.{false, not, ◌||◌}
use mathlib.Core.Logic.{◌≢◌}
use mathlib.Core.List.{List}
use native.Mathlib.Numerals.{add-one}
use native.Mathlib.Decide.{dec_lt}
use native.Mathlib.Omega.{arith}
use lib.Dec.{eqb, leb, ltb}
use lib.ListN.{length, get_or}
use borrow.Author.Tests.{eqb-true, eqb-false, ltb-false, leb-false, not-false, eq-eqb, lt-ltb, le-ltb}
use Rattle.network.specs.Count.{any}
use Rattle.network.specs.Network.{Network, Arc, node_count, arc_count, start_of, neighbours_of, weights_of}
use Rattle.network.specs.Parts.{HasPart, Parts, Searchable}
use Rattle.network.specs.Answers.{Ascending}
use Rattle.network.specs.Check.{bad_size, falls_at, bad_starts, bad_neighbour_at, bad_part, bad_neighbours_of, bad_neighbours}
use Rattle.network.proofs.Tests.{or_parts, or_intro, any_none, none_any}
use Rattle.network.proofs.NodeArcs.{arc_source, part_length, part_at}

-- 1
pub record StartsFit (starts : List ℕ) : Type 0 where
  pub least : 2 ≤ length starts
  pub most : length starts ≤ 65536

pub sized : (starts : List ℕ) → bad_size starts ≡ false → StartsFit starts
unfolding bad_size
sized starts e =
    let r = or_parts (ltb (length starts) 2) _ e in
    record { least = ltb-false (length starts) 2 r.0; most = ltb-false 65536 (length starts) r.1 }

pub sized_passes : (starts : List ℕ) → StartsFit starts → bad_size starts ≡ false
unfolding bad_size
sized_passes starts s = or_intro (ltb (length starts) 2) _ (le-ltb (length starts) 2 s.least) (le-ltb 65536 (length starts) s.most)

-- 2
pub record Ranges (g : Network) : Type 0 where
  pub starts_zero : start_of g 0 ≡ 0
  pub rising : (a : ℕ) → a < node_count g → start_of g a ≤ start_of g (suc a)
  pub ends : start_of g (node_count g) ≡ arc_count g
  pub paired : length g.weights ≡ arc_count g
  pub few_arcs : arc_count g ≤ 524288

module _ (g : Network) where
  falls_at_lem : (a : ℕ) → falls_at g.starts a ≡ false → start_of g a ≤ start_of g (suc a)
  unfolding falls_at
  falls_at_lem a e = rw add-one at (ltb-false (get_or g.starts (a + 1) 0) (get_or g.starts a 0) e)

  rises_at : (a : ℕ) → start_of g a ≤ start_of g (suc a) → falls_at g.starts a ≡ false
  unfolding falls_at
  rises_at a h = rw add-one (le-ltb (get_or g.starts (suc a) 0) (get_or g.starts a 0) h)

  pub ranges : bad_starts g ≡ false → Ranges g
  unfolding bad_starts
  ranges e =
      let p = or_parts (not (eqb (start_of g 0) 0) || any (falls_at g.starts) (node_count g) || not (eqb (start_of g (node_count g)) (arc_count g)) || not (eqb (length g.weights) (length g.neighbours))) _ e in
      let q = or_parts (not (eqb (start_of g 0) 0) || any (falls_at g.starts) (node_count g) || not (eqb (start_of g (node_count g)) (arc_count g))) _ p.0 in
      let r = or_parts (not (eqb (start_of g 0) 0) || any (falls_at g.starts) (node_count g)) _ q.0 in
      let s = or_parts (not (eqb (start_of g 0) 0)) _ r.0 in
      record {
        starts_zero = eqb-true (start_of g 0) 0 (not-false _ s.0);
        rising = λ a h. falls_at_lem a (any_none (falls_at g.starts) (node_count g) a s.1 h);
        ends = eqb-true (start_of g (node_count g)) (arc_count g) (not-false _ r.1);
        paired = eqb-true (length g.weights) (length g.neighbours) (not-false _ q.1);
        few_arcs = ltb-false 524288 (arc_count g) p.1;
      }

  pub ranges_pass : Ranges g → bad_starts g ≡ false
  unfolding bad_starts
  ranges_pass r =
      rw (
        eq-eqb (start_of g 0) 0 r.starts_zero,
        none_any (falls_at g.starts) (node_count g) (λ a h. rises_at a (r.rising a h)),
        eq-eqb (start_of g (node_count g)) (arc_count g) r.ends,
        eq-eqb (length g.weights) (length g.neighbours) r.paired,
        le-ltb 524288 (arc_count g) r.few_arcs,
      )

-- an arc at a place of node a's parts
pub record Place (g : Network) (a b w : ℕ) : Type 0 where
  pub at : ℕ
  pub low : at < length (neighbours_of g a)
  pub leads : get_or (neighbours_of g a) at 0 ≡ b
  pub weighs : get_or (weights_of g a) at 0 ≡ w

-- the node that an arc belongs to
pub record Owner (g : Network) (e : ℕ) : Type 0 where
  pub node : ℕ
  pub inside : node < node_count g
  pub from : start_of g node ≤ e
  pub below : e < start_of g (suc node)

module _ {g : Network} (r : Ranges g) where
  -- no range passes the last arc
  below_end : (k a : ℕ) → a + k ≡ node_count g → start_of g a ≤ arc_count g
  below_end zero a h = let q : a ≡ node_count g = omega arith in omega (arith, r.ends, ap (start_of g) q)
  below_end (suc k) a h = omega (arith, r.rising a (omega arith), below_end k (suc a) (omega arith))

  pub start_most : (a : ℕ) → a ≤ node_count g → start_of g a ≤ arc_count g
  start_most a h = below_end (node_count g - a) a (omega arith)

  has_part : (entries : List ℕ) → length entries ≡ arc_count g → (i : ℕ) → i + 1 < length g.starts → HasPart g.starts entries i
  has_part entries e i h =
      let q = ap (start_of g) (add-one i) in
      record { node = h; ordered = omega (arith, r.rising i (omega arith)); within = omega (arith, start_most (suc i) (omega arith)) }

  module _ (some : 1 ≤ length g.starts) where
    pub neighbour_parts : Parts g.starts g.neighbours
    neighbour_parts = record { some = some; part = has_part g.neighbours refl }

    pub weight_parts : Parts g.starts g.weights
    weight_parts = record { some = some; part = has_part g.weights r.paired }

  -- place j of node a holds arc starts[a] + j
  module _ (a : ℕ) (h : a < node_count g) where
    pub neighbours_length : length (neighbours_of g a) ≡ start_of g (suc a) - start_of g a
    neighbours_length =
        let q = ap (start_of g) (add-one a) in
        omega (arith, part_length (has_part g.neighbours refl a (omega arith)))

    module _ (j : ℕ) (l : j < length (neighbours_of g a)) where
      inside : j < get_or g.starts (a + 1) 0 - get_or g.starts a 0
      inside = omega (arith, neighbours_length, ap (start_of g) (add-one a))

      pub neighbour_at : get_or (neighbours_of g a) j 0 ≡ get_or g.neighbours (start_of g a + j) 0
      neighbour_at = part_at g.starts g.neighbours a j inside

      pub weight_at : get_or (weights_of g a) j 0 ≡ get_or g.weights (start_of g a + j) 0
      weight_at = part_at g.starts g.weights a j inside

      pub arc_at : Arc g a (get_or (neighbours_of g a) j 0) (get_or (weights_of g a) j 0)
      arc_at =
          record {
            index = start_of g a + j;
            from = omega arith;
            below = omega (arith, neighbours_length);
            leads = sym neighbour_at;
            weighs = sym weight_at;
          }

  pub arc_place : {a b w : ℕ} → Arc g a b w → Place g a b w
  arc_place {a} x =
      let h = arc_source x in
      let j = x.index - start_of g a in
      let l : j < length (neighbours_of g a) = omega (arith, neighbours_length a h, x.from, x.below) in
      let q : start_of g a + j ≡ x.index = omega (arith, x.from) in
      record {
        at = j;
        low = l;
        leads = neighbour_at a h j l ∙ ap (λ v. get_or g.neighbours v 0) q ∙ x.leads;
        weighs = weight_at a h j l ∙ ap (λ v. get_or g.weights v 0) q ∙ x.weighs;
      }

  pub place_arc : {a b w : ℕ} → a < node_count g → Place g a b w → Arc g a b w
  place_arc {a} h p = rw (p.leads, p.weighs) at (arc_at a h p.at p.low)

  -- each arc has its node
  owner_below : (n : ℕ) → n ≤ node_count g → (e : ℕ) → e < start_of g n → Owner g e
  owner_below zero h e l = absurd (omega (arith, r.starts_zero))
  owner_below (suc n) h e l =
      elim (dec_lt e (start_of g n)) [
        | yes s ↦ owner_below n (omega arith) e s
        | no s ↦ record { node = n; inside = h; from = omega arith; below = l }
      ]

  pub owner : (e : ℕ) → e < arc_count g → Owner g e
  owner e l = owner_below (node_count g) (omega arith) e (omega (arith, r.ends))

-- 3
pub record GoodNeighbour (n a : ℕ) (xs : List ℕ) (j : ℕ) : Type 0 where
  pub inside : get_or xs j 0 < n
  pub other : get_or xs j 0 ≢ a
  pub above : 0 < j → get_or xs (j - 1) 0 < get_or xs j 0

good_neighbour : (n a j : ℕ) (xs : List ℕ) → bad_neighbour_at n a xs j ≡ false → GoodNeighbour n a xs j
unfolding bad_neighbour_at
good_neighbour n a j xs e =
    let p = or_parts (leb n (get_or xs j 0) || eqb (get_or xs j 0) a) _ e in
    let q = or_parts (leb n (get_or xs j 0)) _ p.0 in
    record {
      inside = leb-false n (get_or xs j 0) q.0;
      other = eqb-false (get_or xs j 0) a q.1;
      above = λ h. leb-false (get_or xs j 0) (get_or xs (j - 1) 0) (rw (lt-ltb 0 j h) at p.1);
    }

pub good_neighbours : (g : Network) → bad_neighbours g.starts g.neighbours ≡ false
    → (a : ℕ) → a < node_count g → (j : ℕ) → j < length (neighbours_of g a) → GoodNeighbour (node_count g) a (neighbours_of g a) j
unfolding bad_neighbours bad_neighbours_of bad_part
good_neighbours g e a h j l =
    good_neighbour (node_count g) a j (neighbours_of g a)
    (any_none (bad_neighbour_at (node_count g) a (neighbours_of g a)) (length (neighbours_of g a)) j (any_none (bad_neighbours_of g.starts g.neighbours) (node_count g) a e h) l)

pub good_ascending : (n a : ℕ) (xs : List ℕ) → ((j : ℕ) → j < length xs → GoodNeighbour n a xs j) → Ascending xs
good_ascending n a xs h =
    record { next = λ j l. let q : suc j - 1 ≡ j = omega arith in rw q at ((h (suc j) l).above (omega arith)) }

pub searchable : {g : Network} → 1 ≤ length g.starts → Ranges g → bad_neighbours g.starts g.neighbours ≡ false → Searchable g
searchable {g} some r e =
    record {
      neighbours = neighbour_parts r some;
      weights = weight_parts r some;
      inside = λ a j h l. omega (arith, (good_neighbours g e a (omega arith) j l).inside);
      ascending = λ a h. good_ascending (node_count g) a (neighbours_of g a) (λ j l. good_neighbours g e a (omega arith) j l);
    }
