-- The tests of the network check at one place, from what the code compares there.
-- Assumes nothing.
use Prim.Native.Nat.{ℕ, zero, suc, ◌+◌, ◌-◌, ◌≤◌, ◌<◌}
use mathlib.Core.Path.{◌≡◌, sym, ap}
use mathlib.Core.Bool.{true, false, ◌||◌}
use mathlib.Core.Logic.{◌≢◌, ◌⊎◌, inl, inr, ⊎_elim}
use mathlib.Core.List.{List}
use native.Mathlib.Decide.{ℕ_discrete, dec_lt}
use native.Mathlib.Omega.{arith}
use lib.Dec.{eqb, leb, ltb}
use lib.ListN.{length, get_or}
use Rattle.std.proofs.Common.{Ok, Err}
use Rattle.std.specs.Ordering.{nat_cmp}
use Rattle.std.specs.List.Sorted.{IsBinarySearchResult}
use Rattle.std.proofs.lemmas.List.Sorted.{searched}
use borrow.Author.Tests.{eq-eqb, ne_eqb, lt-ltb, le-ltb, le-leb, lt-leb}
use Rattle.network.specs.Network.{Network, neighbours_of, weights_of}
use Rattle.network.specs.Answers.{Ascending}
use Rattle.network.specs.Check.{bad_neighbour_at, bad_weight_at, is_arc_at, has_arc}
use Rattle.network.specs.Count.{any}
use Rattle.network.proofs.Tests.{and_intro, and_left, and_right, or_left, or_right, or_intro, none_any, any_start, any_more, found}

-- 3, at place j of node a's neighbours
module _ (n a : ℕ) (xs : List ℕ) (j : ℕ) where
  pub neighbour_high : n ≤ get_or xs j 0 → bad_neighbour_at n a xs j ≡ true
  unfolding bad_neighbour_at
  neighbour_high h = rw (le-leb n (get_or xs j 0) h)

  pub neighbour_own : get_or xs j 0 ≡ a → bad_neighbour_at n a xs j ≡ true
  unfolding bad_neighbour_at
  neighbour_own e = or_left (leb n (get_or xs j 0) || eqb (get_or xs j 0) a) _ (or_right (leb n (get_or xs j 0)) _ (eq-eqb (get_or xs j 0) a e))

  pub neighbour_falls : 0 < j → get_or xs j 0 ≤ get_or xs (j - 1) 0 → bad_neighbour_at n a xs j ≡ true
  unfolding bad_neighbour_at
  neighbour_falls h l =
      or_right (leb n (get_or xs j 0) || eqb (get_or xs j 0) a) _
      (and_intro (ltb 0 j) _ (lt-ltb 0 j h) (le-leb (get_or xs j 0) (get_or xs (j - 1) 0) l))

  pub neighbour_good : get_or xs j 0 < n → get_or xs j 0 ≢ a → (j ≤ 0) ⊎ (get_or xs (j - 1) 0 < get_or xs j 0) → bad_neighbour_at n a xs j ≡ false
  unfolding bad_neighbour_at
  neighbour_good h e r =
      or_intro (leb n (get_or xs j 0) || eqb (get_or xs j 0) a) _
      (or_intro (leb n (get_or xs j 0)) _ (lt-leb n (get_or xs j 0) h) (ne_eqb (get_or xs j 0) a e))
      (⊎_elim
      (λ z. and_left (ltb 0 j) _ (le-ltb 0 j z))
      (λ l. and_right (ltb 0 j) _ (lt-leb (get_or xs j 0) (get_or xs (j - 1) 0) l))
      r)

-- and of the neighbours before place j, as the check comes to it
pub no_neighbour : (n a : ℕ) (xs : List ℕ) → any (bad_neighbour_at n a xs) 0 ≡ false
no_neighbour n a xs = any_start (bad_neighbour_at n a xs)

module _ (n a : ℕ) (xs : List ℕ) (j : ℕ) where
  pub neighbour_high_found : j < length xs → n ≤ get_or xs j 0 → true ≡ any (bad_neighbour_at n a xs) (length xs)
  neighbour_high_found l h = found _ _ _ l (neighbour_high n a xs j h)

  pub neighbour_own_found : j < length xs → get_or xs j 0 ≡ a → true ≡ any (bad_neighbour_at n a xs) (length xs)
  neighbour_own_found l e = found _ _ _ l (neighbour_own n a xs j e)

  pub neighbour_falls_found : j < length xs → 0 < j → get_or xs j 0 ≤ get_or xs (j - 1) 0 → true ≡ any (bad_neighbour_at n a xs) (length xs)
  neighbour_falls_found l h e = found _ _ _ l (neighbour_falls n a xs j h e)

  pub neighbour_first_passed : any (bad_neighbour_at n a xs) j ≡ false → get_or xs j 0 < n → get_or xs j 0 ≢ a → j ≤ 0 → any (bad_neighbour_at n a xs) (j + 1) ≡ false
  neighbour_first_passed f h e z = any_more _ _ f (neighbour_good n a xs j h e (inl z))

  pub neighbour_passed : any (bad_neighbour_at n a xs) j ≡ false → get_or xs j 0 < n → get_or xs j 0 ≢ a → get_or xs (j - 1) 0 < get_or xs j 0 → any (bad_neighbour_at n a xs) (j + 1) ≡ false
  neighbour_passed f h e z = any_more _ _ f (neighbour_good n a xs j h e (inr z))

-- 4, at arc e
module _ (xs : List ℕ) (e : ℕ) where
  pub weight_none : get_or xs e 0 ≡ 0 → bad_weight_at xs e ≡ true
  unfolding bad_weight_at
  weight_none h = rw (eq-eqb (get_or xs e 0) 0 h)

  pub weight_high : 65535 < get_or xs e 0 → bad_weight_at xs e ≡ true
  unfolding bad_weight_at
  weight_high h = or_right (eqb (get_or xs e 0) 0) _ (lt-ltb 65535 (get_or xs e 0) h)

  pub weight_good : get_or xs e 0 ≢ 0 → get_or xs e 0 ≤ 65535 → bad_weight_at xs e ≡ false
  unfolding bad_weight_at
  weight_good h l = or_intro (eqb (get_or xs e 0) 0) _ (ne_eqb (get_or xs e 0) 0 h) (le-ltb 65535 (get_or xs e 0) l)

-- and of the weights before e, as the check comes to it
pub no_weight : (W : List ℕ) → any (bad_weight_at W) 0 ≡ false
no_weight W = any_start (bad_weight_at W)

module _ (W : List ℕ) (e : ℕ) where
  pub weight_none_found : e < length W → get_or W e 0 ≡ 0 → true ≡ any (bad_weight_at W) (length W)
  weight_none_found l h = found _ _ _ l (weight_none W e h)

  pub weight_high_found : e < length W → 65535 < get_or W e 0 → true ≡ any (bad_weight_at W) (length W)
  weight_high_found l h = found _ _ _ l (weight_high W e h)

  pub weight_passed : any (bad_weight_at W) e ≡ false → get_or W e 0 ≢ 0 → get_or W e 0 ≤ 65535 → any (bad_weight_at W) (e + 1) ≡ false
  weight_passed f h l = any_more _ _ f (weight_good W e h l)

-- a rising list holds x at its lower bound or nowhere
pub rises : (xs : List ℕ) → Ascending xs → (i j : ℕ) → i < j → j < length xs → get_or xs i 0 < get_or xs j 0
rises xs up i zero h l = elim h [ ]
rises xs up i (suc j) h l =
    elim (ℕ_discrete i j) [
      | yes e ↦ rw (← e) (up.next i (omega arith))
      | no n ↦ omega (arith, rises xs up i j (omega arith) (omega arith), up.next j l)
    ]

pub never_falls : {xs : List ℕ} → Ascending xs → (i j : ℕ) → i ≤ j → j < length xs → get_or xs i 0 ≤ get_or xs j 0
never_falls {xs} up i j h l = elim (ℕ_discrete i j) [ yes e ↦ omega (arith, ap (λ (k : ℕ). get_or xs k 0) e) | no n ↦ omega (arith, rises xs up i j (omega arith) l) ]

-- what halving a rising list finds is x; where it finds none, x stands nowhere
module _ {xs : List ℕ} {x i : ℕ} (up : Ascending xs) where
  pub halved : IsBinarySearchResult (λ y. nat_cmp y x) xs (Ok i) → (i < length xs) × (get_or xs i 0 ≡ x)
  halved h = searched xs x (Ok i) h (never_falls up)

  pub halved_none : IsBinarySearchResult (λ y. nat_cmp y x) xs (Err i) → (k : ℕ) → k < length xs → get_or xs k 0 ≢ x
  halved_none h k l e =
      let s = searched xs x (Err i) h (never_falls up) in
      elim (dec_lt k i) [ yes b ↦ omega (arith, s.1 k b) | no n ↦ omega (arith, s.2 k (omega arith) l) ]

-- what stands elsewhere than at x's place is not x
pub elsewhere : {xs : List ℕ} {x place : ℕ} → Ascending xs → place < length xs → get_or xs place 0 ≡ x → (i : ℕ) → i < length xs → i ≢ place → get_or xs i 0 ≢ x
elsewhere {xs} {place} up h p i l n e =
    elim (dec_lt i place) [
      | yes s ↦ omega (arith, rises xs up i place s h)
      | no s ↦ omega (arith, rises xs up place i (omega arith) l)
    ]

-- 5: whether b has an arc to a of weight w
module _ (g : Network) (b a w : ℕ) where
  -- no neighbour is a
  pub arc_nowhere : ((i : ℕ) → i < length (neighbours_of g b) → get_or (neighbours_of g b) i 0 ≢ a) → has_arc g b a w ≡ false
  unfolding has_arc is_arc_at
  arc_nowhere h =
      none_any (is_arc_at g b a w) (length (neighbours_of g b))
      (λ i l. and_left (eqb (get_or (neighbours_of g b) i 0) a) _ (ne_eqb (get_or (neighbours_of g b) i 0) a (h i l)))

  -- the arc to a stands at its place alone, so its weight decides
  pub arc_there : (place : ℕ) → Ascending (neighbours_of g b) → place < length (neighbours_of g b) → get_or (neighbours_of g b) place 0 ≡ a → eqb (get_or (weights_of g b) place 0) w ≡ has_arc g b a w
  unfolding has_arc is_arc_at
  arc_there place up h e =
      elim (ℕ_discrete (get_or (weights_of g b) place 0) w) [
        | yes f ↦
            rw (eq-eqb (get_or (weights_of g b) place 0) w f)
            (found (is_arc_at g b a w) (length (neighbours_of g b)) place h
            (and_intro (eqb (get_or (neighbours_of g b) place 0) a) _ (eq-eqb (get_or (neighbours_of g b) place 0) a e) (eq-eqb (get_or (weights_of g b) place 0) w f)))
        | no n ↦
            rw (ne_eqb (get_or (weights_of g b) place 0) w n)
            (sym
            (none_any (is_arc_at g b a w) (length (neighbours_of g b))
            (λ i l.
            elim (ℕ_discrete i place) [
              | yes q ↦ and_right (eqb (get_or (neighbours_of g b) i 0) a) _ (rw q (ne_eqb (get_or (weights_of g b) place 0) w n))
              | no q ↦ and_left (eqb (get_or (neighbours_of g b) i 0) a) _ (ne_eqb (get_or (neighbours_of g b) i 0) a (elsewhere up h e i l q))
            ])))
      ]
