-- Laws of how far an entry sinks (Ask 2): an entry that is stored in the hole sank no level; one that sinks on from a child's index sank one level more;
-- there are no more levels than entries; the count is that of the indices on the way; and the queue before and after admits one count only, also where
-- keys are equal.
-- Assumes nothing.
use mathlib.Core.Path.{◌≡◌, refl, sym, ap, ◌∙◌}
use mathlib.Core.Logic.{inl, inr, ⊎_elim, ◌≢◌}
use mathlib.Core.List.{List, [], ◌∷◌}
use Prim.Native.Nat.{ℕ, zero, suc, ◌+◌, ◌*◌, ◌≤◌, ◌<◌}
use native.Mathlib.Omega.{arith}
use native.Mathlib.Decide.{ℕ_discrete}
use Rattle.expansion.specs.Queue.{key_of, key_at, parent_of, Put, LevelsBelow, OnWay, Sank}
use Rattle.expansion.proofs.QueueLaws.{put_stored}

-- ---- Levels.

-- each level adds one to the index at least
below_far : (levels top i : ℕ) → LevelsBelow levels top i → top + levels ≤ i
below_far zero top i e = omega arith
below_far (suc levels) top i (pos, b) = omega (arith, below_far levels top (parent_of i) b)

-- small cases: from 0 by 2 and 5 to 11 there are three levels; 5 is a child of 2 and not of 1
below_three : LevelsBelow 3 0 11
below_three = (omega arith, (omega arith, (omega arith, refl)))

not_below : LevelsBelow 1 1 5 → ⊥
not_below (pos, e) = omega arith

-- how far one entry lies below another is one number
pub below_once : (a b top i : ℕ) → LevelsBelow a top i → LevelsBelow b top i → a ≡ b
below_once zero zero top i p q = refl
below_once zero (suc b) top i p (pos, q) = omega (arith, below_far b top (parent_of i) q)
below_once (suc a) zero top i (pos, p) q = omega (arith, below_far a top (parent_of i) p)
below_once (suc a) (suc b) top i (pos, p) (pos', q) = ap suc (below_once a b top (parent_of i) p q)

-- what lies below a child lies one level more below its parent
below_parent : (levels child i : ℕ) → 0 < child → LevelsBelow levels child i → LevelsBelow (suc levels) (parent_of child) i
below_parent zero child i pos e = (omega arith, ap parent_of e)
below_parent (suc levels) child i pos (p, b) = (p, below_parent levels child (parent_of i) pos b)

-- the first child's index on the way
record FirstChild (levels top i : ℕ) : Type 0 where
  child : ℕ
  pos : 0 < child
  parent : parent_of child ≡ top
  rest : LevelsBelow levels child i

below_first : (levels top i : ℕ) → LevelsBelow (suc levels) top i → FirstChild levels top i
below_first zero top i (pos, e) = record { child = i; pos = pos; parent = e; rest = refl }
below_first (suc levels) top i (pos, b) =
    let f = below_first levels top (parent_of i) b in
    record { child = f.child; pos = f.pos; parent = f.parent; rest = (pos, f.rest) }

-- what lies on a way through the child, and behind the child's parent, is the child or lies below it
below_child : (levels rest child i place : ℕ) → parent_of child < i → LevelsBelow levels child place → LevelsBelow rest i place → (above : ℕ) × LevelsBelow above child i
below_child zero zero child i place far p q = (0, sym q ∙ p)
below_child zero (suc rest) child i place far p (pos, q) = absurd (omega (arith, below_far rest i (parent_of place) q, ap parent_of p))
below_child (suc levels) zero child i place far p q = (suc levels, rw q at p)
below_child (suc levels) (suc rest) child i place far (pos, p) (pos', q) = below_child levels rest child i (parent_of place) far p q

-- ---- The way from the hole to the place has as many indices as the count says: one for each number of levels up from the place, from 0 to the levels
-- that lie between the two.

-- no index on the way is farther up than the hole
few_up : (levels rest hole i place : ℕ) → hole ≤ i → LevelsBelow levels hole place → LevelsBelow rest i place → rest ≤ levels
few_up levels zero hole i place le p q = omega arith
few_up zero (suc rest) hole i place le p q = omega (arith, below_far (suc rest) i place q)
few_up (suc levels) (suc rest) hole i place le (pos, p) (pos', q) = omega (arith, few_up levels rest hole i (parent_of place) le p q)

pub way_only : (levels hole place i : ℕ) → LevelsBelow levels hole place → (w : OnWay hole place i) → w.rest ≤ levels
way_only levels hole place i b w = few_up levels w.rest hole i place (omega (arith, below_far w.above hole i w.from)) b w.to

-- no two indices are equally far up
pub way_one : (rest i j place : ℕ) → LevelsBelow rest i place → LevelsBelow rest j place → i ≡ j
way_one zero i j place p q = sym p ∙ q
way_one (suc rest) i j place (pos, p) (pos', q) = way_one rest i j (parent_of place) p q

-- and for each number there is one
pub way_each : (levels hole place rest : ℕ) → LevelsBelow levels hole place → rest ≤ levels → (i : ℕ) × (w : OnWay hole place i) × (w.rest ≡ rest)
way_each levels hole place zero b le = (place, record { above = levels; rest = 0; from = b; to = refl }, refl)
way_each zero hole place (suc rest) b le = absurd (omega arith)
way_each (suc levels) hole place (suc rest) (pos, b) le =
    let up = way_each levels hole (parent_of place) rest b (omega arith) in
    let w = up.1 in
    (up.0, record { above = w.above; rest = suc w.rest; from = w.from; to = (pos, w.to) }, ap suc up.2)

-- ---- An entry sinks.

-- it is stored in the hole
pub sank_here : (xs ys : List ℕ) (len hole d t : ℕ) → hole < len → Put xs ys hole d t → Sank xs ys len hole (key_of d t) 1
sank_here xs ys len hole d t inside p =
    record {
      place = hole;
      levels = 0;
      inside = inside;
      below = refl;
      here = p.here;
      moved = λ i n w. absurd (n (omega (arith, below_far w.above hole i w.from, below_far w.rest i hole w.to)));
      others =
          λ i.
          elim (ℕ_discrete i hole) [
            | yes e ↦ inl (record { above = 0; rest = 0; from = e; to = sym e })
            | no n ↦ inr (p.other i n)
          ];
      count = refl;
    }

-- a child's entry, of a lesser key, is copied into the hole, and the entry sinks on from there
module _ (xs ys zs : List ℕ) (len hole child d t key stored : ℕ) (low : 2 * hole < child) (high : child ≤ 2 * hole + 2) (lt : key_at xs child < key) (p : Put xs ys hole d t) (is : key_of d t ≡ key_at xs child) (s : Sank ys zs len child key stored) where
  parent : parent_of child ≡ hole
  parent = omega arith

  way_down : LevelsBelow (suc s.levels) hole s.place
  way_down = rw parent at (below_parent s.levels child s.place (omega arith) s.below)

  way_on : (i : ℕ) → OnWay child s.place i → OnWay hole s.place i
  way_on i w = record { above = suc w.above; rest = w.rest; from = rw parent at (below_parent w.above child i (omega arith) w.from); to = w.to }

  -- the hole has the child's entry now, and the rest of the way leaves it there
  in_hole : key_at zs hole ≡ key_at xs child
  in_hole = ⊎_elim (λ w. absurd (omega (arith, below_far w.above child hole w.from))) (λ e. e ∙ p.here ∙ is) (s.others hole)

  sank_moved : (i : ℕ) → i ≢ hole → OnWay hole s.place i → (key_at xs i < key) × (key_at zs (parent_of i) ≡ key_at xs i)
  sank_moved i n w =
      elim (ℕ_discrete i child) [
        | yes e ↦ (omega (arith, ap (key_at xs) e), ap (key_at zs) (ap parent_of e ∙ parent) ∙ in_hole ∙ ap (key_at xs) (sym e))
        | no m ↦
            let b = below_child s.levels w.rest child i s.place (omega (arith, below_far w.above hole i w.from)) s.below w.to in
            let o = s.moved i m (record { above = b.0; rest = w.rest; from = b.1; to = w.to }) in
            (omega (arith, o.0, p.other i n), o.1 ∙ p.other i n)
      ]

  pub sank_below : Sank xs zs len hole key (stored + 1)
  sank_below =
      record {
        place = s.place;
        levels = suc s.levels;
        inside = s.inside;
        below = way_down;
        here = s.here;
        moved = sank_moved;
        others =
            λ i.
            elim (ℕ_discrete i hole) [
              | yes e ↦ inl (record { above = 0; rest = suc s.levels; from = e; to = rw e way_down })
              | no n ↦ ⊎_elim (λ w. inl (way_on i w)) (λ e. inr (e ∙ p.other i n)) (s.others i)
            ];
        count = omega (arith, s.count);
      }

-- a small case: an entry of distance 3 sinks from 0 to 1, as the one there has distance 1, and no further, as the one at 3 has distance 4: two are stored
sample : Sank (9 ∷ 9 ∷ 0 ∷ 1 ∷ 0 ∷ 2 ∷ 0 ∷ 4 ∷ []) (0 ∷ 1 ∷ 0 ∷ 3 ∷ 0 ∷ 2 ∷ 0 ∷ 4 ∷ []) 4 0 (key_of 3 0) 2
unfolding key_at
sample =
    let before : List ℕ = 9 ∷ 9 ∷ 0 ∷ 1 ∷ 0 ∷ 2 ∷ 0 ∷ 4 ∷ [] in
    let between : List ℕ = 0 ∷ 1 ∷ 0 ∷ 1 ∷ 0 ∷ 2 ∷ 0 ∷ 4 ∷ [] in
    sank_below before between _ 4 0 1 1 0 (key_of 3 0) 1 (omega arith) (omega arith) (omega arith) (put_stored before 0 1 0 (omega arith)) refl (sank_here between _ 4 1 3 0 (omega arith) (put_stored between 1 3 0 (omega arith)))

-- there are no more levels than entries
pub sank_few : (xs ys : List ℕ) (len hole key stored : ℕ) → Sank xs ys len hole key stored → hole + stored ≤ len
sank_few xs ys len hole key stored s = omega (arith, s.count, s.inside, below_far s.levels hole s.place s.below)

-- ---- The queue before and after admits one count only.
module _ (xs ys : List ℕ) (len hole key a b : ℕ) (s : Sank xs ys len hole key a) (t : Sank xs ys len hole key b) where
  -- an entry of the key that is off the way stood where it stands, so it did not sink there
  place_on_way : OnWay hole s.place t.place
  place_on_way =
      elim (ℕ_discrete t.place hole) [
        | yes e ↦ record { above = 0; rest = s.levels; from = e; to = rw e s.below }
        | no n ↦
            ⊎_elim
            (λ w. w)
            (λ e. absurd (omega (arith, e, t.here, (t.moved t.place n (record { above = t.levels; rest = 0; from = t.below; to = refl })).0)))
            (s.others t.place)
      ]

  -- above the place, an entry on the way has a lesser key
  no_rest : (above rest : ℕ) → LevelsBelow above hole t.place → LevelsBelow rest t.place s.place → s.place ≡ t.place
  no_rest above zero from to = to
  no_rest above (suc rest) from to =
      let f = below_first rest t.place s.place to in
      let w : OnWay hole s.place f.child = record { above = suc above; rest = rest; from = (f.pos, rw f.parent from); to = f.rest } in
      let m = s.moved f.child (omega (arith, f.pos, f.parent, below_far above hole t.place from)) w in
      absurd (omega (arith, m.0, m.1, ap (key_at ys) f.parent, t.here))

  pub sank_once : a ≡ b
  sank_once =
      let w = place_on_way in
      let e = no_rest w.above w.rest w.from w.to in
      omega (arith, s.count, t.count, below_once s.levels t.levels hole t.place (rw e at s.below) t.below)
