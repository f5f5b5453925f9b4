-- The nodes of a route are put in, one after the other: each has its mark and waits at label 0, once.
-- Assumes nothing.
use Prim.Native.Nat.{ℕ, zero, suc, ◌+◌, ◌*◌, ◌≤◌, ◌<◌}
use mathlib.Core.Path.{◌≡◌, refl, sym, ap, ◌∙◌}
use mathlib.Core.Bool.{Bool, true, false, not, ◌||◌}
use mathlib.Core.Logic.{◌≢◌, inl, ⊎_elim}
use mathlib.Core.List.{List, [], ◌∷◌}
use native.Mathlib.Decide.{ℕ_discrete, dec_le}
use native.Mathlib.Omega.{arith}
use native.Mathlib.Numerals.{add-one}
use lib.Dec.{eqb}
use lib.ListN.{length, get_or, set, take, length-set}
use lib.Seq.{get_or-set_same, get_or-set_other}
use borrow.Author.Tests.{eq-eqb, ne_eqb, eqb-true, eqb-false, not-true, not-false}
use Rattle.network.specs.Routes.{on_route}
use Rattle.network.proofs.Routes.{on_place}
use Rattle.network.proofs.Tests.{bool_cases}
use Rattle.expansion.specs.Queue.{key_of}
use Rattle.expansion.specs.Tags.{tag_of, node_of}
use Rattle.expansion.specs.NodeQueue.{Free, NodeQueue, PushedNode}
use Rattle.expansion.specs.Area.{queue_base}
use Rattle.expansion.specs.Expand.{is_waiting}
use Rattle.expansion.proofs.AreaLaws.{area_blank, area_pushed, key_own}
use Rattle.expansion.proofs.Beside.{Beside, area_beside}
use Rattle.expansion.proofs.Waiting.{pushed_waits}
use Rattle.routes.specs.Route.{stop_word, CanStartRoute, RouteStarted}

-- a node more of a list
or_swap : (a b c : Bool) → (a || (b || c)) ≡ (b || (a || c))
or_swap true true c = refl
or_swap true false c = refl
or_swap false true c = refl
or_swap false false c = refl

on_next : (v : ℕ) (R : List ℕ) (i : ℕ) → i < length R → on_route (take (suc i) R) v ≡ (eqb v (get_or R i 0) || on_route (take i R) v)
unfolding on_route
on_next v [] i h = absurd (omega arith)
on_next v (r ∷ rs) zero h = refl
on_next v (r ∷ rs) (suc i) h =
    ap (λ b. eqb v r || b) (on_next v rs i (omega arith)) ∙ or_swap (eqb v r) (eqb v (get_or rs i 0)) (on_route (take i rs) v)

on_more : (R : List ℕ) (i v : ℕ) → i < length R → on_route (take (i + 1) R) v ≡ (eqb v (get_or R i 0) || on_route (take i R) v)
on_more R i v h = ap (λ (j : ℕ). on_route (take j R) v) (add-one i) ∙ on_next v R i h

pub started_none : {n : ℕ} {R xs : List ℕ} {b : ℕ} → CanStartRoute n R xs b → RouteStarted n [] xs xs b 0
unfolding on_route
started_none {xs = xs} {b} c =
    record {
      size = refl;
      area = area_blank (record { zero = λ j h. c.blank.zero j (omega arith) }) c.room c.few;
      marks = λ v h. c.blank.zero v (omega arith);
      rest = λ j h l. c.blank.zero j (omega arith);
      waits = λ v h. ap not (eq-eqb (get_or xs (b + v) 0) 0 (c.blank.zero (b + v) (omega arith)));
    }

-- lists with the same nodes
started_same : {n : ℕ} {R T xs ys : List ℕ} {b len : ℕ} → ((v : ℕ) → on_route T v ≡ on_route R v) → RouteStarted n R xs ys b len → RouteStarted n T xs ys b len
started_same same s =
    record {
      size = s.size;
      area = s.area;
      marks = λ v h. s.marks v h ∙ ap stop_word (sym (same v));
      rest = s.rest;
      waits = λ v h. s.waits v h ∙ sym (same v);
    }

-- the mark of a node
module _ (i : ℕ) {n : ℕ} {R xs ys : List ℕ} {b len : ℕ} (c : CanStartRoute n R xs b) (s : RouteStarted n (take i R) xs ys b len) {x : ℕ} (inside : x < n) where
  pub mark_fits : x < length ys
  mark_fits = omega (arith, inside, s.area.queue.room)

  -- what it says
  marked_on : get_or ys x 0 ≢ 0 → on_route (take i R) x ≡ true
  marked_on m =
      ⊎_elim
      (λ e. e)
      (λ e. absurd (m (s.marks x inside ∙ ap stop_word e)))
      (bool_cases (on_route (take i R) x))

  -- it is that of an entry
  pub mark_most : get_or ys x 0 ≤ 2 * len
  mark_most =
      ⊎_elim
      (λ e. let seat = on_waits e in omega (arith, s.marks x inside, ap stop_word e, entry (get_or ys (b + x) 0) refl seat))
      (λ e. omega (arith, s.marks x inside, ap stop_word e))
      (bool_cases (on_route (take i R) x))
    where
      on_waits : on_route (take i R) x ≡ true → get_or ys (b + x) 0 ≢ 0
      on_waits e = eqb-false (get_or ys (b + x) 0) 0 (not-true (eqb (get_or ys (b + x) 0) 0) (s.waits x inside ∙ e))

      entry : (w : ℕ) → get_or ys (b + x) 0 ≡ w → get_or ys (b + x) 0 ≢ 0 → 1 ≤ len
      entry zero e m = absurd (m e)
      entry (suc j) e m =
          elim (dec_le (get_or ys (b + x) 0) n) [
            | yes l ↦ omega (arith, (s.area.queue.waits x j inside e (omega arith)).0)
            | no l ↦ absurd (omega (arith, (s.area.labelled x inside (omega arith)).low))
          ]

-- node x of the list, its i-th, has its turn
module _ (i : ℕ) {n : ℕ} {R xs ys : List ℕ} {b len : ℕ} (c : CanStartRoute n R xs b) (s : RouteStarted n (take i R) xs ys b len) (h : i < length R) where
  abbrev x : ℕ
  x = get_or R i 0

  pub inside : x < n
  inside = c.inside x (on_place R i h)

  -- it was put in before
  pub started_again : get_or ys x 0 ≢ 0 → RouteStarted n (take (i + 1) R) xs ys b len
  started_again m = started_same same s
    where
      same : (v : ℕ) → on_route (take (i + 1) R) v ≡ on_route (take i R) v
      same v =
          on_more R i v h
          ∙ elim (ℕ_discrete v x) [
            | yes e ↦ rw (e, eq-eqb x x refl) (sym (marked_on i c s inside m))
            | no d ↦ rw (ne_eqb v x d)
          ]

  -- it is put in now
  module _ (new : get_or ys x 0 ≡ 0) where
    not_on : on_route (take i R) x ≡ false
    not_on =
        ⊎_elim
        (λ e. absurd (omega (arith, new, s.marks x inside, ap stop_word e)))
        (λ e. e)
        (bool_cases (on_route (take i R) x))

    beside : Beside ys (set ys x 2) b
    beside = record { size = length-set ys x 2; words = λ j l. get_or-set_other ys x j 2 0 (omega (arith, inside, c.before)) }

    seat : get_or (set ys x 2) (b + x) 0 ≡ 0
    seat =
        beside.words (b + x) (omega arith)
        ∙ eqb-true (get_or ys (b + x) 0) 0 (not-false (eqb (get_or ys (b + x) 0) 0) (s.waits x inside ∙ not_on))

    -- what `push` requires
    pub queue_marked : NodeQueue n (set ys x 2) b (queue_base n b) len
    queue_marked = (area_beside beside s.area).queue

    pub can_push : (tag : ℕ) → tag ≡ tag_of x x → (node_of (key_of 0 tag) < n) × Free n (set ys x 2) b (node_of (key_of 0 tag))
    can_push tag e =
        let low : x < 65536 = omega (arith, inside, c.few) in
        rw (e, key_own 0 x x low low) (inside, inl seat)

    module _ {zs : List ℕ} (p : PushedNode n (set ys x 2) zs b (queue_base n b) len (key_of 0 (tag_of x x))) where
      front : (j : ℕ) → j < b → get_or zs j 0 ≡ get_or (set ys x 2) j 0
      front j l = p.frame.before j l

      waits : (v : ℕ) → v < n → is_waiting zs b v ≡ on_route (take (i + 1) R) v
      waits v l =
          pushed_waits (area_beside beside s.area) inside p v l
          ∙ ap (λ (w : ℕ). eqb v x || not (eqb w 0)) (beside.words (b + v) (omega arith))
          ∙ ap (λ w. eqb v x || w) (s.waits v l)
          ∙ sym (on_more R i v h)

      marks : (v : ℕ) → v < n → get_or zs v 0 ≡ stop_word (on_route (take (i + 1) R) v)
      marks v l =
          front v (omega (arith, c.before))
          ∙ elim (ℕ_discrete v x) [
            | yes e ↦ rw (e, on_more R i x h, eq-eqb x x refl) (get_or-set_same ys x 2 0 (mark_fits i c s inside))
            | no d ↦ rw (on_more R i v h, ne_eqb v x d) (get_or-set_other ys x v 2 0 d ∙ s.marks v l)
          ]

      pub started_more : RouteStarted n (take (i + 1) R) xs zs b (len + 1)
      started_more =
          record {
            size = p.frame.size ∙ length-set ys x 2 ∙ s.size;
            area = area_pushed (area_beside beside s.area) inside seat p;
            marks = marks;
            rest = λ j l m. front j m ∙ get_or-set_other ys x j 2 0 (omega (arith, inside)) ∙ s.rest j l m;
            waits = waits;
          }
