-- The lockers that are nearer to s than e come in turn. An entry that leaves the queue comes at or before all that wait, by label and then by node, so
-- every node before it is settled: the lockers of the settled nodes are the first of all in order, and those of the next node that has some are the next
-- of them. The search may follow the arcs of some nodes alone, where it answers for those that have lockers; it may stop at k.
-- Assumes nothing.
use Prim.Native.Nat.{ℕ, suc, ◌+◌, ◌≤◌, ◌<◌, min}
use mathlib.Core.Path.{◌≡◌, ap, ◌∙◌}
use mathlib.Core.Bool.{true}
use mathlib.Core.Logic.{◌≢◌, ◌⊎◌, inl, inr, ⊎_elim}
use mathlib.Core.List.Memᴰ
use mathlib.Core.List.{List, Memᴰ}
use native.Mathlib.Decide.{dec_lt}
use native.Mathlib.Omega.{arith}
use borrow.Author.Tests.{lt-ltb, ltb-true}
use lib.ListN.{length, get_or, take}
use Rattle.network.specs.Network.{Network, node_count}
use Rattle.network.specs.Accepted.{Accepted}
use Rattle.network.specs.Distance.{NONE, dist}
use Rattle.network.specs.Points.{lockers, marked}
use Rattle.network.specs.Nearest.{key, by_distance}
use Rattle.network.specs.Order.{before, Nearer}
use Rattle.network.proofs.Counts.{member_at}
use Rattle.network.proofs.Ordered.{below, below_most, key_pair, at_above, at_below, place_own}
use Rattle.network.proofs.Rank.{key_order, passes_nearer, before_step}
use Rattle.network.proofs.Rows.{by_before, by_only, all_ordered, all_small}
use Rattle.expansion.specs.Area.{LabelAt, Moved, Took}
use Rattle.expansion.proofs.Origins.{one}
use Rattle.expansion.proofs.Search.{Leads, settled_before}
use Rattle.expansion.proofs.Steps.{Marks}
use Rattle.expansion.proofs.AreaLaws.{settled_as}
use Rattle.expansion.proofs.AreaSearch.{label_on, label_back, took_area, took_word, took_moved, took_waited, took_first, search_took, settle_marks}
use Rattle.expansion.proofs.Progress.{Progress, took_small}
use Rattle.expansion.proofs.Beside.{Beside, label_at_beside, beside_label_at}
use Rattle.expansion.proofs.Places.{first_in, in_first}

-- all lockers nearer to s than e, by distance and then by node
abbrev pub in_order : Network → List ℕ → ℕ → ℕ → List (ℕ × ℕ)
in_order g P s e = by_distance g P s e (node_count g)

-- the first `tally` of them are on settled nodes, and a settled node has all its lockers among them, or k are there
pub record InTurn (g : Network) (P : List ℕ) (s e k : ℕ) (xs : List ℕ) (b tally : ℕ) : Type 0 where
  pub full : tally ≤ length (in_order g P s e)
  pub settled : (v l : ℕ) → LabelAt (node_count g) xs b v l → marked P v ≡ true → min k (below (suc (key (v, dist g s v))) (in_order g P s e)) ≤ tally
  pub only : (v l : ℕ) → Memᴰ (v, l) (take tally (in_order g P s e)) → LabelAt (node_count g) xs b v l

pub turn_start : {g : Network} {P : List ℕ} {s e k b : ℕ} {xs : List ℕ} → ((v l : ℕ) → LabelAt (node_count g) xs b v l → ⊥) → InTurn g P s e k xs b 0
turn_start none =
    record { full = omega arith; settled = λ v l h m. absurd (none v l h); only = λ v l m. absurd (Memᴰ.not-nil m) }

-- words before the area change
pub turn_beside : {g : Network} {P : List ℕ} {s e k b tally : ℕ} {xs ys : List ℕ} → Beside xs ys b → InTurn g P s e k xs b tally → InTurn g P s e k ys b tally
turn_beside same w =
    record { full = w.full; settled = λ v l h m. w.settled v l (beside_label_at same h) m; only = λ v l m. label_at_beside same (w.only v l m) }

-- every locker that is nearer than e is on a settled node: all have come
pub turn_all : {g : Network} {P : List ℕ} {s e k b tally : ℕ} {xs : List ℕ} → InTurn g P s e k xs b tally
    → ((x : ℕ) → Nearer g P s e x → LabelAt (node_count g) xs b x (dist g s x)) → (k ≤ tally) ⊎ (length (in_order g P s e) ≤ tally)
turn_all {g} {P} {s} {e} {k} {tally = tally} w h =
    elim (dec_lt tally k) [
      | no n ↦ inl (omega arith)
      | yes a ↦
          elim (dec_lt tally (length (in_order g P s e))) [
            | no n ↦ inr (omega arith)
            | yes c ↦
                let y = get_or (in_order g P s e) tally (0, 0) in
                let r = by_only g P s e (node_count g) y (member_at (0, 0) (in_order g P s e) tally c) in
                let q = passes_nearer r.low r.passes in
                absurd
                (omega (
                  arith,
                  place_own (in_order g P s e) (all_ordered g P s e) tally c,
                  w.settled y.0 (dist g s y.0) (h y.0 q) q.point,
                  ap (λ d. below (suc (key (y.0, d))) (in_order g P s e)) r.far,
                ))
          ]
    ]

module _ {g : Network} (ok : Accepted g) {P : List ℕ} {s e k b tally : ℕ} {xs : List ℕ} {Open Seen : ℕ → Type 0} {settled len : ℕ}
    (leads : Leads g (one g s) Open Seen) (sees : (x : ℕ) → Nearer g P s e x → Seen x)
    (p : Progress g (one g s) Open Seen xs b settled len) (w : InTurn g P s e k xs b tally)
    {ys : List ℕ} {left l v u : ℕ} (t : Took (node_count g) xs ys b len left l v u) where
  moved : Moved (node_count g) xs ys b
  moved = took_moved ok p.area p.searched t

  -- a node that the search answers for, and that comes before the one that is taken, is settled
  pub turn_earlier : (x : ℕ) → Seen x → dist g s x ≢ NONE → (dist g s x < l) ⊎ ((dist g s x ≡ l) × (x < v)) → LabelAt (node_count g) xs b x (dist g s x)
  turn_earlier x o n h =
      label_back moved x (dist g s x)
      (settled_before ok leads (search_took ok p.area p.searched t) l v (took_first ok p.area p.searched t) x o n h)

  -- the node that is taken has lockers: they are the next
  module _ (exact : l ≡ dist g s v) (mark : 0 < lockers P v) (near : l < e) (place : tally < k) where
    nearer : Nearer g P s e v
    nearer = record { inside = t.inside; point = lt-ltb 0 (lockers P v) mark; less = omega (arith, exact) }

    -- as many come before it, and as many at or before it
    step : below (suc (key (v, l))) (in_order g P s e) ≡ below (key (v, l)) (in_order g P s e) + lockers P v
    step =
        let z = ap (λ d. key (v, d)) exact in
        omega (
          arith,
          by_before g P s e (suc (key (v, l))),
          by_before g P s e (key (v, l)),
          before_step ok P s e v nearer,
          ap (λ n. before g P s e (suc n)) z,
          ap (λ n. before g P s e n) z,
        )

    stands_at : (j : ℕ) → below (key (v, l)) (in_order g P s e) ≤ j → j < below (suc (key (v, l))) (in_order g P s e) → get_or (in_order g P s e) j (0, 0) ≡ (v, l)
    stands_at j a b =
        let i : j < length (in_order g P s e) = omega (arith, b, below_most (suc (key (v, l))) (in_order g P s e)) in
        let y = get_or (in_order g P s e) j (0, 0) in
        key_pair y (v, l) (all_small ok P s e y (member_at (0, 0) (in_order g P s e) j i)) (omega (arith, t.inside, ok.few))
        (omega (
          arith,
          at_below (key (v, l)) (in_order g P s e) (all_ordered g P s e) j i a,
          at_above (suc (key (v, l))) (in_order g P s e) (all_ordered g P s e) j b,
        ))

    -- what comes before it is settled
    no_fewer : below (key (v, l)) (in_order g P s e) ≤ tally
    no_fewer =
        elim (dec_lt tally (below (key (v, l)) (in_order g P s e))) [
          | no n ↦ omega arith
          | yes b ↦
              let i : tally < length (in_order g P s e) = omega (arith, b, below_most (key (v, l)) (in_order g P s e)) in
              let y = get_or (in_order g P s e) tally (0, 0) in
              let r = by_only g P s e (node_count g) y (member_at (0, 0) (in_order g P s e) tally i) in
              let q = passes_nearer r.low r.passes in
              let o = (key_order y.0 y.1 v l (omega (arith, r.low, ok.few)) (omega (arith, ok.few, t.inside))).0 (at_above (key (v, l)) (in_order g P s e) (all_ordered g P s e) tally b) in
              let low = took_small ok p t in
              let n : dist g s y.0 ≢ NONE = ⊎_elim (λ a. omega (arith, r.far)) (λ a. omega (arith, r.far)) o in
              absurd
              (omega (
                arith,
                place_own (in_order g P s e) (all_ordered g P s e) tally i,
                w.settled y.0 (dist g s y.0) (turn_earlier y.0 (sees y.0 q) n (rw r.far at o)) q.point,
                ap (λ d. below (suc (key (y.0, d))) (in_order g P s e)) r.far,
              ))
        ]

    -- and nothing else is, as it is new
    no_more : tally ≤ below (key (v, l)) (in_order g P s e)
    no_more =
        elim (dec_lt (below (key (v, l)) (in_order g P s e)) tally) [
          | no n ↦ omega arith
          | yes b ↦
              let j = below (key (v, l)) (in_order g P s e) in
              let z = stands_at j (omega arith) (omega (arith, step, mark)) in
              let m = first_in tally (in_order g P s e) j b (omega (arith, b, w.full)) in
              absurd (omega (arith, (w.only v l (rw z at m)).is, took_waited ok p.area p.searched t))
        ]

    last : below (suc (key (v, l))) (in_order g P s e) ≡ tally + lockers P v
    last = omega (arith, no_fewer, no_more, step)

    pub turn_fits : tally + lockers P v ≤ length (in_order g P s e)
    turn_fits = omega (arith, last, below_most (suc (key (v, l))) (in_order g P s e))

    pub turn_next : (j : ℕ) → tally ≤ j → j < tally + lockers P v → get_or (in_order g P s e) j (0, 0) ≡ (v, l)
    turn_next j a b = stands_at j (omega (arith, no_fewer, no_more)) (omega (arith, last))

  -- the node is settled
  module _ {ws : List ℕ} (same : Moved (node_count g) (settled_as (node_count g) ys b settled v l) ws b) where
    marks : Marks (LabelAt (node_count g) ys b) (LabelAt (node_count g) ws b) v l
    marks = settle_marks ok (took_area ok p.area p.searched t) l t.inside (took_word ok p.area p.searched t) same

    label_new : (x m : ℕ) → LabelAt (node_count g) xs b x m → LabelAt (node_count g) ws b x m
    label_new x m h = marks.kept x m (label_on moved x m h)

    label_old : (x m : ℕ) → LabelAt (node_count g) ws b x m → LabelAt (node_count g) xs b x m ⊎ (x ≡ v)
    label_old x m h = ⊎_elim (λ a. inl (label_back moved x m a)) (λ a. inr a.0) (marks.old x m h)

    pub turn_other : lockers P v ≡ 0 → InTurn g P s e k ws b tally
    turn_other none =
        record {
          full = w.full;
          settled =
              λ x m h y.
              ⊎_elim
              (λ a. w.settled x m a y)
              (λ q. absurd (omega (arith, none, ltb-true 0 (lockers P x) y, ap (λ (z : ℕ). lockers P z) q)))
              (label_old x m h);
          only = λ x m h. label_new x m (w.only x m h);
        }

    pub turn_point : l ≡ dist g s v → 0 < lockers P v → l < e → tally < k → {r : ℕ} → r ≡ min k (tally + lockers P v) → InTurn g P s e k ws b r
    turn_point exact mark near place {r} count =
        record {
          full = omega (arith, count, turn_fits exact mark near place);
          settled =
              λ x m h y.
              ⊎_elim
              (λ a. omega (arith, w.settled x m a y, count))
              (λ q.
              omega (
                arith,
                last exact mark near place,
                count,
                ap (λ i. below (suc (key (i, dist g s i))) (in_order g P s e)) q,
                ap (λ d. below (suc (key (v, d))) (in_order g P s e)) exact,
              ))
              (label_old x m h);
          only =
              λ x m h.
              let i = in_first r (in_order g P s e) (x, m) h in
              elim (dec_lt i.index tally) [
                | yes a ↦ label_new x m (w.only x m (Memᴰ.cast i.is (first_in tally (in_order g P s e) i.index a i.inside)))
                | no a ↦
                    let z = i.is ∙ turn_next exact mark near place i.index (omega arith) (omega (arith, count, i.low)) in
                    let u : x ≡ v = ap (λ (z : ℕ × ℕ). z.0) z in
                    let b : m ≡ l = ap (λ (z : ℕ × ℕ). z.1) z in
                    rw (u, b) marks.here
              ];
        }
