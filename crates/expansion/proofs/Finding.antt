-- The lockers that an expansion has found: the first of all that are nearer to s than e, in order. They come in turn (Turns.antt); and where no entry
-- nearer than e waits, none is left.
-- Assumes nothing.
use Prim.Native.Nat.{ℕ, zero, suc, ◌+◌, ◌≤◌, ◌<◌, min}
use mathlib.Core.Path.{◌≡◌, refl, sym, ap, ◌∙◌}
use mathlib.Core.Logic.{◌≢◌, ◌⊎◌, inl, ⊎_elim}
use mathlib.Core.List.{List, Memᴰ}
use native.Mathlib.Decide.{ℕ_discrete, dec_lt}
use native.Mathlib.Numerals.{add-one}
use native.Mathlib.Omega.{arith}
use lib.ListN.{length, get_or, set, length-set, length-take}
use lib.Seq.{get_or-take, get_or-set_same, get_or-set_other}
use Rattle.network.specs.Network.{Network, node_count, neighbours_of}
use Rattle.network.specs.Accepted.{Accepted}
use Rattle.network.specs.Distance.{NONE, dist}
use Rattle.network.specs.Points.{lockers}
use Rattle.network.specs.Nearest.{nearest}
use Rattle.network.proofs.Counts.{member_at}
use Rattle.expansion.specs.Area.{LabelAt, Kept, Blank, Wiped, Moved, Took, Followed}
use Rattle.expansion.specs.Found.{tallied, Noted, FoundIn, FindLeft, NodesLeft}
use Rattle.expansion.specs.declared.nearest.Near.{Near}
use Rattle.expansion.specs.declared.nearest.Search.{Search}
use Rattle.expansion.proofs.Origins.{one}
use Rattle.expansion.proofs.AreaLaws.{settled_as}
use Rattle.expansion.proofs.AreaSearch.{label_on, label_back, took_moved, took_exact, search_finished}
use Rattle.expansion.proofs.Progress.{All, all_leads, Progress, took_small, took_place, frame_settled}
use Rattle.expansion.proofs.Beside.{Beside}
use Rattle.expansion.proofs.Places.{first_in}
use Rattle.expansion.proofs.Turns.{in_order, InTurn, turn_start, turn_beside, turn_all, turn_earlier, turn_other, turn_point, turn_next}

-- ---- Tallies.

pub tallied_none : (P xs : List ℕ) → tallied P xs 0 ≡ 0
unfolding tallied
tallied_none P xs = refl

pub tallied_next : (P xs : List ℕ) (i : ℕ) → tallied P xs (suc i) ≡ tallied P xs i + lockers P (get_or xs i 0)
unfolding tallied
tallied_next P xs i = refl

pub tallied_same : (P xs ys : List ℕ) (i : ℕ) → ((j : ℕ) → j < i → get_or ys j 0 ≡ get_or xs j 0) → tallied P ys i ≡ tallied P xs i
unfolding tallied
tallied_same P xs ys zero same = refl
tallied_same P xs ys (suc i) same =
    omega (arith, tallied_same P xs ys i (λ j h. same j (omega arith)), ap (λ v. get_or P v 0) (same i (omega arith)))

pub tallied_mono : (P xs : List ℕ) (i j : ℕ) → i ≤ j → tallied P xs i ≤ tallied P xs j
unfolding tallied
tallied_mono P xs i zero h = let e : i ≡ 0 = omega arith in rw e (omega arith)
tallied_mono P xs i (suc j) h =
    elim (dec_lt i (suc j)) [
      | yes l ↦ omega (arith, tallied_mono P xs i j (omega arith))
      | no n ↦ let e : i ≡ suc j = omega arith in rw e (omega arith)
    ]

-- each locker stands on one of the nodes
pub record OnNode (P xs : List ℕ) (found j : ℕ) : Type 0 where
  pub index : ℕ
  pub low : index < found
  pub from : tallied P xs index ≤ j
  pub to : j < tallied P xs (suc index)

pub tallied_on : (P xs : List ℕ) (found j : ℕ) → j < tallied P xs found → OnNode P xs found j
tallied_on P xs zero j h = absurd (omega (arith, tallied_none P xs))
tallied_on P xs (suc found) j h =
    elim (dec_lt j (tallied P xs found)) [
      | yes l ↦
          let r = tallied_on P xs found j l in
          record { index = r.index; low = omega (arith, r.low); from = r.from; to = r.to }
      | no n ↦ record { index = found; low = omega arith; from = omega arith; to = h }
    ]

-- The first words hold the found nodes, and 0 behind these. Their lockers, in order and cut at k, are the first `tally` of all, which come in turn.
pub record Finding (g : Network) (P : List ℕ) (s e k : ℕ) (xs : List ℕ) (b found tally : ℕ) : Type 0 where
  pub low : tally ≤ k
  pub few : found ≤ tally
  pub sum : tally ≡ min k (tallied P xs found)
  pub early : (i : ℕ) → i < found → tallied P xs i < k
  pub some : (i : ℕ) → i < found → 0 < lockers P (get_or xs i 0)
  pub run :
      (i j : ℕ) → i < found → tallied P xs i ≤ j → j < tallied P xs (suc i) → j < k
      → get_or (in_order g P s e) j (0, 0) ≡ (get_or xs i 0, dist g s (get_or xs i 0))
  pub rest : (j : ℕ) → found ≤ j → j < b → get_or xs j 0 ≡ 0
  pub turn : InTurn g P s e k xs b tally

pub finding_start : {g : Network} {P : List ℕ} {s e k b : ℕ} {xs ys : List ℕ} → Blank xs 0 → Moved (node_count g) xs ys b → Finding g P s e k ys b 0 0
finding_start {g} {P} {b = b} {xs = xs} {ys = ys} blank t =
    record {
      low = omega arith;
      few = omega arith;
      sum = omega (arith, tallied_none P ys);
      early = λ i h. absurd (omega arith);
      some = λ i h. absurd (omega arith);
      run = λ i j h. absurd (omega arith);
      rest = λ j h l. t.before j l ∙ blank.zero j (omega arith);
      turn = turn_start (λ v l h. omega (arith, (label_back t v l h).is, blank.zero (b + v) (omega arith)));
    }

-- the answer, once k are found, or all; and their labels
module _ {g : Network} {P : List ℕ} {s e k b found tally : ℕ} {xs : List ℕ} (w : Finding g P s e k xs b found tally) where
  pub found_when : found ≤ node_count g → (k ≤ tally) ⊎ (length (in_order g P s e) ≤ tally) → FoundIn g P s e k xs b found tally
  unfolding nearest
  found_when many all =
      record {
        count = rw (length-take k (in_order g P s e)) (⊎_elim (λ a. omega (arith, w.low, w.turn.full)) (λ a. omega (arith, w.low, w.turn.full)) all);
        sum = w.sum;
        few = omega (arith, w.few, w.low);
        early = w.early;
        some = w.some;
        run = λ i j h a c l. rw (get_or-take k (in_order g P s e) j (0, 0) l) (w.run i j h a c l);
        rest = w.rest;
      }

  pub labels_when : (i : ℕ) → i < found → LabelAt (node_count g) xs b (get_or xs i 0) (dist g s (get_or xs i 0))
  labels_when i h =
      let j = tallied P xs i in
      let c : j < tallied P xs (suc i) = omega (arith, tallied_next P xs i, w.some i h) in
      let l : j < tally = omega (arith, w.sum, w.early i h, c, tallied_mono P xs (suc i) found (omega arith)) in
      let z = w.run i j h (omega arith) c (w.early i h) in
      w.turn.only (get_or xs i 0) (dist g s (get_or xs i 0)) (rw z at (first_in tally (in_order g P s e) j l (omega (arith, w.turn.full))))

-- what is found, with its labels
abbrev pub Answered : Network → List ℕ → ℕ → ℕ → ℕ → List ℕ → ℕ → ℕ → ℕ → Type 0
Answered g P s e k xs b found tally =
    FoundIn g P s e k xs b found tally × ((i : ℕ) → i < found → LabelAt (node_count g) xs b (get_or xs i 0) (dist g s (get_or xs i 0)))

-- it stays where the words before the area stay
pub found_kept : {g : Network} {P : List ℕ} {s e k b found tally : ℕ} {xs ys : List ℕ} → min k (node_count g) ≤ b → FoundIn g P s e k xs b found tally
    → Kept xs ys b → FoundIn g P s e k ys b found tally
found_kept {g} {P} {s} {e} {k} {b} {found} {tally} {xs} {ys} few w same =
    record {
      count = w.count;
      sum = rw (total found (omega arith)) w.sum;
      few = w.few;
      early = λ i h. rw (total i (omega arith)) (w.early i h);
      some = λ i h. rw (word i h) (w.some i h);
      run = λ i j h a c l. rw (word i h) (w.run i j h (rw (total i (omega arith)) at a) (rw (total (suc i) (omega arith)) at c) l);
      rest = λ j h l. same.words j l ∙ w.rest j h l;
    }
  where
    word : (i : ℕ) → i < found → get_or ys i 0 ≡ get_or xs i 0
    word i h = same.words i (omega (arith, w.few))

    total : (i : ℕ) → i ≤ found → tallied P ys i ≡ tallied P xs i
    total i h = tallied_same P xs ys i (λ j l. word j (omega arith))

-- the area is cleared
pub find_wiped : {g : Network} {P : List ℕ} {s e k b : ℕ} {r : Search} {near : Near} {xs ys zs : List ℕ} → min k (node_count g) ≤ b
    → FindLeft g P s e k xs ys b r → near.found ≡ r.found → near.tally ≡ r.tally → Wiped ys zs b → NodesLeft g P s e k xs zs b near
find_wiped few w f t c =
    record { size = c.frame.size ∙ w.size; found_in = rw (f, t) (found_kept few w.found_in c.frame); blank = c.blank }

-- ---- The found nodes, and the members of the answer.

module _ {g : Network} {P : List ℕ} {s e k b found tally : ℕ} {xs : List ℕ} (w : FoundIn g P s e k xs b found tally) where
  pub found_member : (i : ℕ) → i < found → Memᴰ (get_or xs i 0, dist g s (get_or xs i 0)) (nearest g P s e k)
  found_member i h =
      let j = tallied P xs i in
      let c : j < tallied P xs (suc i) = omega (arith, tallied_next P xs i, w.some i h) in
      let l : j < tally = omega (arith, w.sum, w.early i h, c, tallied_mono P xs (suc i) found (omega arith)) in
      rw (w.run i j h (omega arith) c (w.early i h)) at (member_at (0, 0) (nearest g P s e k) j (omega (arith, w.count)))

  pub member_found : (j : ℕ) → j < length (nearest g P s e k) → (i : ℕ) × (i < found) × (get_or xs i 0 ≡ (get_or (nearest g P s e k) j (0, 0)).0)
  member_found j h =
      let o = tallied_on P xs found j (omega (arith, w.count, w.sum)) in
      let z = w.run o.index j o.low o.from o.to (omega (arith, w.count, w.sum)) in
      (o.index, o.low, sym (ap (λ (y : ℕ × ℕ). y.0) z))

-- the words that a found node changes
module _ (ws : List ℕ) (b found v : ℕ) (h : found < b) (size : b ≤ length ws) where
  point_other : (j : ℕ) → j ≢ found → get_or (set ws found v) j 0 ≡ get_or ws j 0
  point_other j a = get_or-set_other ws found j v 0 a

  point_id : get_or (set ws found v) found 0 ≡ v
  point_id = get_or-set_same ws found v 0 (omega arith)

  point_beside : Beside ws (set ws found v) b
  point_beside = record { size = length-set ws found v; words = λ i a. point_other i (omega arith) }

  noted_within : {P zs : List ℕ} {r : ℕ} → Noted P ws zs found v r → Beside ws zs b
  noted_within {P} {zs} n =
      elim (dec_lt 0 (lockers P v)) [
        | yes m ↦ rw (n.point m).0 point_beside
        | no m ↦ rw (n.other (omega arith)).0 (record { size = refl; words = λ i a. refl })
      ]

module _ {g : Network} (ok : Accepted g) {P : List ℕ} {s e k b found tally : ℕ} {xs : List ℕ} {settled len : ℕ}
    (few : min k (node_count g) ≤ b) (many : found ≤ settled) (p : Progress g (one g s) All All xs b settled len) (w : Finding g P s e k xs b found tally) where
  pub found_nodes : found ≤ node_count g
  found_nodes = omega (arith, many, p.area.counted)

  -- all are found where no entry waits
  pub found_emptied : len ≡ 0 → e ≤ NONE → Answered g P s e k xs b found tally
  found_emptied z h =
      let all = turn_all w.turn (λ x q. search_finished ok p.area p.searched z (all_leads ok s) x tt (omega (arith, q.less))) in
      (found_when w found_nodes all, labels_when w)

  module _ {ys : List ℕ} {left l v u : ℕ} (t : Took (node_count g) xs ys b len left l v u) where
    exact : l ≡ dist g s v
    exact = took_exact ok p.area p.searched t (all_leads ok s) tt

    moved : Moved (node_count g) xs ys b
    moved = took_moved ok p.area p.searched t

    -- a law of the turns, where every node is seen
    earlier : (x : ℕ) → dist g s x ≢ NONE → (dist g s x < l) ⊎ ((dist g s x ≡ l) × (x < v)) → LabelAt (node_count g) xs b x (dist g s x)
    earlier x n h = turn_earlier ok (all_leads ok s) (λ x q. tt) p w.turn t x tt n h

    -- so it is where the one that is taken is no nearer than e
    pub found_far : e ≤ l → Answered g P s e k ys b found tally
    found_far h =
        let all = turn_all w.turn (λ x q. earlier x (omega (arith, q.less, took_small ok p t)) (inl (omega (arith, q.less)))) in
        let same : Kept xs ys b = record { size = moved.size; words = moved.before } in
        let a = found_when w found_nodes all in (
          found_kept few a same,
          λ i c.
              rw (same.words i (omega (arith, a.few, c)))
              (label_on moved (get_or xs i 0) (dist g s (get_or xs i 0)) (labels_when w i c)),
        )

    -- it is settled, and its arcs are followed: what is found then
    module _ {ws : List ℕ} {more : ℕ} (f : Followed g (settled_as (node_count g) ys b settled v l) ws b left more v l (length (neighbours_of g v)))
        (near : l < e) (place : tally < k) where
      frame : Kept xs ws b
      frame = frame_settled ok p t (all_leads ok s) f

      pub noted_size : b ≤ length ws
      noted_size = omega (arith, p.area.queue.room, frame.size)

      -- a word is left for it
      pub noted_place : found < b
      noted_place = omega (arith, w.few, place, many, took_place ok p t, few)

      pub noted_fits : found < length ws
      noted_fits = omega (arith, noted_place, noted_size)

      -- where it is noted, only words before the area change
      pub noted_beside : {zs : List ℕ} {r : ℕ} → Noted P ws zs found v r → Beside ws zs b
      noted_beside n = noted_within ws b found v noted_place noted_size n

      word : (i : ℕ) → i < found → get_or ws i 0 ≡ get_or xs i 0
      word i h = frame.words i (omega (arith, noted_place))

      total : (i : ℕ) → i ≤ found → tallied P ws i ≡ tallied P xs i
      total i h = tallied_same P xs ws i (λ j l. word j (omega arith))

      finding_other : lockers P v ≡ 0 → Finding g P s e k ws b found tally
      finding_other none =
          record {
            low = w.low;
            few = w.few;
            sum = rw (total found (omega arith)) w.sum;
            early = λ i h. rw (total i (omega arith)) (w.early i h);
            some = λ i h. rw (word i h) (w.some i h);
            run = λ i j h a c d. rw (word i h) (w.run i j h (rw (total i (omega arith)) at a) (rw (total (suc i) (omega arith)) at c) d);
            rest = λ j h a. frame.words j a ∙ w.rest j h a;
            turn = turn_other ok (all_leads ok s) (λ x q. tt) p w.turn t f.frame none;
          }

      module _ (mark : 0 < lockers P v) {r : ℕ} (count : r ≡ min k (tally + lockers P v)) where
        beside : Beside ws (set ws found v) b
        beside = point_beside ws b found v noted_place noted_size

        same : (j : ℕ) → j ≢ found → get_or (set ws found v) j 0 ≡ get_or ws j 0
        same = point_other ws b found v noted_place noted_size

        word_old : (i : ℕ) → i < found → get_or (set ws found v) i 0 ≡ get_or xs i 0
        word_old i h = same i (omega arith) ∙ word i h

        word_new : get_or (set ws found v) found 0 ≡ v
        word_new = point_id ws b found v noted_place noted_size

        total_old : (i : ℕ) → i ≤ found → tallied P (set ws found v) i ≡ tallied P xs i
        total_old i h = tallied_same P xs (set ws found v) i (λ j c. word_old j (omega arith))

        total_here : tallied P (set ws found v) found ≡ tally
        total_here = omega (arith, total_old found (omega arith), w.sum, place)

        total_new : tallied P (set ws found v) (suc found) ≡ tally + lockers P v
        total_new = omega (arith, tallied_next P (set ws found v) found, total_here, ap (λ (z : ℕ). lockers P z) word_new)

        finding_point : Finding g P s e k (set ws found v) b (suc found) r
        finding_point =
            record {
              low = omega (arith, count);
              few = omega (arith, count, w.few, place, mark);
              sum = omega (arith, count, total_new);
              early =
                  λ i h.
                  elim (ℕ_discrete i found) [
                    | yes q ↦ rw q (omega (arith, total_here, place))
                    | no n ↦ rw (total_old i (omega arith)) (w.early i (omega arith))
                  ];
              some =
                  λ i h.
                  elim (ℕ_discrete i found) [
                    | yes q ↦ rw (q, word_new) mark
                    | no n ↦ rw (word_old i (omega arith)) (w.some i (omega arith))
                  ];
              run = run;
              rest = λ j h a. same j (omega arith) ∙ frame.words j a ∙ w.rest j (omega arith) a;
              turn = turn_beside beside (turn_point ok (all_leads ok s) (λ x q. tt) p w.turn t f.frame exact mark near place count);
            }
          where
            run : (i j : ℕ) → i < suc found → tallied P (set ws found v) i ≤ j → j < tallied P (set ws found v) (suc i) → j < k
                → get_or (in_order g P s e) j (0, 0) ≡ (get_or (set ws found v) i 0, dist g s (get_or (set ws found v) i 0))
            run i j h a c d =
                elim (ℕ_discrete i found) [
                  | yes q ↦
                      rw (q, word_new)
                      (turn_next ok (all_leads ok s) (λ x q. tt) p w.turn t exact mark near place j
                      (omega (arith, total_here, ap (tallied P (set ws found v)) q))
                      (omega (arith, total_new, ap (λ (z : ℕ). tallied P (set ws found v) (suc z)) q))
                      ∙ ap (λ (z : ℕ). (v, z)) exact)
                  | no n ↦
                      rw (word_old i (omega arith))
                      (w.run i j (omega arith) (rw (total_old i (omega arith)) at a) (rw (total_old (suc i) (omega arith)) at c) d)
                ]

      pub finding_noted : {zs : List ℕ} {more-found r : ℕ} → Noted P ws zs found v more-found → r ≡ min k (tally + lockers P v)
          → Finding g P s e k zs b more-found r
      finding_noted {zs} {more-found} {r} n count =
          elim (dec_lt 0 (lockers P v)) [
            | yes m ↦ rw ((n.point m).0, (n.point m).1, add-one found) (finding_point m count)
            | no m ↦
                let z : lockers P v ≡ 0 = omega arith in
                let q : r ≡ tally = omega (arith, count, w.low) in
                rw ((n.other z).0, (n.other z).1, q) (finding_other z)
          ]

      -- no more nodes are found than are settled
      pub noted_few : {zs : List ℕ} {r : ℕ} → Noted P ws zs found v r → r ≤ settled + 1
      noted_few n =
          elim (dec_lt 0 (lockers P v)) [
            | yes m ↦ omega (arith, (n.point m).1, many)
            | no m ↦ omega (arith, (n.other (omega arith)).1, many)
          ]
