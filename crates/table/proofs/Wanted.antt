-- The entry that a short row wants: of the node with at most K - 1 before it and more at or before it. There is one where a row lacks one of a reached
-- node, it is only one, and with it the row is whole; where there is none, the row is whole already.
-- Assumes nothing.
use Prim.Native.Nat.{ℕ, zero, suc, ◌+◌, ◌-◌, ◌≤◌, ◌<◌, min}
use mathlib.Core.Path.{◌≡◌, refl, sym, ap, ◌∙◌}
use mathlib.Core.Logic.{◌≢◌, ⊎_elim}
use mathlib.Core.List.Memᴰ
use mathlib.Core.List.{List, [], ◌∷◌, ◌++◌, append-nil, Memᴰ}
use native.Mathlib.Nat.{not-suc-le-zero, le_of_suc-le-suc}
use native.Mathlib.Decide.{ℕ_discrete, dec_lt, dec_le}
use native.Mathlib.Omega.{arith}
use lib.Dec.{eqb}
use lib.ListN.{length, get_or, set, take, replicate}
use lib.Seq.{length-take-le}
use borrow.Author.Tests.{ne_eqb}
use Rattle.network.specs.Network.{Network, node_count}
use Rattle.network.specs.Accepted.{Accepted}
use Rattle.network.specs.Distance.{NONE, dist}
use Rattle.network.specs.Count.{bit}
use Rattle.network.specs.Points.{lockers}
use Rattle.network.specs.Nearest.{key, insert, by_distance, nearest}
use Rattle.network.specs.Order.{before, Nearer, times}
use Rattle.network.specs.Rows.{pad, row}
use Rattle.network.proofs.Counts.{member_at}
use Rattle.network.proofs.Ordered.{below, below_most, at_above, place_own}
use Rattle.network.proofs.Insert.{insert_nil, insert_behind, insert_before}
use Rattle.network.proofs.Rank.{key_other, passes_nearer, before_up, before_step}
use Rattle.network.proofs.Rows.{by_below, by_only, all_ordered, nearest_ordered, nearest_small, nearest_below, nearest_times, nearest_unique, padding}
use Rattle.table.specs.Mend.{Wants}

-- ---- How often a node stands in a padded list.
times_append : (q : ℕ) (xs ys : List (ℕ × ℕ)) → times q (xs ++ ys) ≡ times q xs + times q ys
times_append q [] ys = omega arith
times_append q (x ∷ xs) ys = omega (arith, times_append q xs ys)

times_padding : (n p : ℕ) → p ≢ NONE → times p (replicate n (NONE, NONE)) ≡ 0
times_padding zero p m = refl
times_padding (suc n) p m = rw (ne_eqb NONE p (λ e. m (sym e))) (omega (arith, times_padding n p m))

pub times_pad : (K p : ℕ) (xs : List (ℕ × ℕ)) → p ≢ NONE → times p (pad K xs) ≡ times p xs
times_pad K p xs m = omega (arith, times_append p xs (replicate (K - length xs) (NONE, NONE)), times_padding (K - length xs) p m)

pub times_insert : (p : ℕ) (x : ℕ × ℕ) (ys : List (ℕ × ℕ)) → times p (insert x ys) ≡ times p ys + bit (eqb x.0 p)
times_insert p x [] = rw insert_nil
times_insert p x (y ∷ ys) =
    elim (dec_le (key y) (key x)) [
      | yes h ↦ rw (insert_behind x y ys h) (omega (arith, times_insert p x ys))
      | no n ↦ rw (insert_before x y ys (omega arith)) (omega arith)
    ]

-- ---- The last place of a row.
snoc_take : (k : ℕ) (xs : List (ℕ × ℕ)) → k < length xs → take (suc k) xs ≡ take k xs ++ get_or xs k (0, 0) ∷ []
snoc_take k [] h = absurd (not-suc-le-zero h)
snoc_take zero (x ∷ xs) h = refl
snoc_take (suc k) (x ∷ xs) h = ap (λ l. x ∷ l) (snoc_take k xs (le_of_suc-le-suc h))

set_snoc : (k : ℕ) (xs : List (ℕ × ℕ)) (y z : ℕ × ℕ) → k < length xs → set (take k xs ++ y ∷ []) k z ≡ take k xs ++ z ∷ []
set_snoc k [] y z h = absurd (not-suc-le-zero h)
set_snoc zero (x ∷ xs) y z h = refl
set_snoc (suc k) (x ∷ xs) y z h = ap (λ l. x ∷ l) (set_snoc k xs y z (le_of_suc-le-suc h))

set_last : (k : ℕ) (xs : List (ℕ × ℕ)) → k < length xs → set (pad (suc k) (take k xs)) k (get_or xs k (0, 0)) ≡ pad (suc k) (take (suc k) xs)
set_last k xs h =
    let a : suc k - length (take k xs) ≡ 1 = omega (arith, length-take-le k xs (omega arith)) in
    let b : suc k - length (take (suc k) xs) ≡ 0 = omega (arith, length-take-le (suc k) xs h) in
    ap (λ n. set (take k xs ++ replicate n (NONE, NONE)) k (get_or xs k (0, 0))) a
    ∙ set_snoc k xs (NONE, NONE) (get_or xs k (0, 0)) h
    ∙ sym (ap (λ n. take (suc k) xs ++ replicate n (NONE, NONE)) b ∙ append-nil (take (suc k) xs) ∙ snoc_take k xs h)

-- ---- A member of a padded list that is no padding.
pub pad_member : (K p d : ℕ) (xs : List (ℕ × ℕ)) → p ≢ NONE → Memᴰ (p, d) (pad K xs) → Memᴰ (p, d) xs
pad_member K p d xs n m =
    ⊎_elim
    (λ l. l)
    (λ r. absurd (n (ap (λ (x : ℕ × ℕ). x.0) (padding (K - length xs) (NONE, NONE) (p, d) r))))
    (Memᴰ.append_cases xs m)

-- the wanted point comes no later than a point that the row lacks
pub record WantedBefore (g : Network) (Q : List ℕ) (K i p : ℕ) : Type 0 where
  pub point : ℕ
  pub wants : Wants g Q K i point
  pub first : key (point, dist g i point) ≤ key (p, dist g i p)

module _ {g : Network} (ok : Accepted g) (Q : List ℕ) (K i : ℕ) where
  abbrev all : List (ℕ × ℕ)
  all = by_distance g Q i NONE (node_count g)

  rank_below : (k : ℕ) → before g Q i NONE k ≡ below k all
  unfolding before
  rank_below k = sym (by_below g Q i NONE k (node_count g))

  -- the node at place K - 1 is wanted
  at_rank : K - 1 < length all → (z : ℕ × ℕ) → get_or all (K - 1) (0, 0) ≡ z → Wants g Q K i z.0 × (z.1 ≡ dist g i z.0)
  at_rank long z e =
      let m = rw e at (member_at (0, 0) all (K - 1) long) in
      let b = by_only g Q i NONE (node_count g) z m in
      let k : key (z.0, dist g i z.0) ≡ key z = omega (arith, b.far) in (
        record {
          nearer = passes_nearer b.low b.passes;
          low = omega (arith, ap (before g Q i NONE) k, rank_below (key z), not_above (key z) (omega (arith, ap key e)));
          high = omega (arith, ap (λ n. before g Q i NONE (suc n)) k, rank_below (suc (key z)), ap (λ y. below (suc (key y)) all) e, place_own all (all_ordered g Q i NONE) (K - 1) long);
        },
        b.far,
      )
    where
      not_above : (n : ℕ) → n ≤ key (get_or all (K - 1) (0, 0)) → below n all ≤ K - 1
      not_above n h =
          elim (dec_lt (K - 1) (below n all)) [
            | yes l ↦ absurd (omega (arith, at_above n all (all_ordered g Q i NONE) (K - 1) l))
            | no m ↦ omega arith
          ]

  -- a node of which the row lacks one: the wanted node comes no later
  pub wanted : {p : ℕ} → Nearer g Q i NONE p → K - 1 < before g Q i NONE (suc (key (p, dist g i p))) → WantedBefore g Q K i p
  wanted {p} r h = from (get_or all (K - 1) (0, 0)) refl
    where
      up : K - 1 < below (suc (key (p, dist g i p))) all
      up = omega (arith, h, rank_below (suc (key (p, dist g i p))))

      long : K - 1 < length all
      long = omega (arith, up, below_most (suc (key (p, dist g i p))) all)

      from : (z : ℕ × ℕ) → get_or all (K - 1) (0, 0) ≡ z → WantedBefore g Q K i p
      from z e =
          let u = at_rank long z e in
          record {
            point = z.0;
            wants = u.0;
            first = omega (arith, at_above (suc (key (p, dist g i p))) all (all_ordered g Q i NONE) (K - 1) up, ap key e, u.1);
          }

  -- there is only one
  less_rank : {p q : ℕ} → Wants g Q K i p → Wants g Q K i q → key (p, dist g i p) < key (q, dist g i q) → ⊥
  less_rank {p} {q} a b l =
      omega (arith, a.high, b.low, before_up g Q i NONE (suc (key (p, dist g i p))) (key (q, dist g i q)) l)

  pub wants_same : {p q : ℕ} → Wants g Q K i p → Wants g Q K i q → p ≡ q
  wants_same {p} {q} a b =
      elim (ℕ_discrete p q) [
        | yes e ↦ e
        | no n ↦
            let k = key_other (p, dist g i p) (q, dist g i q) (omega (arith, a.nearer.inside, ok.few)) (omega (arith, b.nearer.inside, ok.few)) n in
            elim (dec_lt (key (p, dist g i p)) (key (q, dist g i q))) [
              | yes l ↦ absurd (less_rank a b l)
              | no m ↦ absurd (less_rank b a (omega (arith, k)))
            ]
      ]

  short_times : {p : ℕ} → Nearer g Q i NONE p
      → times p (pad K (nearest g Q i NONE (K - 1))) + min (K - 1) (before g Q i NONE (key (p, dist g i p))) ≡ min (K - 1) (before g Q i NONE (suc (key (p, dist g i p))))
  short_times {p} r =
      omega (
        arith,
        times_pad K p (nearest g Q i NONE (K - 1)) (omega (arith, r.inside, ok.few)),
        nearest_times ok Q i NONE (K - 1) p r,
        before_step ok Q i NONE p r,
      )

  -- a short row lacks one of it; and of what a short row lacks one there are more than K - 1 at or before
  pub wants_lacks : {p : ℕ} → Wants g Q K i p → times p (pad K (nearest g Q i NONE (K - 1))) < lockers Q p
  wants_lacks {p} w = omega (arith, short_times w.nearer, w.low, w.high, before_step ok Q i NONE p w.nearer)

  pub lacks_rank : {p : ℕ} → Nearer g Q i NONE p → times p (pad K (nearest g Q i NONE (K - 1))) < lockers Q p → K - 1 < before g Q i NONE (suc (key (p, dist g i p)))
  lacks_rank {p} r l = omega (arith, short_times r, before_step ok Q i NONE p r)

  -- with it the row is whole
  last_place : {p : ℕ} → Wants g Q K i p → K - 1 < length all → get_or all (K - 1) (0, 0) ≡ (p, dist g i p)
  last_place {p} w long = from (get_or all (K - 1) (0, 0)) refl
    where
      from : (z : ℕ × ℕ) → get_or all (K - 1) (0, 0) ≡ z → get_or all (K - 1) (0, 0) ≡ (p, dist g i p)
      from z e =
          let u = at_rank long z e in
          let s = wants_same u.0 w in
          e ∙ λ j. (s j, (u.1 ∙ ap (dist g i) s) j)

  pub taken_whole : {p : ℕ} → 1 ≤ K → Wants g Q K i p → set (pad K (nearest g Q i NONE (K - 1))) (K - 1) (p, dist g i p) ≡ row g Q K i
  unfolding nearest row
  taken_whole {p} h w =
      let b = rank_below (suc (key (p, dist g i p))) in
      let long : K - 1 < length all = omega (arith, w.high, b, below_most (suc (key (p, dist g i p))) all) in
      let q : suc (K - 1) ≡ K = omega arith in
      let l = rw q at (set_last (K - 1) all long) in
      ap (set (pad K (take (K - 1) all)) (K - 1)) (sym (last_place w long)) ∙ l

  -- where nothing is wanted it is whole already
  pub short_whole : 1 ≤ K → ((p : ℕ) → Wants g Q K i p → ⊥) → pad K (nearest g Q i NONE (K - 1)) ≡ row g Q K i
  unfolding row
  short_whole h n =
      ap (pad K)
      (nearest_unique ok Q i NONE K (nearest g Q i NONE (K - 1)) (nearest_ordered ok Q i NONE (K - 1)) (nearest_small ok Q i NONE (K - 1))
      (λ l. omega (arith, nearest_below ok Q i NONE (K - 1) l, rank_below l, below_most l all, short)))
    where
      short : length all ≤ K - 1
      short =
          elim (dec_lt (K - 1) (length all)) [
            | yes long ↦ absurd (n (get_or all (K - 1) (0, 0)).0 (at_rank long (get_or all (K - 1) (0, 0)) refl).0)
            | no m ↦ omega arith
          ]
