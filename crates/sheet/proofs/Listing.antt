-- A site's list is whole: each member is a node to which the site is as near as any, and when each member is followed there is no other such node.
-- Assumes nothing.
use Prim.Native.Nat.{ℕ, zero, suc, ◌+◌, ◌*◌, ◌≤◌, ◌<◌}
use mathlib.Core.Path.{◌≡◌, sym, ap, ◌∙◌}
use mathlib.Core.Bool.{true, not}
use mathlib.Core.Logic.{◌≢◌, ⊎_elim}
use mathlib.Core.List.{List}
use native.Mathlib.Decide.{ℕ_discrete}
use native.Mathlib.Omega.{arith}
use lib.Dec.{eqb}
use lib.ListN.{length, get_or}
use borrow.Author.Tests.{eq-eqb, ne_eqb, eqb-true, eqb-false, not-true}
use Rattle.network.specs.Network.{Network, Arc, node_count, neighbours_of}
use Rattle.network.specs.Accepted.{Accepted}
use Rattle.network.specs.Walk.{Walk, here, step}
use Rattle.network.specs.Distance.{NONE, dist}
use Rattle.network.specs.Points.{lockers}
use Rattle.network.proofs.Tests.{and_parts, and_intro}
use Rattle.network.proofs.Counts.{count_none}
use Rattle.network.proofs.Totals.{sum_none, sum_mono}
use Rattle.network.proofs.NodeArcs.{arc_source}
use Rattle.network.proofs.Ranges.{arc_at, arc_place}
use Rattle.network.proofs.NumberZero.{accepted_ranges}
use Rattle.network.proofs.Walks.{join, arc_walk}
use Rattle.network.proofs.Least.{distance}
use Rattle.network.proofs.Distances.{dist_self, dist_walk, dist_previous}
use Rattle.expansion.specs.Expand.{label_in}
use Rattle.sheet.specs.List.{is_member, ListOf, ListGrown, CanTakeMember, MemberTaken, Keeps, BehindMember, CanFollowMember, MemberFollowed, CanList, is_nearest, ListLeft}
use Rattle.sheet.specs.declared.list.Members.{Members}
use Rattle.sheet.proofs.Growing.{label_kept, list_few, grown_trans, neighbour_inside}

-- q is as near to v as v's label says
pub record IsNear (g : Network) (xs : List ℕ) (q v : ℕ) : Type 0 where
  pub reach : dist g q v ≢ NONE
  pub is : label_in (node_count g) xs 0 v ≡ dist g q v

near_passes : {g : Network} {xs : List ℕ} {q v : ℕ} → IsNear g xs q v → is_nearest g xs q v ≡ true
near_passes {g} {xs} {q} {v} d =
    and_intro (not (eqb (dist g q v) NONE)) (eqb (label_in (node_count g) xs 0 v) (dist g q v)) (ap not (ne_eqb (dist g q v) NONE d.reach))
    (eq-eqb (label_in (node_count g) xs 0 v) (dist g q v) d.is)

passes_near : {g : Network} {xs : List ℕ} {q v : ℕ} → is_nearest g xs q v ≡ true → IsNear g xs q v
passes_near {g} {xs} {q} {v} e =
    let p = and_parts (not (eqb (dist g q v) NONE)) (eqb (label_in (node_count g) xs 0 v) (dist g q v)) e in
    record {
      reach = eqb-false (dist g q v) NONE (not-true (eqb (dist g q v) NONE) p.0);
      is = eqb-true (label_in (node_count g) xs 0 v) (dist g q v) p.1;
    }

-- the list of q, which is empty in xs, has `size` nodes in ys, each of them near, and the first i are followed
pub record Collecting (g : Network) (xs ys H : List ℕ) (q size sum i : ℕ) : Type 0 where
  pub grows : ListGrown (node_count g) H xs ys q 0 (record { size = size; sum = sum })
  pub low : i ≤ size
  pub begins : is_member (node_count g) ys q q ≡ true
  pub sound : (v : ℕ) → v < node_count g → is_member (node_count g) ys q v ≡ true → IsNear g xs q v
  pub there : (k : ℕ) → k < i → (j : ℕ) → j < length (neighbours_of g (get_or ys (5 * node_count g + k) 0)) → Keeps g xs (get_or ys (5 * node_count g + k) 0) j
      → is_member (node_count g) ys q (get_or (neighbours_of g (get_or ys (5 * node_count g + k) 0)) j 0) ≡ true

module _ {g : Network} {xs : List ℕ} {q : ℕ} (can : CanList g xs q) where
  abbrev n : ℕ
  n = node_count g

  abbrev label : ℕ → ℕ
  label v = label_in (node_count g) xs 0 v

  abbrev ok : Accepted g
  ok = can.accepted

  -- ---- Labels along a walk.
  along : {u v w : ℕ} → Arc g u v w → label u ≢ NONE → (label v ≢ NONE) × (label v ≤ label u + w)
  along {u} {v} {w} r m =
      let a = can.labels.along r m in
      let f = can.labels.fits u (arc_source r) m in
      let h = ok.weight_high r in
      (λ e. omega arith, a)

  label_walk : {u v s : ℕ} → Walk g u v s → label u ≢ NONE → (label v ≢ NONE) × (label v ≤ label u + s)
  label_walk here m = (m, omega arith)
  label_walk (step r k) m =
      let a = along r m in
      let b = label_walk k a.0 in
      (b.0, omega (arith, a.1, b.1))

  -- no label is above the distance from q
  label_least : (v : ℕ) → dist g q v ≢ NONE → (label v ≢ NONE) × (label v ≤ dist g q v)
  label_least v m =
      let b = label_walk ((distance ok q v).walk m) (λ e. omega (arith, can.labels.own)) in
      (b.0, omega (arith, b.1, can.labels.own))

  -- ---- Near nodes along the arcs that keep to the labels.
  near_own : IsNear g xs q q
  near_own = let s = dist_self ok q in record { reach = λ e. omega arith; is = can.labels.own ∙ sym s }

  near_next : {u v w : ℕ} → Arc g u v w → IsNear g xs q u → label v ≡ label u + w → IsNear g xs q v
  near_next {u} {v} r d e =
      let s = dist_walk ok (join ((distance ok q u).walk d.reach) (arc_walk r)) in
      record { reach = s.some; is = omega (arith, e, d.is, s.most, (label_least v s.some).1) }

  near_previous : {u v w : ℕ} → Arc g u v w → dist g q u ≢ NONE → dist g q v ≡ dist g q u + w → IsNear g xs q v → IsNear g xs q u × (label v ≡ label u + w)
  near_previous {u} {v} r m e d =
      let a = label_least u m in
      let s : label u ≡ dist g q u = omega (arith, a.1, (along r a.0).1, d.is, e) in
      (record { reach = m; is = s }, omega (arith, d.is, e))

  -- ---- The list begins empty, then with q.
  marked_not : (v : ℕ) → v < n → is_member n xs q v ≡ true → ⊥
  marked_not v h m = omega (arith, can.marks v h, eqb-true (get_or xs (4 * n + v) 0) (suc q) m)

  empty : {H : List ℕ} → ListOf n H xs q 0 0
  empty {H} =
      record {
        few = ok.few;
        room = can.room;
        site = can.site;
        counted = sym (count_none (is_member n xs q) n marked_not);
        summed = sym (sum_none (is_member n xs q) (lockers H) n (λ v h m. absurd (marked_not v h m)));
        low = omega arith;
        member = λ i h. absurd (omega arith);
        placed = λ v h m. absurd (marked_not v h m);
      }

  pub can_begin : {H : List ℕ} → CanTakeMember n xs H q q 0 0
  can_begin = record { list = empty; inside = can.site }

  pub listing_start : {H ys : List ℕ} {r : Members} → MemberTaken n xs ys H q q 0 r → Collecting g xs ys H q r.size r.sum 0
  listing_start t =
      record {
        grows = t.grows;
        low = omega arith;
        begins = t.here;
        sound = λ v h m. ⊎_elim (λ b. absurd (marked_not v h b)) (λ e. rw e near_own) (t.only v h m);
        there = λ k h. absurd (omega arith);
      }

  -- ---- The next member is followed.
  module _ {H ys : List ℕ} {size sum i : ℕ} (l : Collecting g xs ys H q size sum i) where
    pub listing_few : size ≤ n
    listing_few = list_few l.grows.list

    module _ (h : i < size) where
      abbrev v : ℕ
      v = get_or ys (5 * node_count g + i) 0

      inside : v < n
      inside = (l.grows.list.member i h).0

      near : IsNear g xs q v
      near = l.sound v inside (l.grows.list.member i h).1

      pub can_follow : CanFollowMember g ys H q v size sum
      can_follow =
          record {
            accepted = ok;
            list = l.grows.list;
            inside = inside;
            label = omega (arith, label_kept l.grows.frame v inside, near.is, (distance ok q v).limit near.reach);
          }

      -- the labels of an arc's two nodes are those of xs
      arc_labels : (j : ℕ) → j < length (neighbours_of g v)
          → (label_in n ys 0 v ≡ label v) × (label_in n ys 0 (get_or (neighbours_of g v) j 0) ≡ label (get_or (neighbours_of g v) j 0))
      arc_labels j a =
          (label_kept l.grows.frame v inside, label_kept l.grows.frame (get_or (neighbours_of g v) j 0) (neighbour_inside ok v j inside a))

      keeps_now : (j : ℕ) → j < length (neighbours_of g v) → Keeps g xs v j → Keeps g ys v j
      keeps_now j a k = omega (arith, k, arc_labels j a)

      behind_near : {u : ℕ} → BehindMember g ys v (length (neighbours_of g v)) u → IsNear g xs q u
      behind_near b =
          rw b.leads at
          (near_next (arc_at (accepted_ranges ok) v inside b.arc b.low) near (omega (arith, b.keeps, arc_labels b.arc b.low)))

      pub listing_more : {zs : List ℕ} {r : Members} → MemberFollowed g ys zs H q v size r (length (neighbours_of g v)) → Collecting g xs zs H q r.size r.sum (i + 1)
      listing_more {zs} f =
          record {
            grows = grown_trans l.grows f.grows;
            low = omega (arith, f.grows.grown);
            begins = f.grows.stays q can.site l.begins;
            sound = λ u a m. ⊎_elim (λ b. l.sound u a b) (λ b. behind_near b) (f.only u a m);
            there =
                λ k a.
                elim (ℕ_discrete k i) [
                  | yes e ↦
                      rw (e, f.grows.places i h) (λ j b c. f.there j b (keeps_now j b c))
                  | no o ↦
                      rw (f.grows.places k (omega arith))
                      (λ j b c. f.grows.stays (get_or (neighbours_of g (get_or ys (5 * n + k) 0)) j 0) (neighbour_inside ok (get_or ys (5 * n + k) 0) j (l.grows.list.member k (omega arith)).0 b) (l.there k (omega arith) j b c))
                ];
          }

    -- ---- Each member is followed: no node is missing.
    module _ (all : size ≤ i) where
      complete : (bound v : ℕ) → v < n → dist g q v < bound → IsNear g xs q v → is_member n ys q v ≡ true
      complete zero v h b d = absurd (omega arith)
      complete (suc bound) v h b d =
          elim (ℕ_discrete v q) [
            | yes e ↦ ap (is_member n ys q) e ∙ l.begins
            | no o ↦
                let p = dist_previous ok q v o d.reach in
                let u = near_previous p.arc p.reach p.sum d in
                let m = complete bound p.from (arc_source p.arc) (omega (arith, p.sum, ok.weight_low p.arc)) u.0 in
                let a = l.grows.list.placed p.from (arc_source p.arc) m in
                let x = arc_place (accepted_ranges ok) p.arc in
                ap (is_member n ys q) (sym x.leads)
                ∙ (rw a.is at (l.there a.place (omega (arith, a.low)))) x.at x.low (rw (x.leads, x.weighs) u.1)
          ]

      pub listing_done : ListLeft g xs ys H q sum
      listing_done =
          record {
            frame = l.grows.frame;
            marks = λ u h. l.grows.marks u h (omega (arith, can.marks u h));
            summed =
                omega (
                  arith,
                  l.grows.list.summed,
                  sum_mono (is_member n ys q) (is_nearest g xs q) (lockers H) n (λ v h m. near_passes (l.sound v h m)),
                  sum_mono (is_nearest g xs q) (is_member n ys q) (lockers H) n (λ v h m. complete (suc (dist g q v)) v h (omega arith) (passes_near m)),
                );
          }
