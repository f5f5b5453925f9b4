-- A list grows: a node is taken in, one that it has or a new one, and the arcs of a member are followed one by one.
-- Assumes nothing.
use Prim.Native.Nat.{ℕ, suc, ◌+◌, ◌*◌, ◌≤◌, ◌<◌}
use mathlib.Core.Path.{◌≡◌, refl, sym, ap, ◌∙◌}
use mathlib.Core.Bool.{true, false}
use mathlib.Core.Logic.{◌≢◌, ◌⊎◌, inl, inr, ⊎_elim}
use mathlib.Core.List.{List}
use native.Mathlib.Decide.{ℕ_discrete}
use native.Mathlib.Omega.{arith}
use lib.Dec.{eqb}
use lib.ListN.{length, get_or, set, length-set}
use lib.Seq.{get_or-set_same, get_or-set_other}
use borrow.Author.Tests.{eq-eqb, ne_eqb, eqb-true}
use Rattle.network.specs.Network.{Network, node_count, neighbours_of}
use Rattle.network.specs.Accepted.{Accepted}
use Rattle.network.specs.Count.{bit, count, weighed, sum_over}
use Rattle.network.specs.Points.{lockers}
use Rattle.network.proofs.Counts.{count_all, count_few, count_mono, without, without_other, count_without}
use Rattle.network.proofs.Totals.{total_at, total_bits}
use Rattle.network.proofs.Ranges.{arc_at}
use Rattle.network.proofs.NumberZero.{accepted_ranges}
use Rattle.expansion.specs.Area.{Kept}
use Rattle.expansion.specs.Expand.{label_in, word_distance}
use Rattle.expansion.proofs.AreaLaws.{kept_same, kept_trans}
use Rattle.sheet.specs.List.{is_member, AmongMembers, ListOf, ListGrown, MemberTaken, Keeps, BehindMember, MemberFollowed}
use Rattle.sheet.specs.declared.list.Members.{Members}

-- the labels stand before the marks
pub label_kept : {n : ℕ} {xs ys : List ℕ} → Kept xs ys (4 * n) → (v : ℕ) → v < n → label_in n ys 0 v ≡ label_in n xs 0 v
label_kept {n} k v h = ap (word_distance n) (k.words (0 + v) (omega arith))

-- no more members than nodes
pub list_few : {n : ℕ} {H xs : List ℕ} {q size sum : ℕ} → ListOf n H xs q size sum → size ≤ n
list_few {n} {xs = xs} {q} p = omega (arith, p.counted, count_few (is_member n xs q) n)

-- ---- Lists grow one after the other.
pub grown_none : {n : ℕ} {H xs : List ℕ} {q size sum : ℕ} → ListOf n H xs q size sum → ListGrown n H xs xs q size (record { size = size; sum = sum })
grown_none p =
    record { frame = kept_same; list = p; grown = omega arith; stays = λ u h e. e; places = λ i h. refl; marks = λ u h e. e }

pub grown_trans : {n : ℕ} {H xs ys zs : List ℕ} {q size : ℕ} {r t : Members} → ListGrown n H xs ys q size r → ListGrown n H ys zs q r.size t
    → ListGrown n H xs zs q size t
grown_trans a b =
    record {
      frame = kept_trans a.frame b.frame;
      list = b.list;
      grown = omega (arith, a.grown, b.grown);
      stays = λ u h e. b.stays u h (a.stays u h e);
      places = λ i h. b.places i (omega (arith, a.grown)) ∙ a.places i h;
      marks = λ u h e. b.marks u h (a.marks u h e);
    }

-- ---- A node is taken in.
module _ {n : ℕ} {H xs : List ℕ} {q size sum : ℕ} (p : ListOf n H xs q size sum) (v : ℕ) where
  pub taken_before : get_or xs (4 * n + v) 0 ≡ suc q → MemberTaken n xs xs H q v size (record { size = size; sum = sum })
  taken_before e =
      record { grows = grown_none p; here = eq-eqb (get_or xs (4 * n + v) 0) (suc q) e; only = λ u h m. inl m }

  module _ (inside : v < n) (fresh : get_or xs (4 * n + v) 0 ≢ suc q) where
    pub list_room : size < n
    list_room =
        omega (
          arith,
          p.counted,
          count_all n,
          count_without (λ _. true) v n inside refl,
          count_mono (is_member n xs q) (without (λ _. true) v) n
              (λ x l m. without_other (λ _. true) v x (λ e. fresh (ap (λ (z : ℕ). get_or xs (4 * n + z) 0) (sym e) ∙ eqb-true (get_or xs (4 * n + x) 0) (suc q) m))),
        )

    abbrev after : List ℕ
    after = set (set xs (4 * n + v) (suc q)) (5 * n + size) v

    other : (j : ℕ) → j ≢ 4 * n + v → j ≢ 5 * n + size → get_or after j 0 ≡ get_or xs j 0
    other j a b =
        get_or-set_other (set xs (4 * n + v) (suc q)) (5 * n + size) j v 0 b ∙ get_or-set_other xs (4 * n + v) j (suc q) 0 a

    mark : get_or after (4 * n + v) 0 ≡ suc q
    mark =
        get_or-set_other (set xs (4 * n + v) (suc q)) (5 * n + size) (4 * n + v) v 0 (omega arith)
        ∙ get_or-set_same xs (4 * n + v) (suc q) 0 (omega (arith, p.room))

    place : get_or after (5 * n + size) 0 ≡ v
    place = get_or-set_same (set xs (4 * n + v) (suc q)) (5 * n + size) v 0 (simp length-set (omega (arith, p.room, list_room)))

    here : is_member n after q v ≡ true
    here = eq-eqb (get_or after (4 * n + v) 0) (suc q) mark

    same_mark : (u : ℕ) → u < n → u ≢ v → is_member n after q u ≡ is_member n xs q u
    same_mark u h m = ap (λ (z : ℕ). eqb z (suc q)) (other (4 * n + u) (omega arith) (omega arith))

    not_before : is_member n xs q v ≡ false
    not_before = ne_eqb (get_or xs (4 * n + v) 0) (suc q) fresh

    stays : (u : ℕ) → u < n → is_member n xs q u ≡ true → is_member n after q u ≡ true
    stays u h m =
        elim (ℕ_discrete u v) [
          | yes e ↦ ap (is_member n after q) e ∙ here
          | no o ↦ same_mark u h o ∙ m
        ]

    only : (u : ℕ) → u < n → is_member n after q u ≡ true → (is_member n xs q u ≡ true) ⊎ (u ≡ v)
    only u h m =
        elim (ℕ_discrete u v) [
          | yes e ↦ inr e
          | no o ↦ inl (sym (same_mark u h o) ∙ m)
        ]

    places : (i : ℕ) → i < size → get_or after (5 * n + i) 0 ≡ get_or xs (5 * n + i) 0
    places i h = other (5 * n + i) (omega arith) (omega arith)

    counted : size + 1 ≡ count (is_member n after q) n
    counted =
        omega (
          arith,
          p.counted,
          total_at (λ x. bit (is_member n xs q x)) (λ x. bit (is_member n after q x)) v n inside (λ x i m. ap bit (same_mark x i m)),
          total_bits (is_member n xs q) n,
          total_bits (is_member n after q) n,
          ap bit not_before,
          ap bit here,
        )

    summed : sum + lockers H v ≡ sum_over (is_member n after q) (lockers H) n
    summed =
        omega (
          arith,
          p.summed,
          total_at (λ x. weighed (is_member n xs q x) (lockers H x)) (λ x. weighed (is_member n after q x) (lockers H x)) v n inside
              (λ x i m. ap (λ b. weighed b (lockers H x)) (same_mark x i m)),
          ap (λ b. weighed b (lockers H v)) not_before,
          ap (λ b. weighed b (lockers H v)) here,
        )

    member : (i : ℕ) → i < size + 1 → (get_or after (5 * n + i) 0 < n) × (is_member n after q (get_or after (5 * n + i) 0) ≡ true)
    member i h =
        elim (ℕ_discrete i size) [
          | yes e ↦
              let w = ap (λ (z : ℕ). get_or after (5 * n + z) 0) e ∙ place in (omega arith, ap (is_member n after q) w ∙ here)
          | no o ↦
              let l : i < size = omega arith in
              let w = places i l in
              let m = p.member i l in
              (omega (arith, m.0), ap (is_member n after q) w ∙ stays (get_or xs (5 * n + i) 0) m.0 m.1)
        ]

    placed : (u : ℕ) → u < n → is_member n after q u ≡ true → AmongMembers n after (size + 1) u
    placed u h m =
        ⊎_elim
        (λ e. let a = p.placed u h e in record { place = a.place; low = omega (arith, a.low); is = places a.place a.low ∙ a.is })
        (λ e. record { place = size; low = omega arith; is = place ∙ sym e })
        (only u h m)

    pub taken_new : lockers H v ≤ 255 → MemberTaken n xs (set (set xs (4 * n + v) (suc q)) (5 * n + size) v) H q v size (record { size = size + 1; sum = sum + lockers H v })
    taken_new byte =
        record {
          grows = record {
            frame = record {
              size = simp length-set refl;
              words = λ i h. other i (omega arith) (omega arith);
            };
            list = record {
              few = p.few;
              room = simp length-set p.room;
              site = p.site;
              counted = counted;
              summed = summed;
              low = omega (arith, p.low);
              member = member;
              placed = placed;
            };
            grown = omega arith;
            stays = stays;
            places = places;
            marks =
                λ u h e.
                elim (ℕ_discrete u v) [
                  | yes o ↦ omega (arith, ap (λ (z : ℕ). get_or after (4 * n + z) 0) o, mark)
                  | no o ↦ omega (arith, other (4 * n + u) (omega arith) (omega arith))
                ];
          };
          here = here;
          only = only;
        }

-- ---- The arcs of a member are followed.
pub neighbour_inside : {g : Network} → Accepted g → (v j : ℕ) → v < node_count g → j < length (neighbours_of g v) → get_or (neighbours_of g v) j 0 < node_count g
neighbour_inside ok v j h l = ok.leads_in (arc_at (accepted_ranges ok) v h j l)

pub followed_none : (g : Network) {H xs : List ℕ} {q size sum : ℕ} (v : ℕ) → ListOf (node_count g) H xs q size sum
    → MemberFollowed g xs xs H q v size (record { size = size; sum = sum }) 0
followed_none g v p = record { grows = grown_none p; there = λ j h. absurd (omega arith); only = λ u h m. inl m }

-- one arc more: it is not of the list's kind, or its end is taken in
module _ {g : Network} {xs ys H : List ℕ} {q v size : ℕ} {r : Members} {j : ℕ} (f : MemberFollowed g xs ys H q v size r j) where
  further : {u : ℕ} → BehindMember g xs v j u → BehindMember g xs v (j + 1) u
  further b = record { arc = b.arc; low = omega (arith, b.low); leads = b.leads; keeps = b.keeps }

  pub followed_past : (Keeps g xs v j → ⊥) → MemberFollowed g xs ys H q v size r (j + 1)
  followed_past k =
      record {
        grows = f.grows;
        there =
            λ i h e.
            elim (ℕ_discrete i j) [
              | yes o ↦ absurd (k (rw o at e))
              | no o ↦ f.there i (omega arith) e
            ];
        only = λ u h m. ⊎_elim inl (λ b. inr (further b)) (f.only u h m);
      }

  pub followed_more : {zs : List ℕ} {t : Members} → Accepted g → v < node_count g → j < length (neighbours_of g v) → Keeps g xs v j
      → MemberTaken (node_count g) ys zs H q (get_or (neighbours_of g v) j 0) r.size t → MemberFollowed g xs zs H q v size t (j + 1)
  followed_more ok inside low k t =
      record {
        grows = grown_trans f.grows t.grows;
        there =
            λ i h e.
            elim (ℕ_discrete i j) [
              | yes o ↦ rw o t.here
              | no o ↦ t.grows.stays (get_or (neighbours_of g v) i 0) (neighbour_inside ok v i inside (omega arith)) (f.there i (omega arith) e)
            ];
        only =
            λ u h m.
            ⊎_elim
            (λ b. ⊎_elim inl (λ a. inr (further a)) (f.only u h b))
            (λ e. inr (record { arc = j; low = omega arith; leads = sym e; keeps = k }))
            (t.only u h m);
      }
