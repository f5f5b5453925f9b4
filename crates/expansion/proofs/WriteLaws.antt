-- The found nodes written out: the loop that repeats one, the loop over all, and the answer that they are.
-- Assumes nothing.
use Prim.Native.Nat.{ℕ, suc, ◌+◌, ◌-◌, ◌*◌, ◌≤◌, ◌<◌, min}
use mathlib.Core.Path.{◌≡◌, refl, sym, ap, ◌∙◌}
use mathlib.Core.List.{List, ◌++◌}
use native.Mathlib.Decide.{ℕ_discrete}
use native.Mathlib.Omega.{arith}
use borrow.Rule.Slice.PartMut.{mid_of, put_mid, mid_len}
use lib.ListN.{length, get_or, take, drop, replicate, get_or-replicate, length-replicate}
use Rattle.network.specs.Network.{Network, node_count}
use Rattle.network.specs.Distance.{dist}
use Rattle.network.specs.Points.{lockers}
use Rattle.network.proofs.Lends.{Returned, returned, first_size, first_part, first_after}
use Rattle.expansion.specs.Area.{Wiped}
use Rattle.expansion.specs.Expand.{word_distance, label_in}
use Rattle.expansion.specs.Found.{tallied, FindLeft, Repeated, ListedIn, CanWrite, WrittenOut, NearestLeft}
use Rattle.expansion.specs.declared.nearest.Search.{Search}
use Rattle.expansion.proofs.Beside.{Beside}
use Rattle.expansion.proofs.Settled.{zero_blank, word_some}
use Rattle.expansion.proofs.Finding.{tallied_next, tallied_mono, tallied_on}

-- ---- One node.

-- the words from a up to e are lent, and filled with v
module _ (a e v : ℕ) (xs zs : List ℕ) (low : a ≤ e) (fits : e ≤ length xs) (all : zs ≡ replicate (length (mid_of a (e - a) xs)) v) where
  even : length zs ≡ length (mid_of a (e - a) xs)
  even = ap length all ∙ length-replicate (length (mid_of a (e - a) xs)) v

  whole : Returned xs (put_mid a (e - a) xs zs) a e zs
  whole = returned a e xs zs low fits even

  filled : (j : ℕ) → a ≤ j → j < e → get_or (put_mid a (e - a) xs zs) j 0 ≡ v
  filled j h l =
      let q : a + (j - a) ≡ j = omega arith in
      ap (λ (i : ℕ). get_or (put_mid a (e - a) xs zs) i 0) (sym q)
      ∙ whole.part (j - a) (omega arith)
      ∙ ap (λ (ws : List ℕ). get_or ws (j - a) 0) all
      ∙ get_or-replicate (length (mid_of a (e - a) xs)) (j - a) v 0 (omega (arith, mid_len a e xs fits))

-- the ids, and then the distances
pub repeated : {P xs us ws : List ℕ} (k from v l : ℕ) {r : ℕ} → from < k → 3 * k ≤ length xs → r ≡ min k (from + lockers P v)
    → us ≡ replicate (length (mid_of (k + from) (k + r - (k + from)) xs)) v
    → ws ≡ replicate (length (mid_of (2 * k + from) (2 * k + r - (2 * k + from)) (put_mid (k + from) (k + r - (k + from)) xs us))) l
    → Repeated P xs (put_mid (2 * k + from) (2 * k + r - (2 * k + from)) (put_mid (k + from) (k + r - (k + from)) xs us) ws) k from v l r
repeated {xs = xs} {us} {ws} k from v l {r} low room count ids distances =
    record {
      count = count;
      written =
          record {
            size = second.size ∙ first.size;
            ids = λ j a b. second.before (k + j) (omega arith) ∙ filled (k + from) (k + r) v xs us (omega arith) (omega arith) ids (k + j) (omega arith) (omega arith);
            distances = λ j a b. filled (2 * k + from) (2 * k + r) l ys ws (omega arith) long distances (2 * k + j) (omega arith) (omega arith);
            before = λ j a. second.before j (omega arith) ∙ first.before j a;
            between = λ j a b. second.before j b ∙ first.after j a;
            behind = λ j a. second.after j a ∙ first.after j (omega arith);
          };
    }
  where
    ys : List ℕ
    ys = put_mid (k + from) (k + r - (k + from)) xs us

    first : Returned xs ys (k + from) (k + r) us
    first = whole (k + from) (k + r) v xs us (omega arith) (omega arith) ids

    long : 2 * k + r ≤ length ys
    long = omega (arith, first.size)

    second : Returned ys (put_mid (2 * k + from) (2 * k + r - (2 * k + from)) ys ws) (2 * k + from) (2 * k + r) ws
    second = whole (2 * k + from) (2 * k + r) l ys ws (omega arith) long distances

-- ---- All of them.
pub out_none : (P xs : List ℕ) (n k : ℕ) → WrittenOut P xs xs n k 0
out_none P xs n k =
    record {
      size = refl;
      ids = λ i j h. absurd (omega arith);
      distances = λ i j h. absurd (omega arith);
      rest = λ j a b. (refl, refl);
      before = λ j h. refl;
      behind = λ j h. refl;
    }

-- the words that the loop reads are still those of xs
pub out_word : {P xs ys : List ℕ} {n k found i : ℕ} → CanWrite P xs n k found → WrittenOut P xs ys n k i → i < found → get_or ys i 0 ≡ get_or xs i 0
out_word {i = i} c w h = w.before i (omega (arith, c.few))

-- the next node is written where the others end
module _ {P xs ys zs : List ℕ} {n k found i at l r : ℕ} (c : CanWrite P xs n k found) (w : WrittenOut P xs ys n k i) (h : i < found)
    (here : at ≡ min k (tallied P xs i)) (is : l ≡ label_in n ys (3 * k) (get_or ys i 0)) (q : Repeated P ys zs k at (get_or ys i 0) l r) where
  at_is : at ≡ tallied P xs i
  at_is = omega (arith, here, c.early i h)

  p : Repeated P ys zs k at (get_or xs i 0) l r
  p = rw (out_word c w h) at q

  label : l ≡ label_in n xs (3 * k) (get_or xs i 0)
  label =
      is
      ∙ ap (word_distance n) (w.behind (3 * k + get_or ys i 0) (omega arith))
      ∙ ap (λ (v : ℕ). label_in n xs (3 * k) v) (out_word c w h)

  pub out_count : r ≡ min k (tallied P xs (i + 1))
  out_count =
      let e : i + 1 ≡ suc i = omega arith in
      omega (arith, p.count, at_is, tallied_next P xs i, ap (tallied P xs) e)

  pub out_more : WrittenOut P xs zs n k (i + 1)
  out_more =
      record {
        size = p.written.size ∙ w.size;
        ids =
            λ x j a b d m.
            elim (ℕ_discrete x i) [
              | yes q ↦
                  p.written.ids j (omega (arith, at_is, ap (tallied P xs) q)) (omega (arith, out_count, next, ap (λ (z : ℕ). tallied P xs (suc z)) q))
                  ∙ ap (λ (z : ℕ). get_or xs z 0) (sym q)
              | no o ↦
                  p.written.before (k + j) (omega (arith, at_is, d, tallied_mono P xs (suc x) i (omega arith)))
                  ∙ w.ids x j (omega arith) b d m
            ];
        distances =
            λ x j a b d m.
            elim (ℕ_discrete x i) [
              | yes q ↦
                  p.written.distances j (omega (arith, at_is, ap (tallied P xs) q)) (omega (arith, out_count, next, ap (λ (z : ℕ). tallied P xs (suc z)) q))
                  ∙ label
                  ∙ ap (λ (z : ℕ). word_distance n (get_or xs (3 * k + get_or xs z 0) 0)) (sym q)
              | no o ↦
                  p.written.between (2 * k + j) (omega (arith, out_count)) (omega (arith, at_is, d, tallied_mono P xs (suc x) i (omega arith)))
                  ∙ w.distances x j (omega arith) b d m
            ];
        rest =
            λ j a b.
            let z = w.rest j (omega (arith, tallied_mono P xs i (i + 1) (omega arith))) b in (
              p.written.between (k + j) (omega (arith, out_count)) (omega arith) ∙ z.0,
              p.written.behind (2 * k + j) (omega (arith, out_count)) ∙ z.1,
            );
        before = λ j a. p.written.before j (omega arith) ∙ w.before j a;
        behind = λ j a. p.written.behind j (omega (arith, out_count)) ∙ w.behind j a;
      }
    where
      next : tallied P xs (suc i) ≡ tallied P xs (i + 1)
      next = let e : suc i ≡ i + 1 = omega arith in ap (tallied P xs) e

-- ---- The answer.
module _ {g : Network} {P : List ℕ} {node e k : ℕ} {xs₀ xs : List ℕ} {r : Search} (f : FindLeft g P node e k xs₀ xs (3 * k) r) where
  pub can_write : length P ≡ node_count g → CanWrite P xs (node_count g) k r.found
  can_write points =
      record {
        points = points;
        few = omega (arith, f.found_in.few);
        early = f.found_in.early;
        inside = λ i h. (f.labels i h).inside;
        room = omega (arith, f.area.queue.room);
      }

  module _ {ys : List ℕ} (w : WrittenOut P xs ys (node_count g) k r.found) where
    pub out_beside : Beside xs ys (3 * k)
    out_beside = record { size = w.size; words = w.behind }

    out_listed : ListedIn g P node e k ys r.tally
    out_listed =
        record {
          entry =
              λ j h.
              let o = tallied_on P xs r.found j (omega (arith, f.found_in.sum)) in
              let d : j < k = omega (arith, f.found_in.sum) in
              let v = get_or xs o.index 0 in
              let z : get_or ys (2 * k + j) 0 ≡ dist g node v =
              w.distances o.index j o.low o.from o.to d ∙ distance o.index o.low
              in
              rw (w.ids o.index j o.low o.from o.to d, z)
              (sym (f.found_in.run o.index j o.low o.from o.to d));
          rest =
              λ j a b.
              let z = w.rest j (omega (arith, f.found_in.sum)) b in (
                z.0 ∙ f.found_in.rest (k + j) (omega (arith, f.found_in.few)) (omega arith),
                z.1 ∙ f.found_in.rest (2 * k + j) (omega (arith, f.found_in.few)) (omega arith),
              );
        }
      where
        distance : (i : ℕ) → i < r.found → word_distance (node_count g) (get_or xs (3 * k + get_or xs i 0) 0) ≡ dist g node (get_or xs i 0)
        distance i h = rw (f.labels i h).is (word_some (node_count g) (dist g node (get_or xs i 0)))

    -- the area is cleared, and the first k words
    module _ {zs us : List ℕ} (c : Wiped ys zs (3 * k)) (q : us ≡ replicate (length (take k zs)) 0) where
      pub first_fits : k ≤ length zs
      first_fits = omega (arith, c.frame.size, w.size, f.area.queue.room)

      same : length us ≡ length (take k zs)
      same = ap length q ∙ length-replicate (length (take k zs)) 0

      word : (j : ℕ) → k ≤ j → j < 3 * k → get_or (us ++ drop k zs) j 0 ≡ get_or ys j 0
      word j a b = first_after k zs us first_fits same j a ∙ c.frame.words j b

      pub nearest_left : NearestLeft g P node e k xs₀ (us ++ drop k zs) r.tally
      nearest_left =
          record {
            size = first_size k zs us first_fits same ∙ c.frame.size ∙ w.size ∙ f.size;
            count = f.found_in.count;
            listed =
                record {
                  entry =
                      λ j h.
                      let d : j < k = omega (arith, f.found_in.sum) in
                      rw (word (k + j) (omega arith) (omega arith), word (2 * k + j) (omega arith) (omega arith)) (out_listed.entry j h);
                  rest =
                      λ j a b.
                      let z = out_listed.rest j a b in
                      (word (k + j) (omega arith) (omega arith) ∙ z.0, word (2 * k + j) (omega arith) (omega arith) ∙ z.1);
                };
            front = λ j h. first_part k zs us first_fits same j h ∙ (zero_blank (length (take k zs)) 0 q).zero j (omega arith);
            blank = record { zero = λ j h. first_after k zs us first_fits same j (omega arith) ∙ c.blank.zero j h };
          }
