-- A table on its way to the table of the points that are left. Freed rows are the nearest without their last; what a short row wants waits in the
-- queue, or the next node on the way to it is short and wants it too. So the first offer, where its row is short and lacks its point, is what the
-- row wants.
-- Assumes nothing.
use Prim.Native.Nat.{ℕ, zero, suc, ◌+◌, ◌-◌, ◌≤◌, ◌<◌}
use mathlib.Core.Path.{◌≡◌, refl, sym, ap, ◌∙◌}
use mathlib.Core.Logic.{◌≢◌, ◌⊎◌, inl, inr, ⊎_elim}
use mathlib.Core.Bool.{true, false, false≢true}
use mathlib.Core.List.Memᴰ
use mathlib.Core.List.{List, Memᴰ}
use native.Mathlib.Decide.{ℕ_discrete, dec_lt}
use native.Mathlib.Omega.{arith}
use lib.Dec.{eqb}
use lib.ListN.{length, get_or, set, drop}
use lib.Seq.{drop-set-lt, get_or-set_same, get_or-set_other}
use borrow.Author.Tests.{eq-eqb, ne_eqb, eqb-true, lt-ltb, ltb-true}
use Rattle.network.specs.Network.{Network, Arc, node_count, neighbours_of, weights_of}
use Rattle.network.specs.Accepted.{Accepted}
use Rattle.network.specs.Walk.{Walk, step}
use Rattle.network.specs.Distance.{NONE, dist}
use Rattle.network.specs.Points.{lockers, marked}
use Rattle.network.specs.Count.{count, bit}
use Rattle.network.specs.Nearest.{key, insert, nearest}
use Rattle.network.specs.Order.{before, Nearer, times}
use Rattle.network.specs.Rows.{pad, row, rows_changed, IsTable}
use Rattle.network.proofs.Distances.{dist_walk, dist_at_most, dist_next, dist_self, dist_zero}
use Rattle.network.proofs.Least.{distance}
use Rattle.network.proofs.Tests.{bool_cases}
use Rattle.network.proofs.Rank.{Near, marked_inside, before_step, before_up}
use Rattle.network.proofs.Rows.{row_members, near_listed, listed_near, nearest_length, nearest_ordered, nearest_small, nearest_times, nearest_no_more}
use Rattle.network.proofs.Prefix.{near_next}
use Rattle.network.proofs.Ranges.{arc_at, arc_place}
use Rattle.network.proofs.NumberZero.{accepted_ranges}
use Rattle.expansion.specs.Queue.{Holds, PoppedAt}
use Rattle.expansion.specs.Area.{PutAmong}
use Rattle.expansion.proofs.TagLaws.{entry_same, no_later_key}
use Rattle.expansion.proofs.EnteredLaws.{entered_held}
use Rattle.rows.specs.Flat.{row_at}
use Rattle.rows.specs.Update.{Added, Gains}
use Rattle.rows.specs.Take.{take_out, take_if}
use Rattle.std.specs.Prelude.{Option, None, Some, IfSome}
use Rattle.table.specs.declared.remove.Candidate.{Candidate}
use Rattle.table.specs.Candidate.{rank, FitsRow, GivesOver}
use Rattle.table.specs.Offer.{offer_of, arc_offer}
use Rattle.table.specs.Mend.{is_short, has_all, Freed, ShortSeeded, ShortTakes, ShortRefuses, OfferedShort, Wants, Behind, Lead, Mending}
use Rattle.rows.proofs.Laid.{table_rows}
use Rattle.rows.proofs.Update.{nearest_removed, row_kept, gains_or_not}
use Rattle.rows.proofs.Changed.{removed_changes}
use Rattle.rows.proofs.TakeLaws.{take_row}
use Rattle.table.proofs.Wanted.{times_pad, times_insert, pad_member, wanted, wants_same, wants_lacks, lacks_rank, taken_whole, short_whole}

-- a row that waits behind another does so while that one is short
still_behind : {g : Network} {Q xs ys : List ℕ} {K c q : ℕ} (b : Behind g Q xs K c q) → is_short ys b.to ≡ true → Behind g Q ys K c q
still_behind b s = record { to = b.to; weight = b.weight; arc = b.arc; sum = b.sum; short = s; wants = b.wants }

-- a lead of a key, where the key is known
lead_walk : {g : Network} → Accepted g → {Q : List ℕ} {k : ℕ} (i p d : ℕ) → k ≡ offer_of i p d → i < 65536 → p < 65536 → Lead g Q k → Walk g i p d × (marked Q p ≡ true)
lead_walk ok i p d e h m l =
    let f = ok.few in
    let q = entry_same d p i l.far l.point l.node m h (omega (arith, l.low)) (omega (arith, l.inside)) (sym e ∙ l.is) in
    (rw (q.0, q.1, q.2) l.walk, rw q.1 l.is_point)

carry : {a b : ℕ} (T : ℕ → Type 0) → a ≡ b → T a → T b
carry T e v = rw e at v

-- ---- What waits for a short row.
pub record HeldBefore (Held : ℕ → Type 0) (k : ℕ) : Type 0 where
  pub entry : ℕ
  pub held : Held entry
  pub first : entry ≤ k

module _ {g : Network} (ok : Accepted g) {Q : List ℕ} {K : ℕ} {ids dists xs : List ℕ} {len : ℕ} (some : 2 ≤ K) (m : Mending g Q K ids dists xs len) where
  -- something waits that comes no later than what a short row wants
  frontier_held : (b i p : ℕ) → dist g i p < b → i < node_count g → is_short xs i ≡ true → Wants g Q K i p
      → HeldBefore (Holds (drop (node_count g) xs) len) (offer_of i p (dist g i p))
  frontier_held zero i p l h s w = absurd (omega arith)
  frontier_held (suc b) i p l h s w =
      ⊎_elim
      (λ o. record { entry = offer_of i p (dist g i p); held = o; first = omega arith })
      (λ (n : Behind g Q xs K i p).
      let r = frontier_held b n.to p (omega (arith, n.sum, ok.weight_low n.arc)) (ok.leads_in n.arc) n.short n.wants in
      record {
        entry = r.entry;
        held = r.held;
        first = omega (arith, r.first, n.sum, ok.weight_low n.arc, ok.leads_in n.arc, ok.few, w.nearer.inside);
      })
      (m.frontier i p h s w)

  -- the queue is empty: nothing is wanted, and every row is whole
  pub mending_end : len ≤ 0 → (i : ℕ) → i < node_count g → row_at ids dists K i ≡ row g Q K i
  mending_end e i h =
      ⊎_elim
      (λ s.
      m.lacking i h s
      ∙ short_whole ok Q K i (omega arith) (λ p w. let r = frontier_held (suc (dist g i p)) i p (omega arith) h s w in omega (arith, r.held.inside)))
      (λ s. m.whole i h s)
      (bool_cases (is_short xs i))

  module _ {ys : List ℕ} (i p d : ℕ) (low-i : i < node_count g) (low-p : p < node_count g) (o : PoppedAt xs ys (node_count g) len (offer_of i p d)) where
    -- the entry that is taken, as its lead
    popped_walk : Walk g i p d × (marked Q p ≡ true)
    popped_walk =
        let f = ok.few in
        lead_walk ok i p d refl (omega arith) (omega arith) (m.leads (offer_of i p d) o.queue.was)

    popped_near : Nearer g Q i NONE p
    popped_near = record { inside = low-p; point = popped_walk.1; less = omega (arith, (dist_walk ok popped_walk.0).some, dist_at_most g i p) }

    -- where its row is short and lacks its point, it is what the row wants
    pub popped_wanted : is_short xs i ≡ true → times p (row_at ids dists K i) < lockers Q p → Wants g Q K i p × (d ≡ dist g i p)
    popped_wanted s n =
        let far = (dist_walk ok popped_walk.0).most in
        let v = wanted ok Q K i popped_near (lacks_rank ok Q K i popped_near (rw (m.lacking i low-i s) at n)) in
        let r = frontier_held (suc (dist g i v.point)) i v.point (omega arith) low-i s v.wants in
        let l = no_later_key (offer_of i p d) r.entry (o.queue.first r.entry r.held) in
        let f = ok.few in
        let lo = v.wants.nearer.inside in
        let above : d ≤ dist g i v.point = omega (arith, l, r.first) in
        let under : dist g i v.point ≤ d = omega (arith, v.first, far) in
        let same : v.point ≡ p = omega (arith, l, r.first, v.first, far) in
        let w : Wants g Q K i p = rw same at v.wants in
        (w, omega (arith, ap (dist g i) same))

    same_flag : (c : ℕ) → c < node_count g → is_short ys c ≡ is_short xs c
    same_flag c h = ap (λ v. eqb v 1) (o.before c h)

    module _ {zs ids' dists' : List ℕ} (others : (c : ℕ) → c ≢ i → row_at ids' dists' K c ≡ row_at ids dists K c) where
      -- it is dropped
      pub mending_skipped : ShortRefuses Q ys zs ids dists ids' dists' K i p d → Mending g Q K ids' dists' zs (len - 1)
      mending_skipped t =
          rw t.words
          (record {
            lacking = λ c h s. rows c ∙ m.lacking c h (sym (same_flag c h) ∙ s);
            whole = λ c h s. rows c ∙ m.whole c h (sym (same_flag c h) ∙ s);
            leads = λ k h. m.leads k (o.queue.old k h);
            frontier =
                λ c q h s w.
                ⊎_elim
                (λ v.
                ⊎_elim
                (λ u. inl u)
                (λ e. absurd (dropped c q h (sym (same_flag c h) ∙ s) w e))
                (o.queue.kept (offer_of c q (dist g c q)) v))
                (λ (b : Behind g Q xs K c q).
                inr (still_behind b (same_flag b.to (ok.leads_in b.arc) ∙ b.short)))
                (m.frontier c q h (sym (same_flag c h) ∙ s) w);
          })
        where
          rows : (c : ℕ) → row_at ids' dists' K c ≡ row_at ids dists K c
          rows c = elim (ℕ_discrete c i) [ yes e ↦ rw e t.row | no n ↦ others c n ]

          dropped : (c q : ℕ) → c < node_count g → is_short xs c ≡ true → Wants g Q K c q → offer_of c q (dist g c q) ≡ offer_of i p d → ⊥
          dropped c q h s w e =
              let f = ok.few in
              let u = entry_same (dist g c q) q c d p i (omega (arith, w.nearer.inside)) (omega arith) (omega arith) (omega arith) e in
              let s' : is_short xs i ≡ true = rw u.2 at s in
              let w' : Wants g Q K i p = rw (u.1, u.2) at w in
              let d' : dist g i p ≡ d = rw (u.1, u.2) at u.0 in
              ⊎_elim
              (λ a. false≢true (sym a ∙ same_flag i low-i ∙ s'))
              (λ a.
              ⊎_elim
              (λ b. omega (arith, (distance ok i p).limit (omega (arith, w'.nearer.less)), b))
              (λ b. omega (arith, b, wants_lacks ok Q K i w', ap (times p) (m.lacking i low-i s')))
              a)
              t.why

      -- its row takes it, and offers it on
      pub mending_taken : {ws : List ℕ} {more : ℕ} → i < length ys → ShortTakes Q ys zs ids dists ids' dists' K i p d
          → OfferedShort g zs ws (len - 1) more i p d (length (neighbours_of g i)) → Mending g Q K ids' dists' ws more
      mending_taken {ws} {more} room t f =
          record {
            lacking = λ c h s. let n = still c h s in others c n.0 ∙ m.lacking c h n.1;
            whole =
                λ c h s.
                elim (ℕ_discrete c i) [
                  | yes e ↦ rw e new_row
                  | no n ↦ others c n ∙ m.whole c h (sym (other_flag c h n) ∙ s)
                ];
            leads = λ k h. ⊎_elim (λ u. m.leads k (o.queue.old k (rw queue at u))) (λ u. new_lead k u) ((f.holds k).0 h);
            frontier = λ c q h s w. let n = still c h s in ahead c q h n.0 n.1 w (m.frontier c q h n.1 w);
          }
        where
          short : is_short xs i ≡ true
          short = sym (same_flag i low-i) ∙ t.short

          want : Wants g Q K i p × (d ≡ dist g i p)
          want = popped_wanted short t.lacks

          queue : drop (node_count g) zs ≡ drop (node_count g) ys
          queue = ap (drop (node_count g)) t.words ∙ drop-set-lt (node_count g) ys i 0 low-i

          word : (c : ℕ) → c < node_count g → get_or ws c 0 ≡ get_or (set ys i 0) c 0
          word c h = f.frame.words c h ∙ ap (λ l. get_or l c 0) t.words

          own_flag : is_short ws i ≡ false
          own_flag = ne_eqb (get_or ws i 0) 1 (omega (arith, word i low-i, get_or-set_same ys i 0 0 room))

          other_flag : (c : ℕ) → c < node_count g → c ≢ i → is_short ws c ≡ is_short xs c
          other_flag c h n = ap (λ v. eqb v 1) (word c h ∙ get_or-set_other ys i c 0 0 n) ∙ same_flag c h

          still : (c : ℕ) → c < node_count g → is_short ws c ≡ true → (c ≢ i) × (is_short xs c ≡ true)
          still c h s =
              let n : c ≢ i = λ e. false≢true (sym own_flag ∙ ap (is_short ws) (sym e) ∙ s) in
              (n, sym (other_flag c h n) ∙ s)

          new_row : row_at ids' dists' K i ≡ row g Q K i
          new_row =
              t.row
              ∙ ap (λ l. set l (K - 1) (p, d)) (m.lacking i low-i short)
              ∙ ap (λ v. set (pad K (nearest g Q i NONE (K - 1))) (K - 1) (p, v)) want.1
              ∙ taken_whole ok Q K i (omega arith) want.0

          new_lead : {Puts : ℕ → Type 0} (k : ℕ) → PutAmong (arc_offer g i p d) Puts (length (neighbours_of g i)) k → Lead g Q k
          new_lead k u =
              let arc = arc_at (accepted_ranges ok) i low-i u.place u.low in
              let v : get_or (weights_of g i) u.place 0 + d ≡ d + get_or (weights_of g i) u.place 0 = omega arith in
              record {
                node = get_or (neighbours_of g i) u.place 0;
                point = p;
                far = d + get_or (weights_of g i) u.place 0;
                is = u.is;
                inside = ok.leads_in arc;
                low = low-p;
                is_point = popped_walk.1;
                walk = rw v at (step (ok.returns arc) popped_walk.0);
              }

          -- the next node is the one that takes it: its neighbour is offered it
          offered : (c q w : ℕ) → is_short ws c ≡ true → Arc g c i w → dist g c q ≡ w + dist g i q → Wants g Q K i q
              → Holds (drop (node_count g) ws) more (offer_of c q (dist g c q))
          offered c q w s arc sum v =
              let e = wants_same ok Q K i v want.0 in
              let a = arc_place (accepted_ranges ok) (ok.returns arc) in
              let k : arc_offer g i p d a.at ≡ offer_of c q (dist g c q) = omega (arith, a.leads, a.weighs, sum, want.1, ap (dist g i) e) in
              let h = f.frame.words c (ok.leads_in (ok.returns arc)) in
              rw k at (entered_held f a.at a.low (ap (is_short zs) a.leads ∙ ap (λ v. eqb v 1) (sym h) ∙ s))

          ahead : (c q : ℕ) → c < node_count g → c ≢ i → is_short xs c ≡ true → Wants g Q K c q
              → Holds (drop (node_count g) xs) len (offer_of c q (dist g c q)) ⊎ Behind g Q xs K c q
              → Holds (drop (node_count g) ws) more (offer_of c q (dist g c q)) ⊎ Behind g Q ws K c q
          ahead c q h n s w u =
              ⊎_elim
              (λ v.
              ⊎_elim
              (λ a. inl ((f.holds (offer_of c q (dist g c q))).1 (inl (rw queue a))))
              (λ e.
              let few = ok.few in
              absurd (n (entry_same (dist g c q) q c d p i (omega (arith, w.nearer.inside)) (omega arith) (omega arith) (omega arith) e).2))
              (o.queue.kept (offer_of c q (dist g c q)) v))
              (λ (b : Behind g Q xs K c q).
              elim (ℕ_discrete b.to i) [
                | yes e ↦ inl (offered c q b.weight (other_flag c h n ∙ s) (rw e at b.arc) (rw e at b.sum) (rw e at b.wants))
                | no z ↦ inr (still_behind b (other_flag b.to (ok.leads_in b.arc) z ∙ b.short))
              ])
              u

-- ---- The rows are freed, and each short row has its best candidate in the queue.
module _ {g : Network} (ok : Accepted g) {P Q : List ℕ} {x K : ℕ} (low : x < node_count g) (a : Added Q P x) (some : 2 ≤ K) (points : length Q ≡ node_count g)
    {ids dists : List ℕ} (table : IsTable g P K ids dists) where
  old_row : (i : ℕ) → i < node_count g → row_at ids dists K i ≡ row g P K i
  old_row = table_rows P K ids dists table

  row_times : (B : List ℕ) (p i : ℕ) → p < node_count g → times p (row g B K i) ≡ times p (nearest g B i NONE K)
  unfolding row
  row_times B p i l = times_pad K p (nearest g B i NONE K) (omega (arith, ok.few))

  -- a row that has all lockers of x has a place for the last of them, and the other way
  pub had_gains : (i : ℕ) → i < node_count g → has_all ids dists K x (lockers P x) i ≡ true → Gains g Q K i x
  had_gains i h e =
      elim (gains_or_not ok low a K i) [
        | yes r ↦ r
        | no n ↦
            absurd
            (omega (
              arith,
              eqb-true (times x (row_at ids dists K i)) (lockers P x) e,
              ap (times x) (old_row i h ∙ row_kept ok low a K i n),
              row_times Q x i low,
              nearest_no_more ok Q i NONE K x,
              a.one,
            ))
      ]

  kept_times : (i : ℕ) → Gains g Q K i x → times x (nearest g Q i NONE (K - 1)) ≡ lockers Q x
  kept_times i r =
      elim (dec_lt 0 (lockers Q x)) [
        | no n ↦ omega (arith, nearest_no_more ok Q i NONE (K - 1) x)
        | yes l ↦
            let n : Nearer g Q i NONE x = record { inside = low; point = lt-ltb 0 (lockers Q x) l; less = r.reach } in
            omega (arith, nearest_times ok Q i NONE (K - 1) x n, before_step ok Q i NONE x n, r.room)
      ]

  removed : (i : ℕ) → Gains g Q K i x → nearest g P i NONE K ≡ insert (x, dist g i x) (nearest g Q i NONE (K - 1))
  removed i r =
      let q : suc (K - 1) ≡ K = omega arith in
      ap (λ n. nearest g P i NONE n) (sym q) ∙ nearest_removed ok low a (K - 1) i (carry (λ n. Gains g Q n i x) (sym q) r)

  pub gains_had : (i : ℕ) → i < node_count g → Gains g Q K i x → has_all ids dists K x (lockers P x) i ≡ true
  gains_had i h r =
      eq-eqb (times x (row_at ids dists K i)) (lockers P x)
      (omega (
        arith,
        ap (times x) (old_row i h),
        row_times P x i low,
        ap (times x) (removed i r),
        times_insert x (x, dist g i x) (nearest g Q i NONE (K - 1)),
        ap bit (eq-eqb x x refl),
        kept_times i r,
        a.one,
      ))

  pub changed_rows : rows_changed g P Q K ≡ count (has_all ids dists K x (lockers P x)) (node_count g)
  changed_rows = removed_changes ok low a K (has_all ids dists K x (lockers P x)) had_gains gains_had

  -- a row that had all of x is the nearest of those left without their last; another is whole
  freed_short : (i : ℕ) → i < node_count g → has_all ids dists K x (lockers P x) i ≡ true → take_out x (row_at ids dists K i) ≡ pad K (nearest g Q i NONE (K - 1))
  unfolding row
  freed_short i h e =
      ap (take_out x) (old_row i h ∙ ap (pad K) (removed i (had_gains i h e)))
      ∙ take_row K x (dist g i x) (nearest g Q i NONE (K - 1)) (omega (arith, nearest_length g Q i NONE (K - 1)))
      (nearest_ordered ok Q i NONE (K - 1)) (omega (arith, ok.few)) (nearest_small ok Q i NONE (K - 1))
      (λ d m. (listed_near ok Q i NONE (K - 1) x d m).far)

  freed_whole : (i : ℕ) → i < node_count g → has_all ids dists K x (lockers P x) i ≡ false → row_at ids dists K i ≡ row g Q K i
  freed_whole i h e = old_row i h ∙ row_kept ok low a K i (λ r. false≢true (sym e ∙ gains_had i h r))

  module _ {xs ys zs ids' dists' : List ℕ} {changed len : ℕ} (blank : (j : ℕ) → get_or xs j 0 ≡ 0) (f : Freed xs ys ids dists ids' dists' K x (lockers P x) (node_count g) changed)
      (s : ShortSeeded g Q ys zs ids' dists' K (node_count g) len) where
    flag : (i : ℕ) → i < node_count g → is_short zs i ≡ is_short ys i
    flag i h = ap (λ v. eqb v 1) (s.frame.words i h)

    had_flag : (i : ℕ) → i < node_count g → is_short ys i ≡ has_all ids dists K x (lockers P x) i
    had_flag i h =
        ⊎_elim
        (λ e. eq-eqb (get_or ys i 0) 1 (f.flagged i h e) ∙ sym e)
        (λ e. ne_eqb (get_or ys i 0) 1 (omega (arith, f.others i h e, blank i)) ∙ sym e)
        (bool_cases (has_all ids dists K x (lockers P x) i))

    lacking : (i : ℕ) → i < node_count g → is_short ys i ≡ true → row_at ids' dists' K i ≡ pad K (nearest g Q i NONE (K - 1))
    lacking i h e =
        let b = sym (had_flag i h) ∙ e in
        f.freed i h ∙ ap (λ v. take_if v x (row_at ids dists K i)) b ∙ freed_short i h b

    whole : (i : ℕ) → i < node_count g → is_short ys i ≡ false → row_at ids' dists' K i ≡ row g Q K i
    whole i h e =
        let b = sym (had_flag i h) ∙ e in
        f.freed i h ∙ ap (λ v. take_if v x (row_at ids dists K i)) b ∙ freed_whole i h b

    -- an entry of a row is a reached point, at its distance
    entry : (c p e : ℕ) → c < node_count g → marked Q p ≡ true → Memᴰ (p, e) (row_at ids' dists' K c) → Nearer g Q c NONE p × (e ≡ dist g c p)
    entry c p e h k m =
        let n : p ≢ NONE = omega (arith, marked_inside Q p k, points, ok.few) in
        ⊎_elim
        (λ u.
        let r = listed_near ok Q c NONE (K - 1) p e (pad_member K p e (nearest g Q c NONE (K - 1)) n (rw (lacking c h u) at m)) in
        (r.near.nearer, r.far))
        (λ u. let r = (row_members ok Q K c p e n).0 (rw (whole c h u) at m) in (r.near.nearer, r.far))
        (bool_cases (is_short ys c))

    -- what a neighbour's row gives is the sum of a walk
    given : (i : ℕ) (r : ℕ × ℕ) → i < node_count g → GivesOver g Q ids' dists' K i (length (neighbours_of g i)) r
        → Walk g i r.0 r.1 × (r.0 < node_count g) × (marked Q r.0 ≡ true) × (times r.0 (row_at ids' dists' K i) < lockers Q r.0)
    given i r h v =
        let arc = arc_at (accepted_ranges ok) i h v.place v.low in
        let mark : marked Q v.point ≡ true = lt-ltb 0 (lockers Q v.point) (omega (arith, v.fit.lacks)) in
        let n = entry (get_or (neighbours_of g i) v.place 0) v.point v.far (ok.leads_in arc) mark v.mem in
        let w = (distance ok (get_or (neighbours_of g i) v.place 0) v.point).walk (omega (arith, n.0.less)) in
        let p : r.0 ≡ v.point = ap (λ (y : ℕ × ℕ). y.0) v.is in
        let d : r.1 ≡ get_or (weights_of g i) v.place 0 + dist g (get_or (neighbours_of g i) v.place 0) v.point = omega (arith, n.1, ap (λ (y : ℕ × ℕ). y.1) v.is) in
        (rw (p, d) (step arc w), omega (arith, n.0.inside), rw p mark, rw p v.fit.lacks)

    leads : (k : ℕ) → Holds (drop (node_count g) zs) len k → Lead g Q k
    leads k h =
        let v = s.only k h in
        let w = given v.node v.best v.low v.gives in
        record { node = v.node; point = v.best.0; far = v.best.1; is = v.is; inside = v.low; low = w.1; is_point = w.2; walk = w.0 }

    -- a candidate comes no earlier than what the row wants
    no_earlier : (i p : ℕ) (r : ℕ × ℕ) → i < node_count g → is_short ys i ≡ true → Wants g Q K i p → GivesOver g Q ids' dists' K i (length (neighbours_of g i)) r
        → key (p, dist g i p) ≤ key r
    no_earlier i p r h e w v =
        let u = given i r h v in
        let far = dist_walk ok u.0 in
        let n : Nearer g Q i NONE r.0 = record { inside = u.1; point = u.2; less = omega (arith, far.some, dist_at_most g i r.0) } in
        let b = wanted ok Q K i n (lacks_rank ok Q K i n (rw (lacking i h e) at u.3)) in
        let q = wants_same ok Q K i b.wants w in
        omega (arith, b.first, far.most, q, ap (dist g i) q)

    -- the next node's row holds what i wants: it is i's best candidate
    best_held : (i p far : ℕ) → i < node_count g → is_short ys i ≡ true → Wants g Q K i p → far ≡ dist g i p → (best : Option Candidate) → rank best ≤ key (p, far)
        → IfSome best (λ c. GivesOver g Q ids' dists' K i (length (neighbours_of g i)) (c.point, c.distance)) → IfSome best (λ c. Holds (drop (node_count g) zs) len (offer_of i c.point c.distance))
        → Holds (drop (node_count g) zs) len (offer_of i p (dist g i p))
    best_held i p far h e v sum None l z k = absurd (omega (arith, l, sum, v.nearer.less, v.nearer.inside, ok.few))
    best_held i p far h e v sum (Some best) l z k =
        let b = no_earlier i p (best.point, best.distance) h e v z in
        let u = given i (best.point, best.distance) h z in
        let few = ok.few in
        let lo = v.nearer.inside in
        let same_far : best.distance ≡ dist g i p = omega (arith, b, l, sum, u.1) in
        let same : best.point ≡ p = omega (arith, b, l, sum, u.1) in
        let q : offer_of i best.point best.distance ≡ offer_of i p (dist g i p) = omega arith in
        rw q at k

    held : (i p : ℕ) (c w : ℕ) → i < node_count g → is_short ys i ≡ true → Wants g Q K i p → Arc g i c w → dist g i p ≡ w + dist g c p
        → Memᴰ (p, dist g c p) (row_at ids' dists' K c) → Holds (drop (node_count g) zs) len (offer_of i p (dist g i p))
    held i p c w h e v arc sum mem =
        let o = s.all i h e in
        let pl = arc_place (accepted_ranges ok) arc in
        let near : dist g c p ≢ NONE = omega (arith, v.nearer.less, sum) in
        let fit : FitsRow Q (row_at ids' dists' K i) p (dist g c p) = record {
          low = (distance ok c p).limit near;
          lacks = rw (lacking i h e) (wants_lacks ok Q K i v);
        } in
        best_held i p (dist g c p + get_or (weights_of g i) pl.at 0) h e v (omega (arith, pl.weighs, sum)) o.best
        (o.is_best.least pl.at p (dist g c p) pl.low (rw pl.leads mem) fit) o.is_best.from o.held

    frontier : (i p : ℕ) → i < node_count g → is_short ys i ≡ true → Wants g Q K i p → Holds (drop (node_count g) zs) len (offer_of i p (dist g i p)) ⊎ Behind g Q zs K i p
    frontier i p h e w =
        let n = dist_next ok i p other (omega (arith, w.nearer.less)) in
        let k : Near g Q n.to NONE K p = near_next ok Q n.arc K p n.sum (record { nearer = w.nearer; few = omega (arith, w.low) }) in
        let c = ok.leads_in n.arc in
        ⊎_elim
        (λ u.
        elim (dec_lt (before g Q n.to NONE (key (p, dist g n.to p))) (K - 1)) [
          | yes l ↦
              inl
              (held i p n.to n.weight h e w n.arc n.sum
              (rw (lacking n.to c u) (Memᴰ.append_left _ (near_listed ok Q n.to NONE (K - 1) p (record { nearer = k.nearer; few = l })))))
          | no l ↦
              inr
              (record {
                to = n.to;
                weight = n.weight;
                arc = n.arc;
                sum = n.sum;
                short = flag n.to c ∙ u;
                wants = record {
                  nearer = k.nearer;
                  low = omega (arith, k.few);
                  high = omega (arith, before_step ok Q n.to NONE p k.nearer, ltb-true 0 (lockers Q p) k.nearer.point);
                };
              })
        ])
        (λ u.
        inl
        (held i p n.to n.weight h e w n.arc n.sum
        (rw (whole n.to c u) ((row_members ok Q K n.to p (dist g n.to p) (omega (arith, k.nearer.inside, ok.few))).1 (record { near = k; far = refl })))))
        (bool_cases (is_short ys n.to))
      where
        -- i's own node is never what a short row wants: its lockers come before the one that was lost
        other : i ≢ p
        other q =
            let r = had_gains i h (sym (had_flag i h) ∙ e) in
            let z = dist_self ok i in
            let up : key (p, dist g i p) ≤ key (x, dist g i x) =
            elim (ℕ_discrete x i) [
              | yes y ↦ omega (arith, ap (λ v. key (v, dist g i v)) (sym q), ap (λ v. key (v, dist g i v)) y)
              | no y ↦
                  elim (ℕ_discrete (dist g i x) 0) [
                    | yes o ↦ absurd (y (sym (dist_zero ok i x o)))
                    | no o ↦ omega (arith, ap (λ v. key (v, dist g i v)) (sym q), z, h, ok.few)
                  ]
            ] in
            omega (arith, w.high, r.room, before_up g Q i NONE (suc (key (p, dist g i p))) (suc (key (x, dist g i x))) (omega (arith, up)))

    pub mending_start : Mending g Q K ids' dists' zs len
    mending_start =
        record {
          lacking = λ i h e. lacking i h (sym (flag i h) ∙ e);
          whole = λ i h e. whole i h (sym (flag i h) ∙ e);
          leads = leads;
          frontier = λ i p h e w. frontier i p h (sym (flag i h) ∙ e) w;
        }
