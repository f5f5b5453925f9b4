-- What the loops of remove's steps keep, turn by turn, and what they leave.
-- Assumes nothing.
use Prim.Native.Nat.{ℕ, ◌+◌, ◌-◌, ◌*◌, ◌≤◌, ◌<◌}
use mathlib.Core.Path.{◌≡◌, refl, sym, ap, ◌∙◌}
use mathlib.Core.Logic.{◌⊎◌, inl, inr, ⊎_elim}
use mathlib.Core.Bool.{Bool, true, false, false≢true, true≢false}
use mathlib.Core.List.{List, Memᴰ}
use native.Mathlib.Decide.{ℕ_discrete}
use native.Mathlib.Numerals.{add-one}
use native.Mathlib.Omega.{arith}
use lib.ListN.{length, get_or, set, take, drop, length-set}
use lib.Seq.{get_or-set_same, get_or-set_other}
use lib.Dec.{eqb, ltb}
use borrow.Author.Tests.{eq-eqb, lt-ltb, ltb-true}
use borrow.Rule.Slice.PartMut.{mid_of, put_mid, put_same, set_mid_at}
use Rattle.network.specs.Network.{Network, node_count, neighbours_of, weights_of}
use Rattle.network.specs.Distance.{LONGEST}
use Rattle.network.specs.Count.{bit, count}
use Rattle.network.specs.Nearest.{key}
use Rattle.network.specs.Order.{times}
use Rattle.network.specs.Points.{lockers}
use Rattle.network.proofs.Counts.{count_few}
use Rattle.network.proofs.Lends.{mid_length, mid_at, row_fits}
use Rattle.network.proofs.Rank.{marked_inside}
use Rattle.expansion.specs.Queue.{Queue, PushedAt}
use Rattle.rows.specs.Flat.{row_at}
use Rattle.network.specs.Rows.{Sized, row_entries}
use Rattle.rows.specs.Take.{take_if, TakenOutOfRow}
use Rattle.rows.specs.Check.{among}
use Rattle.std.specs.Prelude.{Option, None, Some, IfSome}
use Rattle.table.specs.declared.remove.Candidate.{Candidate}
use Rattle.table.specs.Candidate.{rank, Fits, Better, Gives, BestOfRow, FitsRow, GivesOver, BestOf}
use Rattle.table.specs.Offer.{offer_of}
use Rattle.table.specs.Mend.{is_short, has_all, Freed, SeedOf, ShortSeeded, PutLast, CanTakeIn, TakenIn}
use Rattle.rows.proofs.Flat.{place_in, in_place}
use Rattle.rows.proofs.Laid.{part_places}
use Rattle.rows.proofs.CheckRows.{times_places}
use Rattle.rows.proofs.Frame.{row_width, row_long, set_other, set_row}

count_zero : (t : ℕ → Bool) → count t 0 ≡ 0
unfolding count
count_zero t = refl

count_next : (t : ℕ → Bool) (n : ℕ) → count t (n + 1) ≡ count t n + bit (t n)
unfolding count
count_next t n = rw add-one

-- ---- free: the rows below i are freed.
pub freed_none : (xs ids dists : List ℕ) (K x all : ℕ) → Freed xs xs ids dists ids dists K x all 0 0
freed_none xs ids dists K x all =
    record {
      size = refl;
      ids_size = refl;
      dists_size = refl;
      flagged = λ i h. absurd (omega arith);
      others = λ i h. absurd (omega arith);
      rest = λ i h. refl;
      freed = λ i h. absurd (omega arith);
      later = λ i h. refl;
      counted = sym (count_zero (has_all ids dists K x all));
    }

module _ {xs ys ids dists ids' dists' ids'' dists'' : List ℕ} {K x all i changed : ℕ} {r : Bool} (f : Freed xs ys ids dists ids' dists' K x all i changed)
    (t : TakenOutOfRow ids' dists' ids'' dists'' K i x all r) where
  had : r ≡ has_all ids dists K x all i
  had = t.was ∙ ap (λ l. eqb (times x l) all) (f.later i (omega arith))

  new_freed : (j : ℕ) → j < i + 1 → row_at ids'' dists'' K j ≡ take_if (has_all ids dists K x all j) x (row_at ids dists K j)
  new_freed j h =
      elim (ℕ_discrete j i) [
        | yes e ↦ rw e (t.row ∙ ap (λ b. take_if b x (row_at ids' dists' K i)) had ∙ ap (take_if (has_all ids dists K x all i) x) (f.later i (omega arith)))
        | no n ↦ t.others j n ∙ f.freed j (omega arith)
      ]

  new_later : (j : ℕ) → i + 1 ≤ j → row_at ids'' dists'' K j ≡ row_at ids dists K j
  new_later j h = t.others j (omega arith) ∙ f.later j (omega arith)

  pub freed_had : r ≡ true → i < length ys → Freed xs (set ys i 1) ids dists ids'' dists'' K x all (i + 1) (changed + 1)
  freed_had e low =
      record {
        size = simp length-set f.size;
        ids_size = t.ids_size ∙ f.ids_size;
        dists_size = t.dists_size ∙ f.dists_size;
        flagged =
            λ j h q.
            elim (ℕ_discrete j i) [
              | yes s ↦ ap (λ v. get_or (set ys i 1) v 0) s ∙ get_or-set_same ys i 1 0 low
              | no n ↦ get_or-set_other ys i j 1 0 n ∙ f.flagged j (omega arith) q
            ];
        others =
            λ j h q.
            elim (ℕ_discrete j i) [
              | yes s ↦ absurd (false≢true (sym q ∙ ap (has_all ids dists K x all) s ∙ sym had ∙ e))
              | no n ↦ get_or-set_other ys i j 1 0 n ∙ f.others j (omega arith) q
            ];
        rest = λ j h. get_or-set_other ys i j 1 0 (omega arith) ∙ f.rest j (omega arith);
        freed = new_freed;
        later = new_later;
        counted = omega (arith, f.counted, count_next (has_all ids dists K x all) i, ap bit (sym had ∙ e));
      }

  pub freed_not : r ≡ false → Freed xs ys ids dists ids'' dists'' K x all (i + 1) changed
  freed_not e =
      record {
        size = f.size;
        ids_size = t.ids_size ∙ f.ids_size;
        dists_size = t.dists_size ∙ f.dists_size;
        flagged =
            λ j h q.
            elim (ℕ_discrete j i) [
              | yes s ↦ absurd (false≢true (sym e ∙ had ∙ ap (has_all ids dists K x all) (sym s) ∙ q))
              | no n ↦ f.flagged j (omega arith) q
            ];
        others = λ j h q. elim (ℕ_discrete j i) [ yes s ↦ f.rest j (omega arith) | no n ↦ f.others j (omega arith) q ];
        rest = λ j h. f.rest j (omega arith);
        freed = new_freed;
        later = new_later;
        counted = omega (arith, f.counted, count_next (has_all ids dists K x all) i, ap bit (sym had ∙ e));
      }

pub freed_as : {xs ys ids dists ids' dists' : List ℕ} {K x all many end n changed : ℕ} → all ≡ many → end ≡ n → Freed xs ys ids dists ids' dists' K x all end changed
    → Freed xs ys ids dists ids' dists' K x many n changed
freed_as e s f = rw (e, s) at f

pub freed_few : {xs ys ids dists ids' dists' : List ℕ} {K x all i changed : ℕ} → Freed xs ys ids dists ids' dists' K x all i changed → changed ≤ i
freed_few {ids} {dists} {K} {x} {all} {i} f = omega (arith, f.counted, count_few (has_all ids dists K x all) i)

-- ---- better: the other is new.
if_some : {A : Type 0} {P Q : A → Type 0} (r : Option A) → ((x : A) → P x → Q x) → IfSome r P → IfSome r Q
if_some None f h = h
if_some (Some x) f h = f x h

stays : {A : Type 0} (P : A → Type 0) (r : Option A) → IfSome r (λ x. (r ≡ Some x) ⊎ P x)
stays P None = tt
stays P (Some x) = inl refl

module _ {P own : List ℕ} {p e w : ℕ} (best : Option Candidate) where
  pub better_new : e ≤ LONGEST → key (p, e + w) ≤ rank best → ltb (among own p (length own)) (lockers P p) ≡ true → Better P own best (Some (record { distance = e + w; point = p })) p e w
  better_new low h l =
      record {
        most = h;
        least = λ f. omega arith;
        from = inr (refl, record { low = low; lacks = ltb-true (among own p (length own)) (lockers P p) l });
      }

-- ---- best_of_row: the places below j are tried.
pub best_none : (P own ids dists : List ℕ) (w : ℕ) (best : Option Candidate) → BestOfRow P own ids dists w 0 best best
best_none P own ids dists w best = record { most = omega arith; least = λ j h. absurd (omega arith); from = stays _ best }

pub best_more : {P own ids dists : List ℕ} {w j : ℕ} {best r q : Option Candidate} → BestOfRow P own ids dists w j best r → Better P own r q (get_or ids j 0) (get_or dists j 0) w
    → BestOfRow P own ids dists w (j + 1) best q
best_more {P} {own} {ids} {dists} {w} {j} {best} {r} {q} f b =
    record {
      most = omega (arith, f.most, b.most);
      least =
          λ i h fit.
          elim (ℕ_discrete i j) [
            | yes e ↦ rw e (b.least (rw e at fit))
            | no n ↦ omega (arith, f.least i (omega arith) fit, b.most)
          ];
      from =
          if_some q
          (λ c.
          ⊎_elim
          (λ e. before c (rw e at f.from))
          (λ s. inr (record { index = j; low = omega arith; fits = s.1; is = s.0 })))
          b.from;
    }
  where
    before : (c : Candidate) → (best ≡ Some c) ⊎ Gives P own ids dists w j (c.point, c.distance) → (best ≡ Some c) ⊎ Gives P own ids dists w (j + 1) (c.point, c.distance)
    before c v =
        ⊎_elim
        (λ e. inl e)
        (λ (s : Gives P own ids dists w j (c.point, c.distance)). inr (record { index = s.index; low = omega (arith, s.low); fits = s.fits; is = s.is }))
        v

-- ---- candidate: the rows of the neighbours by the arcs before place j are tried. A row is lent as the part of both arrays that it is.
module _ (P ids dists : List ℕ) (K i : ℕ) (fits : i * K + K ≤ length ids) where
  part_long : length (take K (drop (i * K) ids)) ≡ K
  part_long = mid_length (i * K) K ids fits

  pub part_times : (p : ℕ) → among (take K (drop (i * K) ids)) p (length (take K (drop (i * K) ids))) ≡ times p (row_at ids dists K i)
  part_times p =
      ap (among (take K (drop (i * K) ids)) p) part_long
      ∙ sym (times_places (take K (drop (i * K) ids)) (take K (drop (i * K) dists)) p K)
      ∙ ap (times p) (part_places ids dists (i * K) K)

  fit_fits : {p e : ℕ} → FitsRow P (row_at ids dists K i) p e → Fits P (take K (drop (i * K) ids)) p e
  fit_fits {p} f = record { low = f.low; lacks = omega (arith, f.lacks, part_times p) }

  fits_fit : {p e : ℕ} → Fits P (take K (drop (i * K) ids)) p e → FitsRow P (row_at ids dists K i) p e
  fits_fit {p} f = record { low = f.low; lacks = omega (arith, f.lacks, part_times p) }

pub row_inside : {g : Network} {ids dists : List ℕ} {K i : ℕ} → Sized g K ids dists → i < node_count g → (i * K + K ≤ length ids) × (i * K + K ≤ length dists)
row_inside {g} {K} {i} sized inside =
    let h = row_fits i (node_count g) K inside in
    (omega (arith, h, sized.all_ids), omega (arith, h, sized.all_dists))

pub chosen_none : (g : Network) (P ids dists : List ℕ) (K i : ℕ) → BestOf g P ids dists K i 0 None
chosen_none g P ids dists K i = record { least = λ j p e h. absurd (omega arith); from = tt }

module _ {g : Network} {P ids dists : List ℕ} {K i : ℕ} (sized : Sized g K ids dists) (inside : i < node_count g) where
  chosen_more : {j : ℕ} {r q : Option Candidate} → BestOf g P ids dists K i j r
      → BestOfRow P (take K (drop (i * K) ids)) (take K (drop (get_or (neighbours_of g i) j 0 * K) ids)) (take K (drop (get_or (neighbours_of g i) j 0 * K) dists))
      (get_or (weights_of g i) j 0) K r q
      → BestOf g P ids dists K i (j + 1) q
  chosen_more {j} {r} {q} f b =
      record {
        least =
            λ l p e h m fit.
            elim (ℕ_discrete l j) [
              | yes s ↦ rw s (here p e (rw s at m) fit)
              | no n ↦ omega (arith, f.least l p e (omega arith) m fit, b.most)
            ];
        from = if_some q (λ c. ⊎_elim (λ e. before c (rw e at f.from)) (λ s. given c s)) b.from;
      }
    where
      before : (c : Candidate) → GivesOver g P ids dists K i j (c.point, c.distance) → GivesOver g P ids dists K i (j + 1) (c.point, c.distance)
      before c s = record { place = s.place; low = omega (arith, s.low); point = s.point; far = s.far; mem = s.mem; fit = s.fit; is = s.is }

      fits : i * K + K ≤ length ids
      fits = omega (arith, row_fits i (node_count g) K inside, sized.all_ids)

      here : (p e : ℕ) → Memᴰ (p, e) (row_at ids dists K (get_or (neighbours_of g i) j 0)) → FitsRow P (row_at ids dists K i) p e → rank q ≤ key (p, e + get_or (weights_of g i) j 0)
      here p e m fit =
          let a = in_place ids dists (get_or (neighbours_of g i) j 0 * K) K (p, e) m in
          let u = mid_at (get_or (neighbours_of g i) j 0 * K) K ids a.index a.low ∙ sym (ap (λ (x : ℕ × ℕ). x.0) a.is) in
          let v = mid_at (get_or (neighbours_of g i) j 0 * K) K dists a.index a.low ∙ sym (ap (λ (x : ℕ × ℕ). x.1) a.is) in
          let w = b.least a.index a.low (rw (u, v) (fit_fits P ids dists K i fits fit)) in
          omega (arith, w, u, v)

      given : (c : Candidate) → Gives P (take K (drop (i * K) ids)) (take K (drop (get_or (neighbours_of g i) j 0 * K) ids)) (take K (drop (get_or (neighbours_of g i) j 0 * K) dists)) (get_or (weights_of g i) j 0) K (c.point, c.distance)
          → GivesOver g P ids dists K i (j + 1) (c.point, c.distance)
      given c s =
          let u = mid_at (get_or (neighbours_of g i) j 0 * K) K ids s.index s.low in
          let v = mid_at (get_or (neighbours_of g i) j 0 * K) K dists s.index s.low in
          record {
            place = j;
            low = omega arith;
            point = get_or ids (get_or (neighbours_of g i) j 0 * K + s.index) 0;
            far = get_or dists (get_or (neighbours_of g i) j 0 * K + s.index) 0;
            mem = place_in ids dists (get_or (neighbours_of g i) j 0 * K) K s.index s.low;
            fit = rw (u, v) at (fits_fit P ids dists K i fits s.fits);
            is = s.is ∙ λ k. (u k, v k + get_or (weights_of g i) j 0);
          }

-- the same, with the parts as they are lent: c is the node that arc j leads to, and w its weight
module _ {g : Network} {P ids dists own there far : List ℕ} {K i j : ℕ} (sized : Sized g K ids dists) (inside : i < node_count g) (c w : ℕ) (to : c ≡ get_or (neighbours_of g i) j 0)
    (weight : w ≡ get_or (weights_of g i) j 0) (low : c < node_count g) where
  pub chosen_lent : {r q : Option Candidate} → own ≡ row_entries K i ids → there ≡ row_entries K c ids → far ≡ row_entries K c dists → BestOf g P ids dists K i j r
      → BestOfRow P own there far w (length there) r q → BestOf g P ids dists K i (j + 1) q
  unfolding row_entries
  chosen_lent a b d f v =
      let long : length (take K (drop (c * K) ids)) ≡ K = mid_length (c * K) K ids (row_inside sized low).0 in
      chosen_more sized inside f (rw (a, b, d, long, to, weight) at v)

-- a candidate is a point
pub best_point : {g : Network} {P ids dists : List ℕ} {K i end : ℕ} {c : Candidate} → length P ≡ node_count g → BestOf g P ids dists K i end (Some c) → c.point < node_count g
best_point {P} points b =
    let v = b.from in
    omega (arith, ap (λ (x : ℕ × ℕ). x.0) v.is, marked_inside P v.point (lt-ltb 0 (lockers P v.point) (omega (arith, v.fit.lacks))), points)

-- ---- seed: the short rows below i have their best candidates in the queue.
module _ {g : Network} {P xs ids dists : List ℕ} {K : ℕ} where
  pub seeded_none : Queue (drop (node_count g) xs) 0 → ShortSeeded g P xs xs ids dists K 0 0
  seeded_none q =
      record {
        frame = record { size = refl; words = λ i h. refl };
        few = omega arith;
        queue = q;
        only = λ k h. absurd (omega (arith, h.inside));
        all = λ i h. absurd (omega arith);
      }

  module _ {ys : List ℕ} {i len : ℕ} (f : ShortSeeded g P xs ys ids dists K i len) where
    later : {k : ℕ} → SeedOf g P xs ids dists K i k → SeedOf g P xs ids dists K (i + 1) k
    later s = record { node = s.node; low = omega (arith, s.low); short = s.short; best = s.best; gives = s.gives; is = s.is }

    -- row i is not short, or there is nothing for it
    pub seeded_whole : is_short xs i ≡ false → ShortSeeded g P xs ys ids dists K (i + 1) len
    seeded_whole e =
        record {
          frame = f.frame;
          few = omega (arith, f.few);
          queue = f.queue;
          only = λ k h. later (f.only k h);
          all = λ j h s. elim (ℕ_discrete j i) [ yes q ↦ absurd (false≢true (sym e ∙ ap (is_short xs) (sym q) ∙ s)) | no n ↦ f.all j (omega arith) s ];
        }

    pub seeded_nothing : BestOf g P ids dists K i (length (neighbours_of g i)) None → ShortSeeded g P xs ys ids dists K (i + 1) len
    seeded_nothing b =
        record {
          frame = f.frame;
          few = omega (arith, f.few);
          queue = f.queue;
          only = λ k h. later (f.only k h);
          all =
              λ j h s.
              elim (ℕ_discrete j i) [
                | yes q ↦ rw q (record { best = None; is_best = b; held = tt })
                | no n ↦ f.all j (omega arith) s
              ];
        }

    pub seeded_push : {zs : List ℕ} {best : Candidate} → is_short xs i ≡ true → BestOf g P ids dists K i (length (neighbours_of g i)) (Some best)
        → PushedAt ys zs (node_count g) len (offer_of i best.point best.distance) → ShortSeeded g P xs zs ids dists K (i + 1) (len + 1)
    seeded_push {zs} {best} short b p =
        record {
          frame = record { size = p.size ∙ f.frame.size; words = λ j h. p.before j h ∙ f.frame.words j h };
          few = omega (arith, f.few);
          queue = p.queue.queue;
          only = λ k h. ⊎_elim (λ o. later (f.only k o)) (λ e. new k e) ((p.queue.holds k).0 h);
          all =
              λ j h s.
              elim (ℕ_discrete j i) [
                | yes q ↦ rw q (record { best = Some best; is_best = b; held = (p.queue.holds (offer_of i best.point best.distance)).1 (inr refl) })
                | no m ↦
                    let o = f.all j (omega arith) s in
                    record {
                      best = o.best;
                      is_best = o.is_best;
                      held = if_some o.best (λ c v. (p.queue.holds (offer_of j c.point c.distance)).1 (inl v)) o.held;
                    }
              ];
        }
      where
        new : (k : ℕ) → k ≡ offer_of i best.point best.distance → SeedOf g P xs ids dists K (i + 1) k
        new k e = record { node = i; low = omega arith; short = short; best = (best.point, best.distance); gives = b.from; is = e }

-- ---- take_in: what `put_last` leaves of the lent parts, said of the whole arrays.
module _ (P : List ℕ) {xs ids dists : List ℕ} {K i : ℕ} (can : CanTakeIn xs ids dists K i) where
  ids_long : length (mid_of (i * K) ((i * K + K) - i * K) ids) ≡ K
  ids_long = row_long i K ids can.fits

  dists_long : length (mid_of (i * K) ((i * K + K) - i * K) dists) ≡ K
  dists_long = row_long i K dists (omega (arith, can.fits, can.same))

  pub not_taken : {p d : ℕ} → (is_short xs i ≡ false) ⊎ ((LONGEST < d) ⊎ (lockers P p ≤ times p (row_at ids dists K i))) → TakenIn P xs xs ids dists ids dists K i p d false
  not_taken why =
      record {
        size = refl;
        ids_size = refl;
        dists_size = refl;
        others = λ c n. refl;
        taken = λ e. absurd (false≢true e);
        refused = λ e. record { words = refl; row = refl; why = why };
      }

  module _ {p d : ℕ} {zs ws : List ℕ} {r : Bool} where
    pub took_in : PutLast P (mid_of (i * K) ((i * K + K) - i * K) ids) (mid_of (i * K) ((i * K + K) - i * K) dists) zs ws p d r → r ≡ true → get_or xs i 0 ≡ 1 → d ≤ LONGEST
        → TakenIn P xs (set xs i 0) ids dists (put_mid (i * K) ((i * K + K) - i * K) ids zs) (put_mid (i * K) ((i * K + K) - i * K) dists ws) K i p d true
    took_in t took short low =
        rw (new_ids, new_dists)
        (record {
          size = length-set xs i 0;
          ids_size = length-set ids (i * K + (K - 1)) p;
          dists_size = length-set dists (i * K + (K - 1)) d;
          others = set_other K i (K - 1) p d ids dists (omega (arith, can.some));
          taken =
              λ e.
              record {
                short = eq-eqb (get_or xs i 0) 1 short;
                low = low;
                lacks = omega (arith, rw (row_width i K) at (t.taken took).0, part_times P ids dists K i can.fits p);
                words = refl;
                row =
                    set_row K i (K - 1) p d ids dists (omega (arith, can.some)) (omega (arith, can.some, can.fits))
                    (omega (arith, can.some, can.fits, can.same));
              };
          refused = λ e. absurd (true≢false e);
        })
      where
        new_ids : put_mid (i * K) ((i * K + K) - i * K) ids zs ≡ set ids (i * K + (K - 1)) p
        new_ids =
            ap (put_mid (i * K) ((i * K + K) - i * K) ids) ((t.taken took).1 ∙ ap (λ n. set (mid_of (i * K) ((i * K + K) - i * K) ids) (n - 1) p) ids_long)
            ∙ set_mid_at (i * K) ((i * K + K) - i * K) (K - 1) ids p (omega (arith, ids_long, can.some))

        new_dists : put_mid (i * K) ((i * K + K) - i * K) dists ws ≡ set dists (i * K + (K - 1)) d
        new_dists =
            ap (put_mid (i * K) ((i * K + K) - i * K) dists) ((t.taken took).2 ∙ ap (λ n. set (mid_of (i * K) ((i * K + K) - i * K) dists) (n - 1) d) ids_long)
            ∙ set_mid_at (i * K) ((i * K + K) - i * K) (K - 1) dists d (omega (arith, dists_long, can.some))

    pub left_out : PutLast P (mid_of (i * K) ((i * K + K) - i * K) ids) (mid_of (i * K) ((i * K + K) - i * K) dists) zs ws p d r → r ≡ false
        → TakenIn P xs xs ids dists (put_mid (i * K) ((i * K + K) - i * K) ids zs) (put_mid (i * K) ((i * K + K) - i * K) dists ws) K i p d false
    left_out t gone =
        let q = ap (put_mid (i * K) ((i * K + K) - i * K) ids) (t.refused gone).1 ∙ put_same (i * K) ((i * K + K) - i * K) ids in
        let s = ap (put_mid (i * K) ((i * K + K) - i * K) dists) (t.refused gone).2 ∙ put_same (i * K) ((i * K + K) - i * K) dists in
        rw (q, s) (not_taken (inr (inr (omega (arith, rw (row_width i K) at (t.refused gone).0, part_times P ids dists K i can.fits p)))))
