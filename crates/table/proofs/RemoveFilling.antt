-- Filling under way, for a table of any contents: what waits has room, since each short row takes once at the most; and a table that is being mended
-- stays so. What `remove` leaves.
-- Assumes nothing.
use Prim.Native.Nat.{ℕ, ◌+◌, ◌-◌, ◌*◌, ◌≤◌, ◌<◌}
use mathlib.Core.Path.{◌≡◌, refl, sym, ap, ◌∙◌}
use mathlib.Core.Logic.{⊎_elim}
use mathlib.Core.Bool.{Bool, true, false}
use mathlib.Core.List.{List}
use native.Mathlib.Nat.{mul-le-mul_right}
use native.Mathlib.Omega.{arith}
use lib.Dec.{eqb}
use lib.ListN.{length, get_or, set, drop, replicate, length-set, length-replicate}
use Rattle.network.specs.Points.{lockers, fewer_at}
use lib.Seq.{drop-set-lt, get_or-drop, get_or-set_same, get_or-set_other}
use borrow.Author.Tests.{ne_eqb, lt-ltb, ltb-true}
use Rattle.network.specs.Network.{Network, node_count, arc_count, neighbours_of, weights_of}
use Rattle.network.specs.Distance.{LONGEST}
use Rattle.network.specs.Accepted.{Accepted}
use Rattle.network.proofs.Rank.{marked_inside}
use Rattle.network.proofs.Ranges.{arc_at, neighbours_length}
use Rattle.network.proofs.NumberZero.{accepted_ranges}
use Rattle.expansion.specs.Queue.{PoppedAt}
use Rattle.expansion.specs.Area.{PutAmong}
use Rattle.table.specs.Room.{degree, arcs_left}
use Rattle.expansion.proofs.QueueLaws.{empty_queue}
use Rattle.expansion.proofs.Settled.{zero_blank}
use Rattle.expansion.proofs.TagLaws.{entry_same}
use Rattle.table.proofs.Room.{left_same, left_less, left_most}
use Rattle.network.specs.Rows.{Sized}
use Rattle.rows.specs.Update.{Added}
use Rattle.table.specs.Offer.{offer_of, arc_offer, CanOffer}
use Rattle.table.specs.Mend.{is_short, CanFree, Freed, CanSeedShort, ShortSeeded, CanTakeIn, TakenIn, OfferedShort, OfferEntry, Waiting, CanFill, Mending, FillLeft}
use Rattle.table.specs.Remove.{CanRemove}
use Rattle.table.specs.Updated.{UpdateLeft}
use Rattle.rows.proofs.Laid.{rows_table}
use Rattle.rows.proofs.Update.{set_removed}
use Rattle.table.proofs.RemoveSteps.{freed_few, row_inside}
use Rattle.table.proofs.Mending.{mending_start, changed_rows, mending_end, mending_skipped, mending_taken}

-- the first offers
pub waiting_start : {g : Network} {Q ys zs ids dists : List ℕ} {K len : ℕ} → Accepted g → length Q ≡ node_count g
    → node_count g + 2 * (node_count g + arc_count g) ≤ length ys → ShortSeeded g Q ys zs ids dists K (node_count g) len → Waiting g zs len
waiting_start {g} {Q} {ys} {zs} ok points room s =
    record {
      queue = s.queue;
      entries =
          λ k h.
          let v = s.only k h in
          let e = ap (λ (y : ℕ × ℕ). y.0) v.gives.is in
          record {
            node = v.node;
            point = v.best.0;
            far = v.best.1;
            is = v.is;
            inside = v.low;
            low = omega (arith, e, marked_inside Q v.gives.point (lt-ltb 0 (lockers Q v.gives.point) (omega (arith, v.gives.fit.lacks))), points);
          };
      room = omega (arith, s.few, left_most ok (is_short zs));
      size = omega (arith, s.frame.size);
    }

module _ {g : Network} (ok : Accepted g) {xs : List ℕ} {len : ℕ} (w : Waiting g xs len) where
  -- an entry leaves the queue
  module _ {ys : List ℕ} (i p d : ℕ) (o : PoppedAt xs ys (node_count g) len (offer_of i p d)) (some : 0 < len) where
    pub popped_inside : i < 65536 → p < 65536 → (i < node_count g) × (p < node_count g)
    popped_inside h l =
        let e = w.entries (offer_of i p d) o.queue.was in
        let f = ok.few in
        let q = entry_same d p i e.far e.point e.node l h (omega (arith, e.low)) (omega (arith, e.inside)) e.is in
        (omega (arith, q.2, e.inside), omega (arith, q.1, e.low))

    same_left : arcs_left g (is_short ys) (node_count g) ≡ arcs_left g (is_short xs) (node_count g)
    same_left = left_same g (is_short xs) (is_short ys) (node_count g) (λ c h. ap (λ v. eqb v 1) (o.before c h))

    pub waiting_popped : Waiting g ys (len - 1)
    waiting_popped =
        record {
          queue = o.queue.queue;
          entries = λ k h. w.entries k (o.queue.old k h);
          room = omega (arith, w.room, same_left);
          size = omega (arith, w.size, o.size);
        }

    pub popped_falls : len - 1 + arcs_left g (is_short ys) (node_count g) < len + arcs_left g (is_short xs) (node_count g)
    popped_falls = omega (arith, same_left)

  -- a short row takes it, and its neighbours are offered it
  module _ {i : ℕ} (low : i < node_count g) (short : is_short xs i ≡ true) where
    fits : i < length xs
    fits = omega (arith, w.size)

    taken_left : (ys : List ℕ) → ((c : ℕ) → c < node_count g → get_or ys c 0 ≡ get_or (set xs i 0) c 0)
        → arcs_left g (is_short ys) (node_count g) + degree g i ≡ arcs_left g (is_short xs) (node_count g)
    taken_left ys same =
        left_less g (is_short xs) (is_short ys) i (node_count g) low short
        (ne_eqb (get_or ys i 0) 1 (omega (arith, same i low, get_or-set_same xs i 0 0 fits)))
        (λ c h n. ap (λ v. eqb v 1) (same c h ∙ get_or-set_other xs i c 0 0 n))

    arcs_of_lem : length (neighbours_of g i) ≡ degree g i
    arcs_of_lem = neighbours_length (accepted_ranges ok) i low

    queue : drop (node_count g) (set xs i 0) ≡ drop (node_count g) xs
    queue = drop-set-lt (node_count g) xs i 0 low

    pub waiting_offer : {p d : ℕ} → p < node_count g → d ≤ LONGEST → CanOffer g (set xs i 0) len i p d
    waiting_offer point far =
        record {
          accepted = ok;
          inside = low;
          point = point;
          fits = omega arith;
          queue = rw queue w.queue;
          room = simp length-set (omega (arith, w.size, w.room, arcs_of_lem, taken_left (set xs i 0) (λ c h. refl)));
        }

    module _ {ys : List ℕ} {p more : ℕ} (d : ℕ) (point : p < node_count g) (f : OfferedShort g (set xs i 0) ys len more i p d (length (neighbours_of g i))) where
      left : arcs_left g (is_short ys) (node_count g) + degree g i ≡ arcs_left g (is_short xs) (node_count g)
      left = taken_left ys f.frame.words

      pub waiting_taken : Waiting g ys more
      waiting_taken =
          record {
            queue = f.queue;
            entries = λ k h. ⊎_elim (λ o. w.entries k (rw queue at o)) (λ o. new k o) ((f.holds k).0 h);
            room = omega (arith, w.room, f.grown, arcs_of_lem, left);
            size = omega (arith, w.size, f.frame.size ∙ length-set xs i 0);
          }
        where
          new : {Puts : ℕ → Type 0} (k : ℕ) → PutAmong (arc_offer g i p d) Puts (length (neighbours_of g i)) k → OfferEntry (node_count g) k
          new k o =
              record {
                node = get_or (neighbours_of g i) o.place 0;
                point = p;
                far = d + get_or (weights_of g i) o.place 0;
                is = o.is;
                inside = ok.leads_in (arc_at (accepted_ranges ok) i low o.place o.low);
                low = point;
              }

      pub taken_falls : more + arcs_left g (is_short ys) (node_count g) ≤ len + arcs_left g (is_short xs) (node_count g)
      taken_falls = omega (arith, f.grown, arcs_of_lem, left)

-- ---- The loop.
pub record Filling (g : Network) (P : List ℕ) (K : ℕ) (xs ids dists : List ℕ) (len : ℕ) (ys ids' dists' : List ℕ) (left : ℕ) : Type 0 where
  pub size : length ys ≡ length xs
  pub sized : Sized g K ids' dists'
  pub waiting : Waiting g ys left
  pub mending : Mending g P K ids dists xs len → Mending g P K ids' dists' ys left

-- what is left to do
abbrev pub fill_work : Network → List ℕ → ℕ → ℕ
fill_work g xs left = left + arcs_left g (is_short xs) (node_count g)

pub filling_start : (P : List ℕ) {g : Network} {xs : List ℕ} {len : ℕ} {ids dists : List ℕ} {K : ℕ} → CanFill g xs len ids dists K → Filling g P K xs ids dists len xs ids dists len
filling_start P c = record { size = refl; sized = c.sized; waiting = c.waiting; mending = λ m. m }

module _ {g : Network} {P : List ℕ} {K : ℕ} {xs ids dists : List ℕ} {len : ℕ} (can : CanFill g xs len ids dists K) {ys ids' dists' : List ℕ} {left : ℕ}
    (f : Filling g P K xs ids dists len ys ids' dists' left) where
  pub filling_end : left ≤ 0 → FillLeft g P xs ys len ids dists ids' dists' K
  filling_end e =
      record { size = f.size; sized = f.sized; mended = λ m. mending_end can.accepted can.some (f.mending m) e }

  -- what `take_in` requires of an entry that left the queue
  pub filling_can : {zs : List ℕ} {k : ℕ} (i p d : ℕ) → k ≡ offer_of i p d → PoppedAt ys zs (node_count g) left k → 0 < left → i < 65536 → p < 65536
      → CanTakeIn zs ids' dists' K i
  filling_can i p d is o some low-i low-p =
      let h = (popped_inside can.accepted f.waiting i p d (rw is at o) some low-i low-p).0 in
      record {
        flag = omega (arith, o.size, f.waiting.size, h);
        some = omega (arith, can.some);
        fits = (row_inside f.sized h).0;
        same = f.sized.all_dists ∙ sym f.sized.all_ids;
      }

  module _ {zs : List ℕ} {k : ℕ} (i p d : ℕ) (is : k ≡ offer_of i p d) (popped : PoppedAt ys zs (node_count g) left k) (some : 0 < left) (low-i : i < 65536) (low-p : p < 65536)
      {ws ids'' dists'' : List ℕ} {r : Bool} (t : TakenIn P zs ws ids' dists' ids'' dists'' K i p d r) where
    o : PoppedAt ys zs (node_count g) left (offer_of i p d)
    o = rw is at popped

    inside : (i < node_count g) × (p < node_count g)
    inside = popped_inside can.accepted f.waiting i p d o some low-i low-p

    after : Waiting g zs (left - 1)
    after = waiting_popped can.accepted f.waiting i p d o some

    new_sized : Sized g K ids'' dists''
    new_sized = record { all_ids = t.ids_size ∙ f.sized.all_ids; all_dists = t.dists_size ∙ f.sized.all_dists }

    pub filling_skipped : r ≡ false → Filling g P K xs ids dists len ws ids'' dists'' (left - 1)
    filling_skipped e =
        let q = t.refused e in
        record {
          size = t.size ∙ o.size ∙ f.size;
          sized = new_sized;
          waiting = rw q.words after;
          mending = λ m. mending_skipped can.accepted can.some (f.mending m) i p d inside.0 inside.1 o t.others q;
        }

    pub skipped_falls : r ≡ false → fill_work g ws (left - 1) < fill_work g ys left
    skipped_falls e = rw (t.refused e).words (popped_falls can.accepted f.waiting i p d o some)

    -- what `offer` requires
    pub filling_offer : r ≡ true → CanOffer g ws (left - 1) i p d
    filling_offer e =
        let q = t.taken e in
        rw q.words (waiting_offer can.accepted after inside.0 q.short inside.1 q.low)

    module _ {vs : List ℕ} {more : ℕ} (e : r ≡ true) (u : OfferedShort g ws vs (left - 1) more i p d (length (neighbours_of g i))) where
      offered : OfferedShort g (set zs i 0) vs (left - 1) more i p d (length (neighbours_of g i))
      offered = rw (t.taken e).words at u

      pub filling_taken : Filling g P K xs ids dists len vs ids'' dists'' more
      filling_taken =
          record {
            size = u.frame.size ∙ t.size ∙ o.size ∙ f.size;
            sized = new_sized;
            waiting = waiting_taken can.accepted after inside.0 (t.taken e).short d inside.1 offered;
            mending =
                λ m.
                mending_taken can.accepted can.some (f.mending m) i p d inside.0 inside.1 o t.others
                (omega (arith, o.size, f.waiting.size, inside.0)) (t.taken e) u;
          }

      pub taken_work : fill_work g vs more < fill_work g ys left
      taken_work =
          omega (
            arith,
            taken_falls can.accepted after inside.0 (t.taken e).short d inside.1 offered,
            popped_falls can.accepted f.waiting i p d o some,
          )

-- ---- Remove.
module _ {g : Network} {P xs ids dists : List ℕ} {x K : ℕ} (can : CanRemove g P xs ids dists x K) where
  -- what `free` requires, for any number of rows
  pub remove_free : (m : ℕ) → m ≤ node_count g → CanFree xs ids dists m K
  remove_free m h =
      record {
        few = omega (arith, can.accepted.few);
        flags = omega (arith, can.room);
        fits = omega (arith, can.sized.all_ids, mul-le-mul_right K h);
        same = can.sized.all_dists ∙ sym can.sized.all_ids;
      }

  pub new_points : length (fewer_at P x) ≡ node_count g
  new_points = length-set P x (get_or P x 0 - 1) ∙ can.points

  module _ {ys ids' dists' : List ℕ} {changed : ℕ} (f : Freed xs ys ids dists ids' dists' K x (lockers P x) (node_count g) changed) where
    freed_sized : Sized g K ids' dists'
    freed_sized = record { all_ids = f.ids_size ∙ can.sized.all_ids; all_dists = f.dists_size ∙ can.sized.all_dists }

    -- what `seed` requires, of any bytes
    module _ {Q : List ℕ} (points : length Q ≡ node_count g) where
      pub remove_seed : CanSeedShort g Q ys ids' dists' K
      remove_seed =
          record {
            accepted = can.accepted;
            points = points;
            sized = freed_sized;
            queue =
                empty_queue (drop (node_count g) ys)
                (λ j. get_or-drop (node_count g) ys j 0 ∙ f.rest (node_count g + j) (omega arith) ∙ can.blank.zero (node_count g + j) (omega arith));
            room = omega (arith, f.size, can.room);
          }

      module _ {zs : List ℕ} {len : ℕ} (s : ShortSeeded g Q ys zs ids' dists' K (node_count g) len) where
        -- what `fill` requires
        pub remove_fill : CanFill g zs len ids' dists' K
        remove_fill =
            record {
              accepted = can.accepted;
              some = can.least;
              sized = freed_sized;
              waiting = waiting_start can.accepted points (omega (arith, f.size, can.room)) s;
            }

        pub remove_size : {ws vs ids'' dists'' : List ℕ} → FillLeft g Q zs ws len ids' dists' ids'' dists'' K → vs ≡ replicate (length ws) 0 → length vs ≡ length xs
        remove_size {ws} u z = ap length z ∙ length-replicate (length ws) 0 ∙ u.size ∙ s.frame.size ∙ f.size

    -- what `remove` leaves; y is the node as an index
    module _ {zs : List ℕ} {len y : ℕ} (is : y ≡ x) (seeded : ShortSeeded g (fewer_at P y) ys zs ids' dists' K (node_count g) len) where
      s : ShortSeeded g (fewer_at P x) ys zs ids' dists' K (node_count g) len
      s = rw is at seeded

      filled : {ws ids'' dists'' : List ℕ} → FillLeft g (fewer_at P y) zs ws len ids' dists' ids'' dists'' K → FillLeft g (fewer_at P x) zs ws len ids' dists' ids'' dists'' K
      filled u = rw is at u

      pub removed : {ws vs ids'' dists'' : List ℕ} → FillLeft g (fewer_at P y) zs ws len ids' dists' ids'' dists'' K → vs ≡ replicate (length ws) 0
          → UpdateLeft g P (fewer_at P x) (fewer_at P y) xs vs ids dists ids'' dists'' K changed
      removed {ws} {vs} {ids''} {dists''} u z =
          record {
            marks = ap (fewer_at P) is;
            area =
                record {
                  frame = record { size = remove_size new_points s (filled u) z; words = λ i h. absurd (omega arith) };
                  blank = zero_blank (length ws) 0 z;
                };
            sized = u.sized;
            most = freed_few f;
            table =
                λ t.
                rows_table (fewer_at P x) K ids'' dists'' u.sized
                (λ i h.
                (filled u).mended
                (mending_start can.accepted can.inside added can.least new_points t (λ j. can.blank.zero j (omega arith)) f s)
                i h);
            counted = λ t. f.counted ∙ sym (changed_rows can.accepted can.inside added can.least new_points t);
          }
        where
          added : Added (fewer_at P x) P x
          added = set_removed P x (get_or P x 0 - 1) (omega (arith, can.inside, can.points)) (omega (arith, ltb-true 0 (get_or P x 0) can.is_point))
