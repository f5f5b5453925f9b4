-- The arrays and the scratch while build fills the table: the rows that the words say are a table under way (`Building`), the offers are the queue's
-- entries, the places behind a row's entries are empty, and the queue has room. An offer that is popped is refused or taken by its row; both
-- keep all this, and the room falls. When the queue is empty, the arrays are the table.
-- Assumes nothing.
use Prim.Native.Nat.{ℕ, ◌+◌, ◌-◌, ◌*◌, ◌≤◌, ◌<◌}
use mathlib.Core.Path.{◌≡◌, sym, ap, ◌∙◌}
use mathlib.Core.Logic.{◌≢◌, ◌⊎◌, inl, inr, ⊎_elim}
use mathlib.Core.Bool.{true}
use mathlib.Core.List.Memᴰ
use mathlib.Core.List.{List, [], ◌++◌, Memᴰ}
use native.Mathlib.Decide.{ℕ_discrete}
use native.Mathlib.Omega.{arith}
use lib.ListN.{length, get_or, drop, replicate, length-set, get_or-replicate}
use borrow.Author.Tests.{ltb-true}
use lib.Seq.{get_or-set_same, get_or-set_other, drop-set-lt}
use Rattle.network.specs.Network.{Network, node_count, arc_count, neighbours_of, weights_of}
use Rattle.network.specs.Accepted.{Accepted}
use Rattle.network.specs.Walk.{here}
use Rattle.network.specs.Distance.{NONE}
use Rattle.network.specs.Nearest.{key}
use Rattle.network.specs.Points.{lockers, marked}
use Rattle.network.specs.Rows.{row, Sized, IsTable}
use Rattle.network.proofs.Ranges.{arc_at, arc_place, neighbours_length}
use Rattle.network.proofs.NumberZero.{accepted_ranges}
use Rattle.network.proofs.Least.{distance}
use Rattle.network.proofs.Distances.{dist_walk}
use Rattle.expansion.specs.Queue.{Holds, Queue, PoppedAt, NoLater}
use Rattle.expansion.specs.Area.{PutAmong, Entered}
use Rattle.table.specs.Room.{degree}
use Rattle.expansion.proofs.TagLaws.{entry_same, no_later_parts}
use Rattle.expansion.proofs.EnteredLaws.{entered_held}
use Rattle.rows.specs.Exact.{Placed}
use Rattle.rows.specs.Flat.{place, places, row_at}
use Rattle.table.specs.Offer.{offer_of, arc_offer}
use Rattle.table.specs.Build.{Stands, NoPlaceAt, CanAppend, AppendTakesAt, AppendRefusesAt, CanOfferOn, OfferedOn, PointsSeeded, CanSpread, often}
use Rattle.rows.proofs.Exact.{exact_row}
use Rattle.rows.proofs.Flat.{places_length, place_in, in_place, places_padded, places_same}
use Rattle.network.proofs.Lends.{row_fits}
use Rattle.rows.proofs.Laid.{rows_apart, rows_table}
use Rattle.rows.proofs.PutLaws.{places_nil}
use Rattle.table.proofs.Building.{Offer, Building, OfferOut, RowTakes, OverArc, Served, has, filled, OffersOn, building_same, building_done, building_dropped, building_taken, offer, stands_placed, full_placed, taken_exact}
use Rattle.table.proofs.BuildSteps.{place_or}
use Rattle.table.proofs.BuildRoom.{free_arcs, free_same, free_less, free_all}
use Rattle.table.proofs.Runs.{run_length, run_in, run_out, places_run}

-- the row of i, without its padding
abbrev pub rows_of : ℕ → List ℕ → List ℕ → List ℕ → ℕ → List (ℕ × ℕ)
rows_of K xs ids dists i = places ids dists (i * K) (get_or xs i 0)

-- the queue offers point p at distance d to the row of i
pub record HeldIn (n : ℕ) (xs : List ℕ) (len i p d : ℕ) : Type 0 where
  pub node : i < 65536
  pub point : p < 65536
  pub holds : Holds (drop n xs) len (offer_of i p d)

pub record Filling (g : Network) (P : List ℕ) (K : ℕ) (xs ids dists : List ℕ) (len : ℕ) : Type 0 where
  pub sized : Sized g K ids dists
  pub room : node_count g + 2 * (node_count g + K * arc_count g) ≤ length xs
  pub queue : Queue (drop (node_count g) xs) len
  pub padding : (i j : ℕ) → i < node_count g → get_or xs i 0 ≤ j → j < K → place ids dists (i * K + j) ≡ (NONE, NONE)
  pub last : ℕ
  pub built : Building g P K (rows_of K xs ids dists) (HeldIn (node_count g) xs len) last
  pub left : len + free_arcs g K xs (node_count g) ≤ node_count g + K * arc_count g

-- a point that stands among the ids is in the row, with the distance at its place
stands_in : (ids dists : List ℕ) (at size p : ℕ) (s : Stands ids at size p) → Memᴰ (p, get_or dists (at + s.index) 0) (places ids dists at size)
stands_in ids dists at size p s = Memᴰ.cast (λ k. (sym s.is k, get_or dists (at + s.index) 0)) (place_in ids dists at size s.index s.low)

-- offers come out by distance and point
rows_order : (i p d j q e : ℕ) → i < 65536 → p < 65536 → j < 65536 → q < 65536 → NoLater (offer_of i p d) (offer_of j q e) → key (p, d) ≤ key (q, e)
rows_order i p d j q e a b a' b' l = ⊎_elim (λ h. omega arith) (λ h. omega arith) (no_later_parts d p i e q j b a b' a' l)

-- ---- The start: all places are empty, and every point is offered to its own row.
module _ {g : Network} {P xs ys ids dists : List ℕ} {K len : ℕ} (c : CanSpread g P xs ids dists K) (s : PointsSeeded P xs ys (length P) len) where
  nodes : length P ≡ node_count g
  nodes = c.can.points

  seeded : Entered (node_count g) xs ys 0 len (node_count g) (λ i. offer_of i i 0) (λ i. marked P i ≡ true)
  seeded = rw nodes at s

  start_word : (i : ℕ) → i < node_count g → get_or ys i 0 ≡ 0
  start_word i h = s.frame.words i (omega (arith, nodes)) ∙ c.can.blank.zero i (omega arith)

  start_held : (i p d : ℕ) → HeldIn (node_count g) ys len i p d → Offer g P i p d
  start_held i p d x =
      ⊎_elim (λ (h : Holds (drop (node_count g) xs) 0 (offer_of i p d)). absurd (omega (arith, h.inside))) from ((seeded.holds (offer_of i p d)).0 x.holds)
    where
      from : PutAmong (λ i. offer_of i i 0) (λ i. marked P i ≡ true) (node_count g) (offer_of i p d) → Offer g P i p d
      from s =
          let f = c.can.accepted.few in
          let e = entry_same d p i 0 s.place s.place x.point x.node (omega (arith, s.low)) (omega (arith, s.low)) s.is in
          record {
            node = omega (arith, s.low, e.2);
            sound = record {
              inside = omega (arith, s.low, e.1);
              point = rw e.1 s.puts;
              walk = rw (e.0, e.1, e.2) here;
            };
          }

  start_built : Building g P K (λ i. []) (HeldIn (node_count g) ys len) 0
  start_built =
      let f = c.can.accepted.few in
      record {
        rows = record {
          sorted =
              λ i h.
              record {
                ordered = tt;
                short = omega arith;
                once = λ p d e m n. absurd (Memᴰ.not-nil m);
                most = λ p. omega arith;
                whole = λ p d m l. absurd (Memᴰ.not-nil m);
              };
          sound = λ i p d h m. absurd (Memᴰ.not-nil m);
          source =
              λ i h a.
              inr
              (record {
                node = omega arith;
                point = omega arith;
                holds = entered_held seeded i h a;
              });
          closed = λ r p d m. absurd (Memᴰ.not-nil m);
        };
        passed = λ i h y m. absurd (Memᴰ.not-nil m);
        ahead = λ i p d x. omega arith;
        held = start_held;
      }

  pub filling_start : Filling g P K ys ids dists len
  filling_start =
      let n = node_count g in
      record {
        sized = c.can.sized;
        room = omega (arith, c.can.room, s.frame.size);
        queue = rw nodes at s.queue;
        padding =
            λ i j h l m.
            let q : i * K + j < n * K = omega (arith, row_fits i n K h) in
            λ k. (
              (ap (λ (l : List ℕ). get_or l (i * K + j) 0) c.empty_ids ∙ get_or-replicate (n * K) (i * K + j) NONE 0 q) k,
              (ap (λ (l : List ℕ). get_or l (i * K + j) 0) c.empty_dists ∙ get_or-replicate (n * K) (i * K + j) NONE 0 q) k,
            );
        last = 0;
        built =
            building_same c.can.accepted
            (λ i h. ap (places ids dists (i * K)) (start_word i h) ∙ places_nil ids dists (i * K))
            start_built;
        left = omega (arith, s.grown, nodes, free_all c.can.accepted K ys start_word);
      }

-- ---- The end.
pub filling_table : {g : Network} {P xs ids dists : List ℕ} {K len : ℕ} → Accepted g → Filling g P K xs ids dists len → len ≤ 0 → IsTable g P K ids dists
filling_table {g} {P} {xs} {ids} {dists} {K} {len} ok f h =
    rows_table P K ids dists f.sized whole
  where
    none : (i p d : ℕ) → HeldIn (node_count g) xs len i p d → ⊥
    none i p d x = omega (arith, x.holds.inside)

    whole : (i : ℕ) → i < node_count g → row_at ids dists K i ≡ row g P K i
    whole i l =
        let s = places_length ids dists (i * K) (get_or xs i 0) in
        let m : get_or xs i 0 ≤ K = omega (arith, (f.built.rows.sorted i l).short) in
        places_padded ids dists (i * K) K (get_or xs i 0) m (λ j a b. f.padding i j l a b)
        ∙ ap (λ (x : ℕ). rows_of K xs ids dists i ++ replicate (K - x) (NONE, NONE)) (sym s)
        ∙ exact_row ok (building_done ok f.built none) i l

-- ---- A turn.
module _ {g : Network} {P xs ys ids dists : List ℕ} {K len : ℕ} (ok : Accepted g) (some : 1 ≤ K) (f : Filling g P K xs ids dists len) (more : 0 < len) (i p d : ℕ)
    (node_fits : i < 65536) (point-fits : p < 65536) (pop : PoppedAt xs ys (node_count g) len (offer_of i p d)) where
  pub taken_out : OfferOut (HeldIn (node_count g) xs len) (HeldIn (node_count g) ys (len - 1)) i p d
  taken_out =
      record {
        was = record { node = node_fits; point = point-fits; holds = pop.queue.was };
        least =
            λ j q e x.
            rows_order i p d j q e node_fits point-fits x.node x.point (pop.queue.first (offer_of j q e) x.holds);
        old = λ j q e x. record { node = x.node; point = x.point; holds = pop.queue.old (offer_of j q e) x.holds };
        kept =
            λ j q e x.
            ⊎_elim
            (λ a. inl (record { node = x.node; point = x.point; holds = a }))
            (λ a.
            let s = entry_same e q j d p i x.point x.node point-fits node_fits a in
            inr (s.2, s.1, s.0))
            (pop.queue.kept (offer_of j q e) x.holds);
      }

  built : Building g P K (rows_of K ys ids dists) (HeldIn (node_count g) xs len) f.last
  built = building_same ok (λ j h. ap (places ids dists (j * K)) (pop.before j h)) f.built

  pub popped_node : i < node_count g
  popped_node = (offer ok some built taken_out).node

  popped_size : get_or ys i 0 ≤ K
  popped_size = omega (arith, (built.rows.sorted i popped_node).short, places_length ids dists (i * K) (get_or ys i 0))

  free_popped : free_arcs g K ys (node_count g) ≡ free_arcs g K xs (node_count g)
  free_popped = free_same g K xs ys (node_count g) (λ x h. pop.before x h)

  -- what `append_at` requires
  some_lockers : 0 < lockers P p
  some_lockers = ltb-true 0 (lockers P p) (offer ok some built taken_out).sound.point

  pub can_append : K ≤ 17 → CanAppend ys ids dists K i (lockers P p)
  can_append most =
      let r = row_fits i (node_count g) K popped_node in
      record {
        look = record { word = omega (arith, popped_node, pop.size, f.room); size = popped_size; ids_room = omega (arith, f.sized.all_ids) };
        places = most;
        dists_room = omega (arith, f.sized.all_dists);
        some = some_lockers;
      }

  -- a point that stands in the row
  stands_row : Stands ids (i * K) (get_or ys i 0) p → Placed K (rows_of K ys ids dists i) p d
  stands_row s =
      stands_placed ok some built taken_out (get_or dists (i * K + s.index) 0) (stands_in ids dists (i * K) (get_or ys i 0) p s)

  module _ {zs ids' dists' : List ℕ} (r : AppendRefusesAt ys zs ids ids' dists dists' K i p) where
    needless : Placed K (rows_of K ys ids dists i) p d
    needless =
        ⊎_elim
        (λ e. full_placed ok some built taken_out (places_length ids dists (i * K) (get_or ys i 0) ∙ e))
        stands_row
        r.place.why

    dropped : Filling g P K ys ids dists (len - 1)
    dropped =
        record {
          sized = f.sized;
          room = omega (arith, f.room, pop.size);
          queue = pop.queue.queue;
          padding = λ j m h l. f.padding j m h (omega (arith, pop.before j h));
          last = key (p, d);
          built = building_dropped ok some built taken_out needless;
          left = omega (arith, f.left, free_popped);
        }

    pub filling_refused : Filling g P K zs ids' dists' (len - 1)
    filling_refused = rw (r.words, r.new_ids, r.new_dists) dropped

    pub refused_less : len - 1 + free_arcs g K zs (node_count g) < len + free_arcs g K xs (node_count g)
    refused_less = omega (arith, free_popped, ap (λ (l : List ℕ). free_arcs g K l (node_count g)) r.words)

  module _ {zs ids' dists' : List ℕ} (r : AppendTakesAt ys zs ids ids' dists dists' K i p d (lockers P p)) where
    abbrev size : ℕ
    size = get_or ys i 0

    -- how often the row takes it
    abbrev new : ℕ
    new = often K size (lockers P p)

    in_words : i < length ys
    in_words = omega (arith, popped_node, pop.size, f.room)

    word_here : get_or zs i 0 ≡ size + new
    word_here = ap (λ (l : List ℕ). get_or l i 0) r.words ∙ get_or-set_same ys i (size + new) 0 in_words

    word_other : (j : ℕ) → j ≢ i → get_or zs j 0 ≡ get_or ys j 0
    word_other j n = ap (λ (l : List ℕ). get_or l j 0) r.words ∙ get_or-set_other ys i j (size + new) 0 n

    same_queue : drop (node_count g) zs ≡ drop (node_count g) ys
    same_queue = ap (drop (node_count g)) r.words ∙ drop-set-lt (node_count g) ys i (size + new) popped_node

    same_words : length zs ≡ length xs
    same_words = ap length r.words ∙ length-set ys i (size + new) ∙ pop.size

    free_row : length (rows_of K ys ids dists i) < K
    free_row = omega (arith, places_length ids dists (i * K) size, r.place.free)

    lacks_row : (e : ℕ) → Memᴰ (p, e) (rows_of K ys ids dists i) → ⊥
    lacks_row e m =
        let a = in_place ids dists (i * K) size (p, e) m in
        r.place.lacks (record { index = a.index; low = a.low; is = sym (ap (λ (z : ℕ × ℕ). z.0) a.is) })

    free_taken : free_arcs g K zs (node_count g) + degree g i ≤ free_arcs g K xs (node_count g)
    free_taken =
        omega (
          arith,
          free_less g K ys zs i (node_count g) popped_node (omega (arith, word_here, r.place.free, some_lockers)) (omega (arith, word_here, r.place.free))
              (λ x h n. word_other x n),
          free_popped,
        )

    arcs_of_lem : length (neighbours_of g i) ≡ degree g i
    arcs_of_lem = neighbours_length (accepted_ranges ok) i popped_node

    same_ids : length ids' ≡ node_count g * K
    same_ids = ap length r.new_ids ∙ run_length ids (i * K + size) p new ∙ f.sized.all_ids

    sizes_fit : (j : ℕ) → j < node_count g → get_or zs j 0 ≤ K
    sizes_fit j h =
        elim (ℕ_discrete j i) [
          | yes e ↦ omega (arith, ap (λ (x : ℕ). get_or zs x 0) e, word_here, r.place.free)
          | no n ↦ omega (arith, word_other j n, (built.rows.sorted j h).short, places_length ids dists (j * K) (get_or ys j 0))
        ]

    -- what `offer` requires
    pub can_offer : CanOfferOn g zs ids' K (len - 1) i p d
    can_offer =
        let o = offer ok some built taken_out in
        let e = taken_exact ok some built taken_out free_row lacks_row in
        let u = dist_walk ok o.sound.walk in
        record {
          can = record {
            accepted = ok;
            inside = popped_node;
            point = o.sound.inside;
            fits = omega (arith, (distance ok i p).bound u.some, ok.few, ok.some);
            queue = rw same_queue pop.queue.queue;
            room = omega (arith, f.room, f.left, same_words, free_taken, arcs_of_lem);
          };
          looks =
              λ j h.
              record {
                word = omega (arith, f.room, same_words);
                size = sizes_fit j h;
                ids_room = omega (arith, row_fits j (node_count g) K h, same_ids);
              };
        }

    -- the places that are taken
    at_here : (j : ℕ) → size ≤ j → j < size + new → place ids' dists' (i * K + j) ≡ (p, d)
    at_here j low high =
        let c = row_fits i (node_count g) K popped_node in
        λ k. (
          (ap (λ (l : List ℕ). get_or l (i * K + j) 0) r.new_ids
              ∙ run_in ids (i * K + size) p new (i * K + j) (omega (arith, f.sized.all_ids, r.place.free)) (omega arith) (omega arith)) k,
          (ap (λ (l : List ℕ). get_or l (i * K + j) 0) r.new_dists
              ∙ run_in dists (i * K + size) d new (i * K + j) (omega (arith, f.sized.all_dists, r.place.free)) (omega arith) (omega arith)) k,
        )

    at_other : (j : ℕ) → (j < i * K + size) ⊎ (i * K + size + new ≤ j) → place ids' dists' j ≡ place ids dists j
    at_other j n = λ k. (
      (ap (λ (l : List ℕ). get_or l j 0) r.new_ids ∙ run_out ids (i * K + size) p new j n) k,
      (ap (λ (l : List ℕ). get_or l j 0) r.new_dists ∙ run_out dists (i * K + size) d new j n) k,
    )

    apart : (j m : ℕ) → j ≢ i → m < K → (j * K + m < i * K + size) ⊎ (i * K + size + new ≤ j * K + m)
    apart j m n l = ⊎_elim (λ h. inl (omega arith)) (λ h. inr (omega (arith, r.place.free))) (rows_apart j i m K n l)

    module _ {ws : List ℕ} {then : ℕ} (o : OfferedOn g zs ws ids' K (len - 1) then i p d (length (neighbours_of g i))) where
      row_takes : RowTakes g P K (rows_of K ys ids dists) (rows_of K ws ids' dists') i p d
      row_takes =
          record {
            here =
                ap (places ids' dists' (i * K)) (o.frame.words i popped_node ∙ word_here)
                ∙ places_run ids' dists' (p, d) (i * K) size new at_here
                ∙ ap (λ (l : List (ℕ × ℕ)). l ++ replicate new (p, d)) (places_same ids' dists' ids dists (i * K) size (λ j h. at_other (i * K + j) (inl (omega arith))))
                ∙ ap (λ (x : ℕ). rows_of K ys ids dists i ++ replicate (often K x (lockers P p)) (p, d)) (sym (places_length ids dists (i * K) size));
            other =
                λ j h n.
                ap (places ids' dists' (j * K)) (o.frame.words j h ∙ word_other j n)
                ∙ places_same ids' dists' ids dists (j * K) (get_or ys j 0)
                (λ m l.
                at_other (j * K + m)
                (apart j m n (omega (arith, (built.rows.sorted j h).short, places_length ids dists (j * K) (get_or ys j 0)))));
          }

      pub taken_size : length ws ≡ length xs
      taken_size = o.frame.size ∙ same_words

      abbrev deg : ℕ
      deg = length (neighbours_of g i)

      over : {Puts : ℕ → Type 0} (j q e : ℕ) → j < 65536 → q < 65536 → PutAmong (arc_offer g i p d) Puts deg (offer_of j q e) → OverArc g i p d j q e
      over j q e a b y =
          let arc = arc_at (accepted_ranges ok) i popped_node y.place y.low in
          let s = entry_same e q j (d + get_or (weights_of g i) y.place 0) p (get_or (neighbours_of g i) y.place 0) b a point-fits (omega (arith, ok.leads_in arc, ok.few)) y.is in
          record { weight = get_or (weights_of g i) y.place 0; arc = rw s.2 arc; point = s.1; far = s.0 }

      -- a row that has no place for p has p, or is full
      served : (j : ℕ) → j < node_count g → NoPlaceAt zs ids' K j p → Served K (rows_of K ws ids' dists' j) p
      served j h a =
          let s = o.frame.words j h in
          rw s
          (⊎_elim
          (λ e. filled (places_length ids' dists' (j * K) (get_or zs j 0) ∙ e))
          (λ y. has (stands_in ids' dists' (j * K) (get_or zs j 0) p y))
          a.why)

      offers_on : OffersOn g K (rows_of K ws ids' dists') (HeldIn (node_count g) ys (len - 1)) (HeldIn (node_count g) ws then) i p d
      offers_on =
          record {
            kept = λ j q e x. record { node = x.node; point = x.point; holds = (o.holds (offer_of j q e)).1 (inl (rw same_queue x.holds)) };
            old =
                λ j q e x.
                ⊎_elim
                (λ a. inl (record { node = x.node; point = x.point; holds = rw same_queue at a }))
                (λ a. inr (over j q e x.node x.point a))
                ((o.holds (offer_of j q e)).0 x.holds);
            new =
                λ {j} {w} arc.
                let y = arc_place (accepted_ranges ok) arc in
                let h = ok.leads_in arc in
                ⊎_elim
                (λ a.
                inr
                (record {
                  node = omega (arith, h, ok.few);
                  point = point-fits;
                  holds = rw (y.leads, y.weighs) at (entered_held o y.at y.low (rw y.leads a));
                }))
                (λ a. inl (served j h a))
                (place_or zs ids' K j p (sizes_fit j h));
          }

      pub taken_less : then + free_arcs g K ws (node_count g) < len + free_arcs g K xs (node_count g)
      taken_less = omega (arith, free_taken, arcs_of_lem, o.grown, free_same g K zs ws (node_count g) (λ x h. o.frame.words x h))

      pub filling_taken : Filling g P K ws ids' dists' then
      filling_taken =
          record {
            sized = record {
              all_ids = same_ids;
              all_dists = ap length r.new_dists ∙ run_length dists (i * K + size) d new ∙ f.sized.all_dists;
            };
            room = omega (arith, f.room, same_words, o.frame.size);
            queue = o.queue;
            padding =
                λ j m h l k.
                let w = o.frame.words j h in
                elim (ℕ_discrete j i) [
                  | yes e ↦
                      let a = ap (λ (x : ℕ). x * K) e in
                      let b = ap (λ (x : ℕ). get_or zs x 0) e in
                      let c = ap (λ (x : ℕ). get_or ys x 0) e in
                      at_other (j * K + m) (inr (omega (arith, word_here)))
                      ∙ f.padding j m h (omega (arith, pop.before j h, word_here)) k
                  | no n ↦ at_other (j * K + m) (apart j m n k) ∙ f.padding j m h (omega (arith, word_other j n, pop.before j h)) k
                ];
            last = key (p, d);
            built = building_taken ok some built taken_out free_row lacks_row row_takes offers_on;
            left = omega (arith, taken_less, f.left);
          }
