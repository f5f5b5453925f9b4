-- Lazy with extended pruning under way. The outer expansion verifies points (`Discovering`), the second one spreads them over the rows (`Second`,
-- `SecondSound`). A node whose row has k distances below its label is beaten, so the outer expansion may stop behind it.
-- Assumes nothing.
use Prim.Native.Nat.{ℕ, ◌+◌, ◌*◌, ◌≤◌, ◌<◌}
use mathlib.Core.Path.{◌≡◌, refl, sym, ap, ◌∙◌}
use mathlib.Core.Bool.{Bool, true, false, false≢true}
use mathlib.Core.Logic.{inl, inr, ⊎_elim}
use mathlib.Core.List.{List, ◌++◌}
use native.Mathlib.Nat.{zero-add}
use native.Mathlib.Decide.{dec_lt}
use native.Mathlib.Omega.{arith}
use lib.ListN.{length, get_or, set, take, drop, length-set, get_or-eq_default}
use lib.Seq.{get_or-set_same, get_or-set_other, get_or-take, length-take-le, ext_get_or}
use Rattle.network.specs.Network.{Network, node_count, neighbours_of}
use Rattle.network.specs.Accepted.{Accepted}
use Rattle.network.specs.Walk.{here}
use Rattle.network.specs.Count.{weighed, select}
use Rattle.network.specs.Points.{lockers, marked, listed}
use Rattle.expansion.specs.Queue.{key_of}
use Rattle.expansion.specs.Tags.{tag_of}
use Rattle.expansion.specs.NodeQueue.{PushedNode}
use Rattle.expansion.specs.Area.{queue_base, LabelAt, Kept, Moved, Took, Followed}
use Rattle.expansion.proofs.Origins.{one}
use Rattle.expansion.specs.declared.verify.Site.TheVariants.{One}
use Rattle.expansion.specs.Visited.{CanVisit, VerifyLeft}
use Rattle.expansion.proofs.AreaLaws.{moved_same, settled_as, frame_settle}
use Rattle.expansion.proofs.AreaSearch.{label_back, took_area, took_word, took_moved, took_exact}
use Rattle.expansion.proofs.Progress.{took_small}
use Rattle.expansion.proofs.Beside.{Beside, beside_first, drop_beside, label_beside, beside_label_at, progress_beside}
use Rattle.searches.specs.Eager.{is_found}
use Rattle.lazy_searches.specs.Second.{words_base, second_base, second_queue, id_at, word_at, Second, SecondSound, CanAdmit, Admitted, CanAdvance, Advanced, is_below, Closed}
use Rattle.lazy_searches.specs.LazyEp.{CanSettle, ClosedBehind, TakenBack, CanDiscoverEp, PointVerified, DiscoveredEp}
use Rattle.searches.proofs.Beaten.{Unbeaten, stops}
use Rattle.searches.proofs.Listed.{listed_parts, listed_verified, verified_listed}
use Rattle.network.proofs.Lends.{row_fits, first_size, first_part, first_after}
use Rattle.network.proofs.Totals.{total_same}
use Rattle.lazy_searches.proofs.SecondLaws.{sound_part, second_start, sound_start, closed_nearer}
use Rattle.lazy_searches.proofs.Parents.{came_beside, parent_low}
use Rattle.lazy_searches.proofs.LazySearch.{joins_here, Discovering, Arrived, leads, tells_same, discovering_start, label_exact, discovering_dropped, joined, joins_grow, tells_joined, arrive, front, discovering_stopped, discovering_opened, discovered_listed}

-- ---- The first words of a list.
module _ (e : ℕ) (xs ys : List ℕ) (fits : e ≤ length xs) where
  pub take_same : length ys ≡ length xs → ((i : ℕ) → i < e → get_or ys i 0 ≡ get_or xs i 0) → take e ys ≡ take e xs
  take_same size same =
      let a = length-take-le e xs fits in
      let b = length-take-le e ys (omega arith) in
      ext_get_or 0 (take e ys) (take e xs) (omega arith)
      (λ i h. get_or-take e ys i 0 (omega arith) ∙ same i (omega arith) ∙ sym (get_or-take e xs i 0 (omega arith)))

  -- ys are the first e words, and come back as such
  pub take_first : length ys ≡ length (take e xs) → take e (ys ++ drop e xs) ≡ ys
  take_first size =
      let a = length-take-le e xs fits in
      let b = length-take-le e (ys ++ drop e xs) (omega (arith, first_size e xs ys fits size)) in
      ext_get_or 0 (take e (ys ++ drop e xs)) ys (omega arith)
      (λ i h. get_or-take e (ys ++ drop e xs) i 0 (omega arith) ∙ first_part e xs ys fits size i (omega arith))

pub take_less : (d e : ℕ) (xs : List ℕ) → d ≤ e → e ≤ length xs → take d (take e xs) ≡ take d xs
take_less d e xs h l =
    let a = length-take-le e xs l in
    let b = length-take-le d (take e xs) (omega arith) in
    let c = length-take-le d xs (omega arith) in
    ext_get_or 0 (take d (take e xs)) (take d xs) (omega arith)
    (λ i m. get_or-take d (take e xs) i 0 (omega arith) ∙ get_or-take e xs i 0 (omega arith) ∙ sym (get_or-take d xs i 0 (omega arith)))

-- ---- The second expansion reads no flag.
module _ (n k : ℕ) {xs ys : List ℕ} (same : Beside xs ys n) where
  id_beside : (u j : ℕ) → id_at n k ys u j ≡ id_at n k xs u j
  id_beside u j = same.words (n + u * k + j) (omega arith)

  word_beside : (u j : ℕ) → word_at n k ys u j ≡ word_at n k xs u j
  word_beside u j = same.words (words_base n k + u * k + j) (omega arith)

  queue_beside : second_queue n k ys ≡ second_queue n k xs
  queue_beside = drop_beside same (second_base n k) (omega arith)

pub second_beside : {g : Network} {xs ys : List ℕ} {k len : ℕ} → Beside xs ys (node_count g) → Second g xs k len → Second g ys k len
second_beside {g} {xs} {ys} {k} {len} same s =
    record {
      fits = omega (arith, s.fits, same.size);
      queue = rw queue s.queue;
      points = λ key h. s.points key (rw queue at h);
      nodes = λ key h. s.nodes key (rw queue at h);
      distinct =
          λ u i j h l m a b e.
          s.distinct u i j h l m (rw (word_beside (node_count g) k same u i) at a) (rw (word_beside (node_count g) k same u j) at b)
          (sym (id_beside (node_count g) k same u i) ∙ e ∙ id_beside (node_count g) k same u j);
    }
  where
    queue : second_queue (node_count g) k ys ≡ second_queue (node_count g) k xs
    queue = queue_beside (node_count g) k same

pub sound_beside : {g : Network} {M xs ys : List ℕ} {k len : ℕ} → Beside xs ys (node_count g) → SecondSound g M xs k len → SecondSound g M ys k len
sound_beside {g} {M} {xs} {ys} {k} {len} same s =
    record {
      stands = λ u j d h l e. rw (id_beside (node_count g) k same u j) (s.stands u j d h l (sym (word_beside (node_count g) k same u j) ∙ e));
      waits = λ key h. s.waits key (rw (queue_beside (node_count g) k same) at h);
    }

-- a row that is closed in the whole list is closed in its first words, where these hold all rows
pub closed_part : {P : List ℕ} {n k u l : ℕ} (e : ℕ) {xs : List ℕ} → u < n → second_base n k ≤ e → Closed P n xs k u l → Closed P n (take e xs) k u l
closed_part {P} {n} {k} {u} {l} e {xs} h m c =
    record {
      enough =
          omega (
            arith,
            c.enough,
            total_same (λ j. weighed (is_below n k xs u l j) (lockers P (id_at n k xs u j)))
                (λ j. weighed (is_below n k (take e xs) u l j) (lockers P (id_at n k (take e xs) u j))) k same,
          );
    }
  where
    same : (j : ℕ) → j < k → weighed (is_below n k (take e xs) u l j) (lockers P (id_at n k (take e xs) u j)) ≡ weighed (is_below n k xs u l j) (lockers P (id_at n k xs u j))
    same j a =
        rw (
          get_or-take e xs (words_base n k + u * k + j) 0 (omega (arith, row_fits u n k h)),
          get_or-take e xs (n + u * k + j) 0 (omega (arith, row_fits u n k h)),
        )

-- ---- Verifying a point.
module _ {g : Network} {P : List ℕ} {q k v inner : ℕ} {xs : List ℕ} (c : CanVisit g P xs inner v (One q)) (low : node_count g ≤ inner) (mark : marked P v ≡ true)
    {zs : List ℕ} {answer : Bool} (r : VerifyLeft g P v (One q) k xs zs inner answer) where
  word : (i : ℕ) → get_or zs i 0 ≡ get_or xs i 0
  word i =
      elim (dec_lt i inner) [
        | yes h ↦ r.area.frame.words i h
        | no h ↦ r.area.blank.zero i (omega arith) ∙ sym (c.expand.blank.zero i (omega arith))
      ]

  pub point_yes : answer ≡ true → PointVerified g P q k v xs (set zs v 1)
  point_yes e =
      let room : v < length zs = omega (arith, r.area.frame.size, c.expand.size, c.expand.inside) in
      let one = get_or-set_same zs v 1 0 room in
      record {
        size = length-set zs v 1 ∙ r.area.frame.size;
        flag =
            record {
              other = λ p n h. get_or-set_other zs v p 1 0 n ∙ word p;
              sound = λ n. inr (verified_listed g P q k v mark (sym r.answer ∙ e));
              told = λ l z. omega arith;
            };
        rest = λ i h. get_or-set_other zs v i 1 0 (omega (arith, c.expand.inside)) ∙ word i;
      }

  pub point_no : answer ≡ false → PointVerified g P q k v xs zs
  point_no e =
      record {
        size = r.area.frame.size;
        flag =
            record {
              other = λ p n h. word p;
              sound = λ n. inl (rw (word v) at n);
              told = λ l. absurd (false≢true (sym e ∙ r.answer ∙ listed_verified g P q k v l));
            };
        rest = λ i h. word i;
      }

-- ---- Coming to a node.
module _ {g : Network} {P : List ℕ} {xs : List ℕ} {inner k len v q : ℕ} (c : CanDiscoverEp g P xs inner k len v q) where
  fits : inner ≤ length xs
  fits = omega (arith, c.size)

  low : node_count g ≤ inner
  low = omega (arith, c.rows)

  pub no_point : marked P v ≡ false → DiscoveredEp g P q k v inner xs xs len len
  no_point m =
      record {
        size = refl;
        flag = record { other = λ p n h. refl; sound = λ n. inl n; told = λ l. absurd (false≢true (sym m ∙ ((listed_parts g P q k v).0 l).mark)) };
        blank = c.blank;
        second = c.second;
        sound = λ M here s. s;
      }

  pub can_verify : CanVisit g P xs inner v (One q)
  can_verify =
      record {
        expand = record { accepted = c.accepted; inside = c.inside; blank = c.blank; size = omega (arith, c.size) };
        inside = c.site;
        points = c.points;
      }

  module _ {ys : List ℕ} (w : PointVerified g P q k v xs ys) where
    fits_new : inner ≤ length ys
    fits_new = omega (arith, fits, w.size)

    part : Beside (take inner xs) (take inner ys) (node_count g)
    part =
        record {
          size = omega (arith, length-take-le inner xs fits, length-take-le inner ys fits_new);
          words =
              λ i h.
              elim (dec_lt i inner) [
                | yes m ↦ get_or-take inner ys i 0 m ∙ w.rest i h ∙ sym (get_or-take inner xs i 0 m)
                | no m ↦
                    get_or-eq_default (take inner ys) 0 (omega (arith, length-take-le inner ys fits_new))
                    ∙ sym (get_or-eq_default (take inner xs) 0 (omega (arith, length-take-le inner xs fits)))
              ];
        }

    pub can_admit : CanAdmit g (take inner ys) k len v v 0
    can_admit =
        record {
          accepted = c.accepted;
          second = second_beside part c.second;
          inside = c.inside;
          point = c.inside;
          fits = omega arith;
        }

    pub discovered : {zs : List ℕ} {r : ℕ} → marked P v ≡ true → Admitted g (take inner ys) zs k len r v v 0
        → DiscoveredEp g P q k v inner xs (zs ++ drop inner ys) len r
    discovered {zs} {r} mark a =
        record {
          size = first_size inner ys zs fits_new a.frame.size ∙ w.size;
          flag =
              record {
                other = λ p n h. same p h ∙ w.flag.other p n h;
                sound = λ n. w.flag.sound (rw (same v c.inside) at n);
                told = λ l. rw (same v c.inside) (w.flag.told l);
              };
          blank =
              record {
                zero =
                    λ j h. first_after inner ys zs fits_new a.frame.size j h ∙ w.rest j (omega (arith, low)) ∙ c.blank.zero j h;
              };
          second = rw again a.second;
          sound =
              λ M in-marks s.
              rw again
              (a.sound M (record { inside = c.inside; point = in-marks mark; walk = here }) (sound_beside part s));
        }
      where
        again : take inner (zs ++ drop inner ys) ≡ zs
        again = take_first inner ys zs fits_new a.frame.size

        same : (p : ℕ) → p < node_count g → get_or (zs ++ drop inner ys) p 0 ≡ get_or ys p 0
        same p h =
            first_part inner ys zs fits_new a.frame.size p (omega (arith, low))
            ∙ a.frame.words p h
            ∙ get_or-take inner ys p 0 (omega (arith, low))

-- ---- The search between two entries, with the points verified so far; and when it has come to a node but not settled it.
pub record Extending (g : Network) (P : List ℕ) (q k : ℕ) (xs : List ℕ) (inner outer settled len waiting : ℕ) : Type 0 where
  pub marks : List ℕ
  pub discovering : Discovering g P marks q k xs outer 0 settled len
  pub blank : (j : ℕ) → inner ≤ j → j < outer → get_or xs j 0 ≡ 0
  pub second : Second g (take inner xs) k waiting
  pub sound : SecondSound g marks (take inner xs) k waiting

pub record Coming (g : Network) (P : List ℕ) (q k : ℕ) (xs : List ℕ) (inner outer settled left waiting l v : ℕ) : Type 0 where
  pub marks : List ℕ
  pub arrived : Arrived g P marks q k xs outer 0 settled left l v
  pub blank : (j : ℕ) → inner ≤ j → j < outer → get_or xs j 0 ≡ 0
  pub second : Second g (take inner xs) k waiting
  pub sound : SecondSound g marks (take inner xs) k waiting

-- words before the outer area change, but no flag does
discovering_beside : {g : Network} {P M : List ℕ} {q k settled len outer : ℕ} {xs ys : List ℕ} → Accepted g → Beside xs ys outer
    → ((i : ℕ) → i < 0 + node_count g → get_or ys i 0 ≡ get_or xs i 0) → Discovering g P M q k xs outer 0 settled len → Discovering g P M q k ys outer 0 settled len
discovering_beside ok same flags d =
    record {
      progress = progress_beside same ok d.progress;
      tells = tells_same flags d.tells;
      size = d.size;
      part = d.part;
      whole = d.whole;
      come = λ p h m. rw (label_beside same p) (d.come p h m);
      met = λ p h m n. d.met p h m (rw (label_beside same p) at n);
      came = came_beside same d.came;
    }

module _ {g : Network} {P s₀ : List ℕ} {inner outer q k : ℕ} (c : CanSettle g P s₀ inner outer q k) where
  ok : Accepted g
  ok = c.accepted

  pub flags_low : 0 + node_count g ≤ outer
  flags_low = omega (arith, c.rows, c.middle)

  inner_low : inner ≤ outer
  inner_low = omega (arith, c.middle)

  pub extending_start : {xs : List ℕ} → PushedNode (node_count g) s₀ xs outer (queue_base (node_count g) outer) 0 (key_of 0 (tag_of q q)) → Extending g P q k xs inner outer 0 1 0
  extending_start {xs} t =
      record {
        marks = _;
        discovering = discovering_start ok flags_low c.blank (omega (arith, c.size)) c.site t;
        blank = λ j h l. zero j l;
        second = second_start part (omega (arith, length-take-le inner xs room_inner, c.rows));
        sound = sound_start part _;
      }
    where
      zero : (j : ℕ) → j < outer → get_or xs j 0 ≡ 0
      zero j l = t.frame.before j l ∙ c.blank.zero j (omega arith)

      room_inner : inner ≤ length xs
      room_inner = omega (arith, t.frame.size, c.size, inner_low)

      part : (j : ℕ) → node_count g ≤ j → get_or (take inner xs) j 0 ≡ 0
      part j h =
          elim (dec_lt j inner) [
            | yes m ↦ get_or-take inner xs j 0 m ∙ zero j (omega (arith, inner_low))
            | no m ↦ get_or-eq_default (take inner xs) 0 (omega (arith, length-take-le inner xs room_inner))
          ]

  module _ {xs : List ℕ} {settled len waiting : ℕ} (e : Extending g P q k xs inner outer settled len waiting)
      {ys : List ℕ} {left l v u : ℕ} (t : Took (node_count g) xs ys outer len left l v u) where
    abbrev d : Discovering g P e.marks q k xs outer 0 settled len
    d = e.discovering

    fits_old : outer ≤ length xs
    fits_old = omega (arith, d.progress.area.queue.room)

    fits_taken : outer ≤ length ys
    fits_taken = omega (arith, fits_old, t.popped.frame.size)

    same_part : take inner ys ≡ take inner xs
    same_part = take_same inner xs ys (omega (arith, fits_old, inner_low)) t.popped.frame.size (λ i h. t.popped.frame.before i (omega (arith, inner_low)))

    small : l + 65535 ≤ 4294836225
    small = took_small ok d.progress t

    pub can_advance : CanAdvance g (take inner ys) k waiting l
    can_advance = record { accepted = ok; second = rw same_part e.second; fits = omega (arith, small) }

    -- the second expansion has gone on
    module _ {zs : List ℕ} {waits : ℕ} (a : Advanced g (take inner ys) zs k waiting waits) where
      abbrev ws : List ℕ
      ws = zs ++ drop inner ys

      fits_inner : inner ≤ length ys
      fits_inner = omega (arith, fits_taken, inner_low)

      advanced_beside : Beside ys ws inner
      advanced_beside = beside_first inner ys zs fits_inner a.frame.size

      beside_outer : Beside ys ws outer
      beside_outer = record { size = advanced_beside.size; words = λ i h. advanced_beside.words i (omega (arith, inner_low)) }

      again : take inner ws ≡ zs
      again = take_first inner ys zs fits_inner a.frame.size

      flags_kept : (i : ℕ) → i < 0 + node_count g → get_or ws i 0 ≡ get_or ys i 0
      flags_kept i h =
          first_part inner ys zs fits_inner a.frame.size i (omega (arith, c.rows))
          ∙ a.frame.words i (omega arith)
          ∙ get_or-take inner ys i 0 (omega (arith, c.rows))

      second_on : Second g (take inner ws) k waits
      second_on = rw again a.second

      sound_on : SecondSound g e.marks (take inner ws) k waits
      sound_on = rw again (a.sound e.marks (rw same_part e.sound))

      blank_on : (j : ℕ) → inner ≤ j → j < outer → get_or ws j 0 ≡ 0
      blank_on j h m = advanced_beside.words j h ∙ t.popped.frame.before j m ∙ e.blank j h m

      -- its entry is taken back: its node is beaten, or the node that put it in is
      back_node : Closed P (node_count g) ws k v l → Unbeaten g e.marks (one g q) k v → ⊥
      back_node h o =
          o
          (stops g e.marks (one g q) k v l (label_exact ok flags_low d t)
          (closed_nearer ok second_on sound_on d.whole t.inside (omega (arith, small)) (closed_part inner t.inside c.rows h)))

      pub parent_inside : u < node_count g
      parent_inside = parent_low ok d.progress t d.came

      back_parent : ClosedBehind P (node_count g) ws outer k u → Unbeaten g e.marks (one g q) k u → ⊥
      back_parent h o =
          let at : LabelAt (node_count g) xs outer u h.label =
          label_back (took_moved ok d.progress.area d.progress.searched t) u h.label
          (beside_label_at beside_outer h.settled)
          in
          let area = d.progress.area in
          o
          (stops g e.marks (one g q) k u h.label (d.progress.searched.exact u h.label at)
          (closed_nearer ok second_on sound_on d.whole parent_inside
          (omega (arith, at.is, area.low u parent_inside (omega (arith, at.is)), area.counted, ok.few))
          (closed_part inner parent_inside c.rows h.closed)))

      pub extending_dropped : TakenBack P (node_count g) ws outer k v l u → Extending g P q k ws inner outer settled left waits
      extending_dropped h =
          record {
            marks = e.marks;
            discovering =
                discovering_beside ok beside_outer flags_kept
                (discovering_dropped ok flags_low d t (⊎_elim (λ b. inl (back_node b)) (λ b. inr (back_parent b)) h));
            blank = blank_on;
            second = second_on;
            sound = sound_on;
          }

      pub advanced_size : length ws ≡ length xs
      advanced_size = advanced_beside.size ∙ t.popped.frame.size

      pub can_take_back : (second_base (node_count g) k ≤ length ws) × (outer + node_count g ≤ length ws) × (v < node_count g) × (u < node_count g)
      can_take_back = (
        omega (arith, advanced_size, fits_old, inner_low, c.rows),
        omega (arith, advanced_size, d.progress.area.queue.room),
        t.inside,
        parent_inside,
      )

      -- ---- or its node is come to
      pub fits_on : outer ≤ length ws
      fits_on = omega (arith, fits_taken, beside_outer.size)

      inner_part : take inner (take outer ws) ≡ take inner ws
      inner_part = take_less inner outer ws inner_low fits_on

      pub can_discover : CanDiscoverEp g P (take outer ws) inner k waits v q
      can_discover =
          record {
            accepted = ok;
            points = c.points;
            site = c.site;
            inside = t.inside;
            blank =
                record {
                  zero =
                      λ j h.
                      elim (dec_lt j outer) [
                        | yes m ↦ get_or-take outer ws j 0 m ∙ blank_on j h m
                        | no m ↦ get_or-eq_default (take outer ws) 0 (omega (arith, length-take-le outer ws fits_on))
                      ];
                };
            rows = c.rows;
            size = omega (arith, length-take-le outer ws fits_on, c.middle);
            second = rw inner_part second_on;
          }

      module _ {vs : List ℕ} {more : ℕ} (w : DiscoveredEp g P q k v inner (take outer ws) vs waits more) where
        abbrev us : List ℕ
        us = vs ++ drop outer ws

        beside_come : Beside ws us outer
        beside_come = beside_first outer ws vs fits_on w.size

        beside_both : Beside ys us outer
        beside_both =
            record {
              size = beside_come.size ∙ beside_outer.size;
              words = λ i h. beside_come.words i h ∙ beside_outer.words i h;
            }

        pub come_size : length us ≡ length xs
        come_size = beside_come.size ∙ advanced_size

        outer_part : (i : ℕ) → i < outer → get_or us i 0 ≡ get_or vs i 0
        outer_part i h = first_part outer ws vs fits_on w.size i h

        part_come : take inner us ≡ take inner vs
        part_come =
            let a = length-take-le outer ws fits_on in
            sym (take_less inner outer us inner_low (omega (arith, beside_come.size, fits_on))) ∙ ap (take inner) (take_first outer ws vs fits_on w.size)

        flag_before : (p : ℕ) → p < node_count g → get_or (take outer ws) p 0 ≡ get_or xs (0 + p) 0
        flag_before p h =
            get_or-take outer ws p 0 (omega (arith, flags_low))
            ∙ flags_kept p (omega arith)
            ∙ t.popped.frame.before p (omega (arith, flags_low))
            ∙ ap (λ (i : ℕ). get_or xs i 0) (sym (zero-add p))

        flag_after : (p : ℕ) → p < node_count g → get_or us (0 + p) 0 ≡ get_or vs p 0
        flag_after p h = ap (λ (i : ℕ). get_or us i 0) (zero-add p) ∙ outer_part p (omega (arith, flags_low))

        pub coming : Coming g P q k us inner outer settled left more l v
        coming =
            let j = joined ok flags_low d t in
            record {
              marks = j.0;
              arrived =
                  arrive ok flags_low d t j.1 beside_both
                  (tells_joined ok flags_low d t j.1
                  (λ p h n. flag_after p h ∙ w.flag.other p n h ∙ flag_before p h)
                  (λ n.
                  ⊎_elim
                  (λ o. d.tells.sound v t.inside (rw (flag_before v t.inside) at o))
                  (λ o. o)
                  (w.flag.sound (rw (flag_after v t.inside) at n)))
                  (λ o. rw (flag_after v t.inside) (w.flag.told o)));
              blank = λ i h m. outer_part i m ∙ w.blank.zero i h;
              second = rw part_come w.second;
              sound =
                  rw part_come
                  (w.sound j.0 (λ m. joins_here j.1 ∙ m) (rw inner_part (sound_part (joins_grow ok flags_low d t j.1) sound_on)));
            }

  -- ---- The node is settled.
  module _ {xs : List ℕ} {settled left waiting l v : ℕ} (e : Coming g P q k xs inner outer settled left waiting l v) where
    abbrev a : Arrived g P e.marks q k xs outer 0 settled left l v
    a = e.arrived

    fits_come : outer ≤ length xs
    fits_come = omega (arith, a.progress.area.queue.room, a.took.popped.frame.size)

    pub kept_settled : Kept xs (settled_as (node_count g) xs outer settled v l) outer
    kept_settled =
        frame_settle (took_area ok a.progress.area a.progress.searched a.took) v l a.took.inside
        (took_word ok a.progress.area a.progress.searched a.took)

    module _ {ws : List ℕ} (same : Moved (node_count g) (settled_as (node_count g) xs outer settled v l) ws outer) where
      part_same : take inner ws ≡ take inner xs
      part_same =
          take_same inner xs ws (omega (arith, fits_come, inner_low))
          (same.size ∙ kept_settled.size)
          (λ i h. front ok flags_low a same i (omega (arith, inner_low)))

      next : {len : ℕ} → Discovering g P e.marks q k ws outer 0 (settled + 1) len → Extending g P q k ws inner outer (settled + 1) len waiting
      next n =
          record {
            marks = e.marks;
            discovering = n;
            blank = λ j h m. front ok flags_low a same j m ∙ e.blank j h m;
            second = rw part_same e.second;
            sound = rw part_same e.sound;
          }

    pub can_close : (second_base (node_count g) k ≤ length (settled_as (node_count g) xs outer settled v l)) × (v < node_count g)
    can_close = (omega (arith, kept_settled.size, fits_come, inner_low, c.rows), a.took.inside)

    closed_beaten : Closed P (node_count g) (settled_as (node_count g) xs outer settled v l) k v l → Unbeaten g e.marks (one g q) k v → ⊥
    closed_beaten h o =
        let inside = a.took.inside in
        o
        (stops g e.marks (one g q) k v l (λ n. took_exact ok a.progress.area a.progress.searched a.took (leads ok e.marks q k) n)
        (closed_nearer ok e.second e.sound a.whole inside (omega (arith, took_small ok a.progress a.took))
        (rw (part_same moved_same) at (closed_part inner inside c.rows h))))

    pub extending_stopped : Closed P (node_count g) (settled_as (node_count g) xs outer settled v l) k v l
        → Extending g P q k (settled_as (node_count g) xs outer settled v l) inner outer (settled + 1) left waiting
    extending_stopped h = next moved_same (discovering_stopped ok flags_low a (closed_beaten h))

    pub extending_opened : {ws : List ℕ} {more : ℕ} → Followed g (settled_as (node_count g) xs outer settled v l) ws outer left more v l (length (neighbours_of g v))
        → Extending g P q k ws inner outer (settled + 1) more waiting
    extending_opened w = next w.frame (discovering_opened ok flags_low a w)

  -- ---- No entry waits.
  pub extended_listed : {xs : List ℕ} {settled len waiting : ℕ} → Extending g P q k xs inner outer settled len waiting → len ≡ 0
      → select (is_found 0 xs) (node_count g) ≡ listed g P q k
  extended_listed e t = discovered_listed ok flags_low e.discovering t
