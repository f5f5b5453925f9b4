-- Lazy under way, with or without extended pruning. The search verifies each point that it settles; M are the points verified so far. It follows the
-- arcs of the nodes that M leaves unbeaten, and answers for these; more nodes are beaten when M grows. How a search tells that a node is beaten is its
-- own affair. The found flags start at word f, before the area.
-- Assumes nothing.
use Prim.Native.Nat.{ℕ, suc, ◌+◌, ◌*◌, ◌≤◌, ◌<◌}
use mathlib.Core.Path.{◌≡◌, refl, sym, ap, ◌∙◌}
use mathlib.Core.Bool.{Bool, true, false, false≢true}
use mathlib.Core.Logic.{◌≢◌, ◌⊎◌, inl, inr, ⊎_elim}
use mathlib.Core.List.{List, ◌++◌}
use native.Mathlib.Decide.{ℕ_discrete, dec_le}
use native.Mathlib.Omega.{arith}
use lib.Dec.{ltb}
use lib.ListN.{length, get_or, set, take, drop, replicate, length-set, length-replicate}
use lib.Seq.{get_or-set_same, get_or-set_other, get_or-take, length-take-le}
use borrow.Author.Tests.{ltb-true}
use Rattle.network.specs.Network.{Network, node_count, neighbours_of}
use Rattle.network.specs.Accepted.{Accepted}
use Rattle.network.specs.Distance.{NONE, dist}
use Rattle.network.specs.Count.{select}
use Rattle.network.proofs.Tests.{bool_cases}
use Rattle.network.proofs.Counts.{select_same}
use Rattle.network.proofs.Distances.{dist_symmetric}
use Rattle.network.specs.Points.{lockers, marked, is_listed, listed}
use Rattle.expansion.specs.Queue.{key_of}
use Rattle.expansion.specs.Tags.{tag_of}
use Rattle.expansion.specs.NodeQueue.{PushedNode}
use Rattle.expansion.specs.Area.{queue_base, LabelAt, HeldAt, Area, Moved, Blank, Took, CanFollow, Followed}
use Rattle.expansion.specs.Expand.{CanExpand}
use Rattle.expansion.proofs.Origins.{one, one_lawful}
use Rattle.expansion.proofs.Search.{Leads, monotone, closed_leads, frontier}
use Rattle.expansion.proofs.Steps.{AfterStep, waits, not_seen, requeue}
use Rattle.expansion.proofs.Settled.{zero_blank}
use Rattle.expansion.proofs.AreaLaws.{moved_same, settled_as, frame_settle, others_settle}
use Rattle.expansion.proofs.AreaSearch.{AndOne, search_took, took_area, took_word, took_moved, took_waited, took_least, took_exact, search_finished, settle_marks}
use Rattle.expansion.proofs.Progress.{Progress, progress_begun, progress_start, progress_settled, took_place, took_small, took_fits, took_follow}
use Rattle.expansion.proofs.Beside.{Beside, beside_first, label_beside, progress_beside}
use Rattle.searches.specs.Eager.{is_found}
use Rattle.searches.proofs.Beaten.{Unbeaten, Part, unbeaten_part, unbeaten_closed}
use Rattle.searches.proofs.Listed.{listed_parts, lazy_open}
use Rattle.searches.proofs.FlagLaws.{flag_right}
use Rattle.network.proofs.Lends.{first_part}
use Rattle.expansion.proofs.Stopping.{progress_stopped, took_beside}
use Rattle.lazy_searches.proofs.Parents.{AllCame, came_start, came_beside, came_took, came_stopped, came_followed, parent_seen, search_work, work_settled}

-- a flagged node is listed, and a listed one of M is flagged
pub record Tells (g : Network) (P M : List ℕ) (q k : ℕ) (xs : List ℕ) (f : ℕ) : Type 0 where
  pub sound : (p : ℕ) → p < node_count g → get_or xs (f + p) 0 ≢ 0 → is_listed g P q k p ≡ true
  pub told : (p : ℕ) → p < node_count g → marked M p ≡ true → is_listed g P q k p ≡ true → get_or xs (f + p) 0 ≢ 0

-- a point of M has all the lockers that it has in P
abbrev pub Whole : List ℕ → List ℕ → Type 0
Whole P M = (p : ℕ) → marked M p ≡ true → lockers P p ≤ lockers M p

-- the search between two entries: M are the points settled
pub record Discovering (g : Network) (P M : List ℕ) (q k : ℕ) (xs : List ℕ) (b f settled len : ℕ) : Type 0 where
  pub progress : Progress g (one g q) (Unbeaten g M (one g q) k) (Unbeaten g M (one g q) k) xs b settled len
  pub tells : Tells g P M q k xs f
  pub size : length M ≡ node_count g
  pub part : Part M P
  pub whole : Whole P M
  pub come : (p : ℕ) → p < node_count g → marked M p ≡ true → node_count g < get_or xs (b + p) 0
  pub met : (p : ℕ) → p < node_count g → marked P p ≡ true → node_count g < get_or xs (b + p) 0 → marked M p ≡ true
  pub came : AllCame g q xs b len

-- the search when an entry of v at label l is taken, and v, where it is a point, is verified and among M, but not yet settled
pub record Arrived (g : Network) (P M : List ℕ) (q k : ℕ) (ys : List ℕ) (b f settled left l v : ℕ) : Type 0 where
  pub before : List ℕ
  pub len : ℕ
  pub parent : ℕ
  pub progress : Progress g (one g q) (Unbeaten g M (one g q) k) (Unbeaten g M (one g q) k) before b settled len
  pub took : Took (node_count g) before ys b len left l v parent
  pub tells : Tells g P M q k ys f
  pub size : length M ≡ node_count g
  pub part : Part M P
  pub whole : Whole P M
  pub here : marked P v ≡ true → marked M v ≡ true
  pub come : (p : ℕ) → p < node_count g → p ≢ v → marked M p ≡ true → node_count g < get_or ys (b + p) 0
  pub met : (p : ℕ) → p < node_count g → p ≢ v → marked P p ≡ true → node_count g < get_or ys (b + p) 0 → marked M p ≡ true
  pub came : AllCame g q ys b left

-- what `settle` and `open` require then, and that settling the node lessens the work
module _ {g : Network} {P M : List ℕ} {q k : ℕ} {ys : List ℕ} {b f settled left l v : ℕ} (ok : Accepted g) (a : Arrived g P M q k ys b f settled left l v) where
  pub arrived_fits : (b + node_count g + settled < length ys) × (b + v < length ys) × (l + node_count g + 1 < 4294967296) × (node_count g ≤ 65535)
  arrived_fits = took_fits ok a.progress a.took

  pub arrived_follows : CanFollow g (settled_as (node_count g) ys b settled v l) b left v l
  arrived_follows = took_follow ok a.progress a.took

  pub arrived_less : (len : ℕ) {more : ℕ} → more ≤ node_count g → search_work (node_count g) (settled + 1) more < search_work (node_count g) settled len
  arrived_less len {more} h = work_settled (node_count g) settled len more (took_place ok a.progress a.took) h

-- M' is M, with the lockers of P at v
pub record Joins (P M M' : List ℕ) (v : ℕ) : Type 0 where
  pub size : length M' ≡ length M
  pub others : (x : ℕ) → x ≢ v → lockers M' x ≡ lockers M x
  pub own : lockers M' v ≡ lockers P v

pub joins_other : {P M M' : List ℕ} {v : ℕ} → Joins P M M' v → (x : ℕ) → x ≢ v → marked M' x ≡ marked M x
joins_other j x n = ap (ltb 0) (j.others x n)

pub joins_here : {P M M' : List ℕ} {v : ℕ} → Joins P M M' v → marked M' v ≡ marked P v
joins_here j = ap (ltb 0) j.own

pub leads : {g : Network} → Accepted g → (M : List ℕ) (q k : ℕ) → Leads g (one g q) (Unbeaten g M (one g q) k) (Unbeaten g M (one g q) k)
leads ok M q k = closed_leads (one_lawful ok q) (unbeaten_closed ok (one_lawful ok q) M k)

-- flags that are the same words
pub tells_same : {g : Network} {P M : List ℕ} {q k f : ℕ} {xs ys : List ℕ} → ((i : ℕ) → i < f + node_count g → get_or ys i 0 ≡ get_or xs i 0) → Tells g P M q k xs f → Tells g P M q k ys f
tells_same {f} same t =
    record {
      sound = λ p h n. t.sound p h (rw (same (f + p) (omega arith)) at n);
      told = λ p h m a. rw (same (f + p) (omega arith)) (t.told p h m a);
    }

module _ {g : Network} (ok : Accepted g) {P : List ℕ} {q k b f : ℕ} (low : f + node_count g ≤ b) where
  -- ---- The search begins: no point is verified.
  pub discovering_start : {xs ys : List ℕ} → Blank xs f → queue_base (node_count g) b + 2 * node_count g ≤ length xs → q < node_count g
      → PushedNode (node_count g) xs ys b (queue_base (node_count g) b) 0 (key_of 0 (tag_of q q)) → Discovering g P (replicate (node_count g) 0) q k ys b f 0 1
  discovering_start {xs} {ys} blank size site t =
      record {
        progress = progress_start ok can t;
        tells =
            record {
              sound = λ p h n. absurd (n (t.frame.before (f + p) (omega (arith, low)) ∙ blank.zero (f + p) (omega arith)));
              told = λ p h m a. absurd (none p m);
            };
        size = length-replicate (node_count g) 0;
        part = λ x. omega (arith, (zero_blank {xs = replicate (node_count g) 0} (node_count g) 0 refl).zero x (omega arith));
        whole = λ p m. absurd (none p m);
        come = λ p h m. absurd (none p m);
        met = λ p h m n. absurd (omega (arith, (progress_begun ok can t).others p h (omega (arith, blank.zero (b + p) (omega (arith, low)))), n));
        came = came_start site t;
      }
    where
      can : CanExpand g xs b q
      can = record { accepted = ok; inside = site; blank = record { zero = λ j h. blank.zero j (omega (arith, low)) }; size = size }

      none : (x : ℕ) → marked (replicate (node_count g) 0) x ≡ true → ⊥
      none x m =
          omega (
            arith,
            ltb-true 0 (get_or (replicate (node_count g) 0) x 0) m,
            (zero_blank {xs = replicate (node_count g) 0} (node_count g) 0 refl).zero x (omega arith),
          )

  module _ {M : List ℕ} {xs : List ℕ} {settled len : ℕ} (d : Discovering g P M q k xs b f settled len)
      {ys : List ℕ} {left l v u : ℕ} (t : Took (node_count g) xs ys b len left l v u) where
    moved : Moved (node_count g) xs ys b
    moved = took_moved ok d.progress.area d.progress.searched t

    -- a node is settled in ys as it is in xs
    settled_on : (p : ℕ) → p < node_count g → node_count g < get_or xs (b + p) 0 → node_count g < get_or ys (b + p) 0
    settled_on p h w = omega (arith, moved.settled p h w)

    settled_back : (p : ℕ) → p < node_count g → node_count g < get_or ys (b + p) 0 → node_count g < get_or xs (b + p) 0
    settled_back p h w =
        elim (dec_le (get_or xs (b + p) 0) (node_count g)) [
          | yes z ↦ absurd (omega (arith, moved.others p h z))
          | no z ↦ omega arith
        ]

    -- ---- What an entry tells that is taken. Its node was not verified; its label is the distance where its node is unbeaten, and no more than the
    -- distance of any unbeaten node that is not settled.
    pub took_unverified : marked M v ≡ false
    took_unverified = ⊎_elim (λ m. absurd (omega (arith, d.come v t.inside m, took_waited ok d.progress.area d.progress.searched t))) (λ m. m) (bool_cases (marked M v))

    pub label_exact : Unbeaten g M (one g q) k v → l ≡ dist g q v
    label_exact o = took_exact ok d.progress.area d.progress.searched t (leads ok M q k) o

    pub label_least : (x : ℕ) → x < node_count g → get_or xs (b + x) 0 ≤ node_count g → Unbeaten g M (one g q) k x → l ≤ dist g q x
    label_least x h z o =
        elim (ℕ_discrete (dist g q x) NONE) [
          | yes e ↦ omega (arith, took_small ok d.progress t)
          | no n ↦
              ⊎_elim
              (λ a. absurd (omega (arith, a.is, moved.others x h z)))
              (λ w. omega (arith, w.low, took_least ok d.progress.area d.progress.searched t w.node w.label w.held))
              (frontier ok (leads ok M q k) (search_took ok d.progress.area d.progress.searched t) x o n)
        ]

    -- ---- The entry is dropped: its node is beaten, or the node that put it in is.
    dropped_tells : Tells g P M q k ys f
    dropped_tells = tells_same (λ i h. t.popped.frame.before i (omega (arith, low))) d.tells

    pub discovering_dropped : (Unbeaten g M (one g q) k v → ⊥) ⊎ (Unbeaten g M (one g q) k u → ⊥) → Discovering g P M q k ys b f settled left
    discovering_dropped closed =
        record {
          progress =
              record {
                area = took_area ok d.progress.area d.progress.searched t;
                searched =
                    requeue ok (search_took ok d.progress.area d.progress.searched t) becomes
                    (λ x m h. (search_took ok d.progress.area d.progress.searched t).held_walk x m (inl h));
              };
          tells = dropped_tells;
          size = d.size;
          part = d.part;
          whole = d.whole;
          come = λ p h m. settled_on p h (d.come p h m);
          met = λ p h m n. d.met p h m (settled_back p h n);
          came = came_took ok d.progress t d.came;
        }
      where
        becomes : (x m : ℕ) → AndOne (node_count g) ys b left v l x m → AfterStep (Unbeaten g M (one g q) k) (Unbeaten g M (one g q) k) (LabelAt (node_count g) ys b) (HeldAt (node_count g) ys b left) x m
        becomes x m (inl h) = waits m (omega arith) h
        becomes x m (inr e) =
            ⊎_elim
            (λ n. not_seen (rw e.0 n))
            (λ n. not_seen (rw e.0 (parent_seen ok d.progress t d.came (leads ok M q k) (unbeaten_closed ok (one_lawful ok q) M k) n)))
            closed

    -- ---- Its node is verified, where it is a point.
    -- the points verified then
    pub joined : (M' : List ℕ) × Joins P M M' v
    joined = (
      set M v (lockers P v),
      record {
        size = length-set M v (lockers P v);
        others = λ x n. get_or-set_other M v x (lockers P v) 0 n;
        own = get_or-set_same M v (lockers P v) 0 (omega (arith, d.size, t.inside));
      },
    )

    module _ {M' : List ℕ} (j : Joins P M M' v) where
      pub joins_grow : Part M M'
      joins_grow x =
          elim (ℕ_discrete x v) [
            | yes e ↦ rw e (omega (arith, j.own, d.part v))
            | no n ↦ omega (arith, j.others x n)
          ]

      pub joins_part : Part M' P
      joins_part x =
          elim (ℕ_discrete x v) [
            | yes e ↦ rw e (omega (arith, j.own))
            | no n ↦ omega (arith, j.others x n, d.part x)
          ]

      joins_whole : Whole P M'
      joins_whole x m =
          elim (ℕ_discrete x v) [
            | yes e ↦ rw e (omega (arith, j.own))
            | no n ↦ omega (arith, j.others x n, d.whole x (sym (joins_other j x n) ∙ m))
          ]

      pub shrinks : (x : ℕ) → Unbeaten g M' (one g q) k x → Unbeaten g M (one g q) k x
      shrinks x = unbeaten_part g M M' (one g q) k x joins_grow

      -- the flags then: only v's own changes, and is right
      pub tells_joined : {zs : List ℕ} → ((p : ℕ) → p < node_count g → p ≢ v → get_or zs (f + p) 0 ≡ get_or xs (f + p) 0)
          → (get_or zs (f + v) 0 ≢ 0 → is_listed g P q k v ≡ true) → (is_listed g P q k v ≡ true → get_or zs (f + v) 0 ≢ 0) → Tells g P M' q k zs f
      tells_joined {zs} other sound told =
          record {
            sound =
                λ p h n.
                elim (ℕ_discrete p v) [
                  | yes e ↦ rw e (sound (rw e at n))
                  | no ne ↦ d.tells.sound p h (rw (other p h ne) at n)
                ];
            told =
                λ p h m a.
                elim (ℕ_discrete p v) [
                  | yes e ↦ rw e (told (rw e at a))
                  | no ne ↦ rw (other p h ne) (d.tells.told p h (sym (joins_other j p ne) ∙ m) a)
                ];
          }

      -- words before the area changed, and the flags are right
      module _ {zs : List ℕ} (new : Beside ys zs b) (tells : Tells g P M' q k zs f) where
        fits : b ≤ length xs
        fits = omega (arith, d.progress.area.queue.room)

        same : length (take b zs) ≡ length (take b xs)
        same = omega (arith, length-take-le b xs fits, length-take-le b zs (omega (arith, fits, new.size, t.popped.frame.size)))

        old : Beside xs (take b zs ++ drop b xs) b
        old = beside_first b xs (take b zs) fits same

        word : (p : ℕ) → get_or zs (b + p) 0 ≡ get_or ys (b + p) 0
        word p = label_beside new p

        pub arrive : Arrived g P M' q k zs b f settled left l v
        arrive =
            record {
              before = take b zs ++ drop b xs;
              len = len;
              parent = u;
              progress = shrunk (progress_beside old ok d.progress);
              took =
                  took_beside (node_count g) old new
                  (λ i h. sym (first_part b xs (take b zs) fits same i h ∙ get_or-take b zs i 0 h)) t;
              tells = tells;
              size = j.size ∙ d.size;
              part = joins_part;
              whole = joins_whole;
              here = λ m. joins_here j ∙ m;
              come = λ p h n m. rw (word p) (settled_on p h (d.come p h (sym (joins_other j p n) ∙ m)));
              met = λ p h n m w. joins_other j p n ∙ d.met p h m (settled_back p h (rw (word p) at w));
              came = came_beside new (came_took ok d.progress t d.came);
            }
          where
            shrunk : {ws : List ℕ} → Progress g (one g q) (Unbeaten g M (one g q) k) (Unbeaten g M (one g q) k) ws b settled len → Progress g (one g q) (Unbeaten g M' (one g q) k) (Unbeaten g M' (one g q) k) ws b settled len
            shrunk p = record { area = p.area; searched = monotone shrinks shrinks p.searched }

  -- ---- The node is settled; the search stops behind it or follows its arcs.
  module _ {M : List ℕ} {ys : List ℕ} {settled left l v : ℕ} (a : Arrived g P M q k ys b f settled left l v) where
    area : Area (node_count g) ys b settled left
    area = took_area ok a.progress.area a.progress.searched a.took

    free : get_or ys (b + v) 0 ≡ 0
    free = took_word ok a.progress.area a.progress.searched a.took

    module _ {ws : List ℕ} (same : Moved (node_count g) (settled_as (node_count g) ys b settled v l) ws b) where
      pub front : (i : ℕ) → i < b → get_or ws i 0 ≡ get_or ys i 0
      front i h = same.before i h ∙ (frame_settle area v l a.took.inside free).words i h

      here : get_or ws (b + v) 0 ≡ suc (node_count g + l)
      here = (settle_marks ok area l a.took.inside free same).here.is

      other : (p : ℕ) → p < node_count g → p ≢ v → get_or (settled_as (node_count g) ys b settled v l) (b + p) 0 ≡ get_or ys (b + p) 0
      other = others_settle area v l a.took.inside free

      next : {more : ℕ} → Progress g (one g q) (Unbeaten g M (one g q) k) (Unbeaten g M (one g q) k) ws b (settled + 1) more → AllCame g q ws b more
          → Discovering g P M q k ws b f (settled + 1) more
      next p all =
          record {
            progress = p;
            tells = tells_same (λ i h. front i (omega (arith, low))) a.tells;
            size = a.size;
            part = a.part;
            whole = a.whole;
            come = come;
            met = met;
            came = all;
          }
        where
          come : (x : ℕ) → x < node_count g → marked M x ≡ true → node_count g < get_or ws (b + x) 0
          come x h m =
              elim (ℕ_discrete x v) [
                | yes e ↦ rw e (omega (arith, here))
                | no n ↦ let w = a.come x h n m in omega (arith, other x h n, same.settled x h (omega (arith, other x h n)))
              ]

          met : (x : ℕ) → x < node_count g → marked P x ≡ true → node_count g < get_or ws (b + x) 0 → marked M x ≡ true
          met x h m w =
              elim (ℕ_discrete x v) [
                | yes e ↦ rw e (a.here (rw e at m))
                | no n ↦
                    elim (dec_le (get_or (settled_as (node_count g) ys b settled v l) (b + x) 0) (node_count g)) [
                      | yes z ↦ absurd (omega (arith, same.others x h z))
                      | no z ↦ a.met x h n m (omega (arith, other x h n))
                    ]
              ]

    -- the search stops behind the node
    pub discovering_stopped : (Unbeaten g M (one g q) k v → ⊥) → Discovering g P M q k (settled_as (node_count g) ys b settled v l) b f (settled + 1) left
    discovering_stopped closed =
        next moved_same (progress_stopped ok a.progress a.took (leads ok M q k) closed) (came_stopped ok a.progress a.took a.came)

    -- or follows its arcs
    module _ {ws : List ℕ} {more : ℕ} (w : Followed g (settled_as (node_count g) ys b settled v l) ws b left more v l (length (neighbours_of g v))) where
      pub discovering_opened : Discovering g P M q k ws b f (settled + 1) more
      discovering_opened =
          next w.frame (progress_settled ok a.progress a.took (leads ok M q k) w) (came_followed ok a.progress a.took w a.came)

  -- ---- No entry waits: the found flags are those of the listed points.
  module _ {M : List ℕ} {xs : List ℕ} {settled len : ℕ} (d : Discovering g P M q k xs b f settled len) (z : len ≡ 0) where
    listed_verified : (p : ℕ) → p < node_count g → is_listed g P q k p ≡ true → marked M p ≡ true
    listed_verified p h a = by (marked M p) refl
      where
        by : (x : Bool) → marked M p ≡ x → x ≡ true
        by true e = refl
        by false e =
            let s = (listed_parts g P q k p).0 a in
            let w =
            search_finished ok d.progress.area d.progress.searched z (leads ok M q k) p (lazy_open ok P M q k p a d.part e)
            (omega (arith, s.reach, dist_symmetric ok q p))
            in absurd (false≢true (sym e ∙ d.met p h s.mark (omega (arith, w.is))))

    pub discovered_all : (p : ℕ) → p < node_count g → is_found f xs p ≡ is_listed g P q k p
    discovered_all p h =
        flag_right (get_or xs (f + p) 0) (is_listed g P q k p) (λ a. d.tells.told p h (listed_verified p h a) a) (d.tells.sound p h)

    pub discovered_listed : select (is_found f xs) (node_count g) ≡ listed g P q k
    unfolding listed
    discovered_listed = select_same (is_found f xs) (is_listed g P q k) (node_count g) discovered_all
