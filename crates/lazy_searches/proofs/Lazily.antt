-- Lazy under way: the search, and its counts. The count of a node that the verified points leave unbeaten is at most the number of their lockers that
-- are nearer to it than the site; so a node with a count of k is beaten.
-- Assumes nothing.
use Prim.Native.Nat.{ℕ, ◌+◌, ◌*◌, ◌≤◌, ◌<◌}
use mathlib.Core.Path.{◌≡◌, ap, ◌∙◌}
use mathlib.Core.Bool.{false}
use mathlib.Core.Logic.{◌⊎◌, inl, inr, ⊎_elim}
use mathlib.Core.List.{List}
use native.Mathlib.Decide.{dec_le}
use native.Mathlib.Omega.{arith}
use lib.ListN.{length, get_or, replicate, length-replicate}
use Rattle.network.specs.Network.{Network, node_count, neighbours_of}
use Rattle.network.specs.Accepted.{Accepted}
use Rattle.network.specs.Distance.{dist}
use borrow.Author.Tests.{ltb-false}
use Rattle.network.specs.Count.{select, weighed}
use Rattle.network.specs.Points.{lockers, marked, is_nearer, count_nearer, listed}
use Rattle.network.proofs.Tests.{bool_cases}
use Rattle.network.proofs.Totals.{total_more, weighed_le, weighed_most}
use Rattle.network.proofs.Distances.{dist_symmetric}
use Rattle.network.proofs.Rank.{nearer_passes, passes_nearer}
use Rattle.expansion.specs.Queue.{key_of}
use Rattle.expansion.specs.Tags.{tag_of}
use Rattle.expansion.specs.NodeQueue.{PushedNode}
use Rattle.expansion.specs.Area.{queue_base, Moved, Took, Followed, Wiped}
use Rattle.expansion.proofs.AreaLaws.{moved_same, settled_as}
use Rattle.expansion.proofs.AreaSearch.{word_label, label_back, took_moved}
use Rattle.expansion.proofs.Progress.{took_place}
use Rattle.expansion.proofs.Settled.{zero_blank}
use Rattle.searches.specs.Eager.{is_found}
use Rattle.lazy_searches.specs.Lazy.{visit_base, CanDiscover, CountedBy, Discovered, CanExploreLazy}
use Rattle.expansion.proofs.Origins.{one}
use Rattle.searches.proofs.Beaten.{Unbeaten, Part, part_marked, beaten_part}
use Rattle.lazy_searches.proofs.Parents.{parent_low}
use Rattle.lazy_searches.proofs.LazySearch.{Discovering, Arrived, discovering_start, took_unverified, label_least, discovering_dropped, Joins, joined, joins_grow, shrinks, tells_joined, arrive, front, discovering_stopped, discovering_opened, discovered_listed}

-- the lockers of v are nearer too
nearer_more : (g : Network) (M M' : List ℕ) (v u d : ℕ) → Part M M' → marked M v ≡ false → v < node_count g → dist g u v < d
    → count_nearer g M u d + lockers M' v ≤ count_nearer g M' u d
unfolding count_nearer
nearer_more g M M' v u d sub new h less =
    total_more (λ x. weighed (is_nearer g M u d x) (lockers M x)) (λ x. weighed (is_nearer g M' u d x) (lockers M' x)) v (lockers M' v) (node_count g) h
    (λ x l.
    weighed_le (is_nearer g M u d x) (is_nearer g M' u d x) (lockers M x) (lockers M' x)
    (λ a.
    let r = passes_nearer {P = M} l a in
    (nearer_passes {P = M'} (record { inside = l; point = part_marked M M' x sub r.point; less = r.less }), sub x)))
    (omega (arith, weighed_most (is_nearer g M u d v) (lockers M v), ltb-false 0 (lockers M v) new, here))
  where
    here : lockers M' v ≤ weighed (is_nearer g M' u d v) (lockers M' v)
    here =
        ⊎_elim
        (λ m. omega (arith, ap (λ b. weighed b (lockers M' v)) (nearer_passes {P = M'} (record { inside = h; point = m; less = less }))))
        (λ m. omega (arith, ltb-false 0 (lockers M' v) m))
        (bool_cases (marked M' v))

-- the counts, where the points M are verified
pub record CountsFit (g : Network) (M : List ℕ) (q k : ℕ) (xs : List ℕ) : Type 0 where
  pub most : (u : ℕ) → u < node_count g → Unbeaten g M (one g q) k u → get_or xs u 0 ≤ count_nearer g M u (dist g q u)

pub record Lazily (g : Network) (P : List ℕ) (q k : ℕ) (xs : List ℕ) (b settled len : ℕ) : Type 0 where
  pub verified : List ℕ
  pub searched : Discovering g P verified q k xs b (node_count g) settled len
  pub blank : (j : ℕ) → visit_base (node_count g) ≤ j → j < b → get_or xs j 0 ≡ 0
  pub counts : CountsFit g verified q k xs
  pub few : (u : ℕ) → u < node_count g → get_or xs u 0 ≤ 255 * settled

-- the node v is verified, where it is a point, and not yet settled
pub record Arriving (g : Network) (P : List ℕ) (q k : ℕ) (ys : List ℕ) (b settled left l v : ℕ) : Type 0 where
  pub verified : List ℕ
  pub arrived : Arrived g P verified q k ys b (node_count g) settled left l v
  pub blank : (j : ℕ) → visit_base (node_count g) ≤ j → j < b → get_or ys j 0 ≡ 0
  pub counts : CountsFit g verified q k ys
  pub few : (u : ℕ) → u < node_count g → get_or ys u 0 ≤ 255 * (settled + 1)

-- a node with a count of k is beaten
pub closed : {g : Network} {M : List ℕ} {q k : ℕ} {xs : List ℕ} → CountsFit g M q k xs → (u : ℕ) → u < node_count g → k ≤ get_or xs u 0 → Unbeaten g M (one g q) k u → ⊥
closed c u h full o = o (omega (arith, c.most u h o))

module _ {g : Network} {P : List ℕ} {q b : ℕ} {s₀ : List ℕ} (c : CanExploreLazy g P s₀ b q) where
  ok : Accepted g
  ok = c.accepted

  pub low : node_count g + node_count g ≤ b
  low = omega (arith, c.base)

  pub lazily_start : {k : ℕ} {xs : List ℕ} → PushedNode (node_count g) s₀ xs b (queue_base (node_count g) b) 0 (key_of 0 (tag_of q q)) → Lazily g P q k xs b 0 1
  lazily_start {k} {xs} t =
      record {
        verified = replicate (node_count g) 0;
        searched = discovering_start ok low (record { zero = λ j h. c.blank.zero j (omega arith) }) c.size c.site t;
        blank = λ j h m. word j (omega arith);
        counts = record { most = λ u h o. omega (arith, word u (omega (arith, low))) };
        few = λ u h. omega (arith, word u (omega (arith, low)));
      }
    where
      word : (j : ℕ) → j < b → get_or xs j 0 ≡ 0
      word j h = t.frame.before j h ∙ c.blank.zero j (omega arith)

  -- ---- An entry is taken.
  module _ {k : ℕ} {xs : List ℕ} {settled len : ℕ} (e : Lazily g P q k xs b settled len) {ys : List ℕ} {left l v u : ℕ}
      (t : Took (node_count g) xs ys b len left l v u) where
    front_taken : (i : ℕ) → i < b → get_or ys i 0 ≡ get_or xs i 0
    front_taken i h = t.popped.frame.before i h

    counts_taken : CountsFit g e.verified q k ys
    counts_taken = record { most = λ x h o. rw (front_taken x (omega (arith, low))) (e.counts.most x h o) }

    pub parent_inside : u < node_count g
    parent_inside = parent_low ok e.searched.progress t e.searched.came

    pub node_fits : (x : ℕ) → x < node_count g → x < length ys
    node_fits x h = omega (arith, low, e.searched.progress.area.queue.room, t.popped.frame.size)

    -- it is dropped
    pub lazily_dropped : (k ≤ get_or ys v 0) ⊎ (k ≤ get_or ys u 0) → Lazily g P q k ys b settled left
    lazily_dropped full =
        record {
          verified = e.verified;
          searched =
              discovering_dropped ok low e.searched t
              (⊎_elim
              (λ f. inl (closed counts_taken v t.inside f))
              (λ f. inr (closed counts_taken u parent_inside f))
              full);
          blank = λ j h m. front_taken j m ∙ e.blank j h m;
          counts = counts_taken;
          few = λ x h. rw (front_taken x (omega (arith, low))) (e.few x h);
        }

    -- its node is verified, where it is a point
    pub can_discover : CanDiscover g P q k ys b v
    can_discover =
        record {
          accepted = ok;
          points = c.points;
          site = c.site;
          base = c.base;
          fits = omega (arith, e.searched.progress.area.queue.room, t.popped.frame.size);
          inside = t.inside;
          small = λ x h. rw (front_taken x (omega (arith, low))) (omega (arith, e.few x h, took_place ok e.searched.progress t, ok.few));
          blank = λ j h m. front_taken j m ∙ e.blank j h m;
          sound = λ n. e.searched.tells.sound v t.inside (rw (front_taken (node_count g + v) (omega (arith, low, t.inside))) at n);
        }

    module _ {zs : List ℕ} (d : Discovered g P q k ys zs b v l) where
      moved : Moved (node_count g) xs ys b
      moved = took_moved ok e.searched.progress.area e.searched.progress.searched t

      unsettled : (x : ℕ) → x < node_count g → get_or ys (b + x) 0 ≤ node_count g → get_or xs (b + x) 0 ≤ node_count g
      unsettled x h z =
          elim (dec_le (get_or xs (b + x) 0) (node_count g)) [
            | yes y ↦ y
            | no y ↦ absurd (omega (arith, moved.settled x h (omega arith)))
          ]

      -- a node that is counted: the point is nearer to it than the site
      nearer : (x : ℕ) → x < node_count g → Unbeaten g e.verified (one g q) k x → CountedBy g P ys zs b l v x → dist g x v < dist g q x
      nearer x h o r =
          elim (dec_le (get_or ys (b + x) 0) (node_count g)) [
            | yes z ↦
                omega (
                  arith,
                  r.ahead,
                  label_least ok low e.searched t x h (unsettled x h z) o,
                  dist_symmetric ok x v,
                )
            | no n ↦
                let m = word_label {n = node_count g} {xs = ys} b x h (omega arith) in
                omega (
                  arith,
                  r.behind m.0 m.1,
                  e.searched.progress.searched.exact x m.0 (label_back moved x m.0 m.1) o,
                  dist_symmetric ok x v,
                )
          ]

      pub discovered : Arriving g P q k zs b settled left l v
      discovered =
          record {
            verified = j.0;
            arrived =
                arrive ok low e.searched t j.1 (record { size = d.size; words = d.words })
                (tells_joined ok low e.searched t j.1
                (λ p h n. d.others p h n ∙ front_taken (node_count g + p) (omega (arith, low)))
                d.sound d.told);
            blank = d.blank;
            counts = record { most = counts };
            few = λ x h. ⊎_elim (λ a. omega (arith, was x h)) (λ a. omega (arith, a.more, a.byte, was x h)) (d.counts x h);
          }
        where
          j : (M' : List ℕ) × Joins P e.verified M' v
          j = joined ok low e.searched t

          was : (x : ℕ) → x < node_count g → get_or ys x 0 ≤ 255 * settled
          was x h = rw (front_taken x (omega (arith, low))) (e.few x h)

          counts : (x : ℕ) → x < node_count g → Unbeaten g j.0 (one g q) k x → get_or zs x 0 ≤ count_nearer g j.0 x (dist g q x)
          counts x h o =
              let old = shrinks ok low e.searched t j.1 x o in
              let sub = joins_grow ok low e.searched t j.1 in
              ⊎_elim
              (λ a.
              omega (
                arith,
                counts_taken.most x h old,
                beaten_part g e.verified j.0 (one g q) (count_nearer g e.verified x (dist g q x)) x sub (omega arith),
              ))
              (λ a.
              omega (
                arith,
                a.more,
                j.1.own,
                counts_taken.most x h old,
                nearer_more g e.verified j.0 v x (dist g q x) sub (took_unverified ok low e.searched t) t.inside (nearer x h old a),
              ))
              (d.counts x h)

  -- ---- The node is settled.
  module _ {k : ℕ} {ys : List ℕ} {settled left l v : ℕ} (a : Arriving g P q k ys b settled left l v) where
    module _ {ws : List ℕ} (same : Moved (node_count g) (settled_as (node_count g) ys b settled v l) ws b) where
      kept_front : (i : ℕ) → i < b → get_or ws i 0 ≡ get_or ys i 0
      kept_front = front ok low a.arrived same

      counts_kept : CountsFit g a.verified q k ws
      counts_kept = record { most = λ x h o. rw (kept_front x (omega (arith, low))) (a.counts.most x h o) }

      next : {more : ℕ} → Discovering g P a.verified q k ws b (node_count g) (settled + 1) more → Lazily g P q k ws b (settled + 1) more
      next d =
          record {
            verified = a.verified;
            searched = d;
            blank = λ j h m. kept_front j m ∙ a.blank j h m;
            counts = counts_kept;
            few = λ x h. rw (kept_front x (omega (arith, low))) (a.few x h);
          }

    -- the search stops behind it
    stopped : k ≤ get_or (settled_as (node_count g) ys b settled v l) v 0 → Lazily g P q k (settled_as (node_count g) ys b settled v l) b (settled + 1) left
    stopped full =
        next moved_same
        (discovering_stopped ok low a.arrived (closed (counts_kept moved_same) v a.arrived.took.inside full))

    pub lazily_stopped : {ws : List ℕ} → ws ≡ settled_as (node_count g) ys b settled v l → k ≤ get_or ws v 0 → Lazily g P q k ws b (settled + 1) left
    lazily_stopped e full = rw e (stopped (rw e at full))

    -- or follows its arcs
    pub lazily_opened : {ws : List ℕ} {more : ℕ} → Followed g (settled_as (node_count g) ys b settled v l) ws b left more v l (length (neighbours_of g v)) → Lazily g P q k ws b (settled + 1) more
    lazily_opened w = next w.frame (discovering_opened ok low a.arrived w)

  -- ---- No entry waits.
  pub lazily_listed : {k : ℕ} {xs : List ℕ} {settled len : ℕ} → Lazily g P q k xs b settled len → len ≡ 0 → select (is_found (node_count g) xs) (node_count g) ≡ listed g P q k
  lazily_listed e t = discovered_listed ok low e.searched t

-- all words are 0 at the end
pub wiped_zero : {xs zs : List ℕ} (ys : List ℕ) → length ys ≡ length xs → zs ≡ replicate (length ys) 0 → Wiped xs zs 0
wiped_zero {xs} {zs} ys size e =
    record {
      frame = record { size = ap length e ∙ length-replicate (length ys) 0 ∙ size; words = λ i h. absurd (omega arith) };
      blank = zero_blank (length ys) 0 e;
    }
