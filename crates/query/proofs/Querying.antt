-- The table query under way. It is eager's search where T holds, that the table is that of the points: it follows the arcs of the unbeaten nodes,
-- answers for the nodes that it comes to, and the listed ones of the points near a settled node have their found flags. Where T does not hold it
-- answers for no node, and only points have found flags.
-- Assumes nothing.
use Prim.Native.Nat.{ℕ, ◌+◌, ◌≤◌, ◌<◌}
use mathlib.Core.Path.{◌≡◌, sym, ap, ◌∙◌}
use mathlib.Core.Bool.{true}
use mathlib.Core.Logic.{◌≢◌, inl, ⊎_elim}
use mathlib.Core.List.{List, ◌++◌}
use native.Mathlib.Decide.{dec_lt}
use native.Mathlib.Omega.{arith}
use lib.ListN.{length, get_or, take, drop, get_or-eq_default}
use lib.Seq.{get_or-take, length-take-le}
use Rattle.network.specs.Network.{Network, node_count, neighbours_of}
use Rattle.network.specs.Accepted.{Accepted}
use Rattle.network.specs.Distance.{dist}
use Rattle.network.specs.Points.{count_nearer, is_listed}
use Rattle.network.proofs.Distances.{dist_symmetric}
use Rattle.network.specs.Nearest.{nearest}
use Rattle.network.proofs.Rank.{Near}
use Rattle.network.proofs.Rows.{nearest_length, near_listed}
use Rattle.expansion.specs.Queue.{key_of}
use Rattle.expansion.specs.Tags.{tag_of}
use Rattle.expansion.specs.NodeQueue.{PushedNode}
use Rattle.expansion.specs.Area.{queue_base, LabelAt, Area, Blank, Moved, Took, Followed}
use Rattle.expansion.specs.Expand.{CanExpand}
use Rattle.expansion.proofs.Origins.{one, one_lawful}
use Rattle.expansion.proofs.Search.{Leads}
use Rattle.expansion.proofs.AreaLaws.{moved_same, settled_as, frame_settle}
use Rattle.expansion.proofs.AreaSearch.{label_back, took_area, took_word, took_moved, took_exact, search_finished, settle_marks}
use Rattle.expansion.proofs.Progress.{Progress, progress_begun, progress_start, progress_settled, took_walk}
use Rattle.expansion.proofs.Beside.{Beside, beside_first, beside_label_at, progress_beside}
use Rattle.searches.specs.Flags.{flags_end, Flags, Looked}
use Rattle.searches.specs.Eager.{is_found}
use Rattle.searches.proofs.Beaten.{Beaten, Unbeaten, stops}
use Rattle.searches.proofs.Finds.{Met, met_leads, site_receives}
use Rattle.searches.proofs.Answers.{listed_flagged}
use Rattle.network.proofs.Lends.{first_part}
use Rattle.searches.proofs.LookLaws.{flags_same}
use Rattle.searches.proofs.FlagLaws.{no_flags, flag_right}
use Rattle.expansion.proofs.Stopping.{progress_stopped, took_beside}
use Rattle.network.specs.Rows.{IsTable}
use Rattle.query.specs.Query.{Only, Grown, CanLookByRow, LookedByRow, CanExploreQuery}

-- the nodes whose arcs it follows, and those that it answers for
abbrev pub Follows : Type 0 → Network → List ℕ → ℕ → ℕ → ℕ → Type 0
Follows T g P q k v = T × Unbeaten g P (one g q) k v

abbrev pub Meets : Type 0 → Network → List ℕ → ℕ → ℕ → ℕ → Type 0
Meets T g P q k v = T × Met g P (one g q) k v

pub follows_lead : (T : Type 0) {g : Network} → Accepted g → (P : List ℕ) (q k : ℕ) → 1 ≤ k → Leads g (one g q) (Follows T g P q k) (Meets T g P q k)
follows_lead T ok P q k some =
    let l = met_leads ok (one_lawful ok q) P k some in
    record {
      start = λ v e m. (m.0, l.start v e m.1);
      through = λ v m ne n. let r = l.through v m.1 ne n in record { last = r.last; is_open = (m.0, r.is_open); is_seen = (m.0, r.is_seen) };
    }

-- the found flags where T holds: as eager's
pub record Answering (g : Network) (P : List ℕ) (q k : ℕ) (xs : List ℕ) (b : ℕ) : Type 0 where
  pub flags : Flags g (is_listed g P q k) xs
  pub told :
      (v l p : ℕ) → LabelAt (node_count g) xs b v l → Near g P v l k p → is_listed g P q k p ≡ true
      → get_or xs (node_count g + p) 0 ≢ 0

-- the search between two entries
pub record Querying (T : Type 0) (g : Network) (P : List ℕ) (q k : ℕ) (xs : List ℕ) (b settled len : ℕ) : Type 0 where
  pub progress : Progress g (one g q) (Follows T g P q k) (Meets T g P q k) xs b settled len
  pub only : Only g P xs
  pub blank : (j : ℕ) → flags_end g ≤ j → j < b → get_or xs j 0 ≡ 0
  pub right : T → Answering g P q k xs b

-- where T holds: r points were found from v, from label l, and the listed ones have their flags
pub record Found (g : Network) (P : List ℕ) (q k : ℕ) (xs : List ℕ) (v l r : ℕ) : Type 0 where
  pub count : r ≡ length (nearest g P v l k)
  pub told : (p : ℕ) → Near g P v l k p → is_listed g P q k p ≡ true → get_or xs (node_count g + p) 0 ≢ 0

-- the search when an entry of v at label l is taken, and v was looked at, but is not yet settled
pub record Arrived (T : Type 0) (g : Network) (P : List ℕ) (q k : ℕ) (ys : List ℕ) (b settled left l v r : ℕ) : Type 0 where
  pub before : List ℕ
  pub len : ℕ
  pub parent : ℕ
  pub querying : Querying T g P q k before b settled len
  pub took : Took (node_count g) before ys b len left l v parent
  pub found : T → Found g P q k before v l r

module _ {g : Network} {P ids dists s₀ : List ℕ} {b q k K : ℕ} (c : CanExploreQuery g P ids dists s₀ b q k K) where
  -- the table is that of the points
  abbrev T : Type 0
  T = IsTable g P K ids dists

  ok : Accepted g
  ok = c.asked.accepted

  site : q < node_count g
  site = c.asked.site

  low : flags_end g ≤ b
  low = omega (arith, c.base)

  leads : Leads g (one g q) (Follows T g P q k) (Meets T g P q k)
  leads = follows_lead T ok P q k c.asked.some

  -- ---- The search begins.
  pub can_expand : CanExpand g s₀ b q
  can_expand =
      record {
        accepted = ok;
        inside = site;
        blank = record { zero = λ j h. c.blank.zero j (omega (arith, low)) };
        size = c.size;
      }

  pub querying_start : {xs : List ℕ} → PushedNode (node_count g) s₀ xs b (queue_base (node_count g) b) 0 (key_of 0 (tag_of q q)) → Querying (IsTable g P K ids dists) g P q k xs b 0 1
  querying_start {xs} t =
      record {
        progress = progress_start ok can_expand t;
        only = λ p h n. absurd (n (word (node_count g + p) (omega (arith, low)) ∙ c.blank.zero (node_count g + p) (omega arith)));
        blank = λ j h m. word j m ∙ c.blank.zero j (omega arith);
        right =
            λ _.
            record {
              flags = flags_same (λ i h. word i (omega (arith, low))) (no_flags g (is_listed g P q k) c.blank);
              told =
                  λ v l p h near a.
                  absurd (omega (arith, (label_back (progress_begun ok can_expand t) v l h).is, c.blank.zero (b + v) (omega (arith, low))));
            };
      }
    where
      word : (i : ℕ) → i < b → get_or xs i 0 ≡ get_or s₀ i 0
      word i h = t.frame.before i h

  -- ---- An entry is taken, and its node looked at: flags before the area change.
  module _ {xs : List ℕ} {settled len : ℕ} (e : Querying (IsTable g P K ids dists) g P q k xs b settled len)
      {ys : List ℕ} {left l v u : ℕ} (t : Took (node_count g) xs ys b len left l v u) where
    fits : b ≤ length ys
    fits = omega (arith, e.progress.area.queue.room, t.popped.frame.size)

    fits_old : b ≤ length xs
    fits_old = omega (arith, e.progress.area.queue.room)

    front : (i : ℕ) → i < b → get_or (take b ys) i 0 ≡ get_or xs i 0
    front i h = get_or-take b ys i 0 h ∙ t.popped.frame.before i h

    pub front_size : length (take b ys) ≡ b
    front_size = length-take-le b ys fits

    front_blank : Blank (take b ys) (flags_end g)
    front_blank =
        record {
          zero =
              λ j h.
              elim (dec_lt j b) [
                | yes m ↦ front j m ∙ e.blank j h m
                | no m ↦ get_or-eq_default (take b ys) 0 (omega (arith, front_size))
              ];
        }

    -- what `look` requires of the words before the area
    pub can_look : CanLookByRow g P ids dists q k K (take b ys) v
    can_look =
        record {
          verify =
              record {
                asked = c.asked;
                front =
                    record {
                      only = λ p h n. e.only p h (rw (front (node_count g + p) (omega (arith, low))) at n);
                      blank = front_blank;
                      size = omega (arith, front_size, c.base);
                    };
              };
          all_ids = c.all_ids;
          inside = t.inside;
        }

    module _ {zs : List ℕ} {r : ℕ} (look : LookedByRow g P ids dists q k K (take b ys) zs v l r) where
      grown : Grown g P (take b ys) zs
      grown = look.grown

      same_old : length zs ≡ length (take b xs)
      same_old = omega (arith, grown.size, front_size, length-take-le b xs fits_old)

      old : Beside xs (zs ++ drop b xs) b
      old = beside_first b xs zs fits_old same_old

      new : Beside ys (zs ++ drop b ys) b
      new = beside_first b ys zs fits grown.size

      set : (i : ℕ) → i < b → get_or (zs ++ drop b xs) i 0 ≡ get_or zs i 0
      set i h = first_part b xs zs fits_old same_old i h

      grows : (p : ℕ) → p < node_count g → get_or xs (node_count g + p) 0 ≢ 0 → get_or (zs ++ drop b xs) (node_count g + p) 0 ≢ 0
      grows p h n = rw (set (node_count g + p) (omega (arith, low))) (grown.grows p h (rw (front (node_count g + p) (omega (arith, low))) n))

      seen : T → Looked g P (is_listed g P q k) k (take b ys) zs v l r
      seen y =
          look.right y (took_walk ok e.progress t)
          (λ f. took_exact ok e.progress.area e.progress.searched t leads (y, inl (λ b. omega (arith, ap (count_nearer g P v) (dist_symmetric ok q v)))))
          (flags_same (λ i h. front i (omega (arith, low))) (e.right y).flags)

      pub arrived_size : length (zs ++ drop b ys) ≡ length xs
      arrived_size = new.size ∙ t.popped.frame.size

      pub arrive : Arrived (IsTable g P K ids dists) g P q k (zs ++ drop b ys) b settled left l v r
      arrive =
          record {
            before = zs ++ drop b xs;
            len = len;
            parent = u;
            querying =
                record {
                  progress = progress_beside old ok e.progress;
                  only = λ p h n. grown.only p h (rw (set (node_count g + p) (omega (arith, low))) at n);
                  blank = λ j h m. set j m ∙ grown.words j h ∙ front_blank.zero j h;
                  right =
                      λ y.
                      record {
                        flags = flags_same (λ i h. set i (omega (arith, low))) (seen y).flags;
                        told = λ x m p h near a. grows p near.nearer.inside ((e.right y).told x m p (beside_label_at old h) near a);
                      };
                };
            took =
                took_beside (node_count g) old new
                (λ i h. first_part b ys zs fits grown.size i h ∙ sym (first_part b xs zs fits_old same_old i h)) t;
            found =
                λ y.
                record {
                  count = (seen y).count;
                  told =
                      λ p near a.
                      rw (set (node_count g + p) (omega (arith, low, near.nearer.inside)))
                      ((seen y).told p (dist g v p) (near_listed ok P v l k p near) a);
                };
          }

  -- ---- The node is settled; the search stops behind it or follows its arcs.
  module _ {ys : List ℕ} {settled left l v r : ℕ} (a : Arrived (IsTable g P K ids dists) g P q k ys b settled left l v r) where
    -- k points were found: the node is beaten
    many_beaten : T → k ≤ r → Beaten g P (one g q) k v
    many_beaten y h =
        stops g P (one g q) k v l
        (λ o. took_exact ok a.querying.progress.area a.querying.progress.searched a.took leads (y, inl o))
        (omega (arith, (a.found y).count, nearest_length g P v l k))

    module _ {ws : List ℕ} (same : Moved (node_count g) (settled_as (node_count g) ys b settled v l) ws b) where
      area : Area (node_count g) ys b settled left
      area = took_area ok a.querying.progress.area a.querying.progress.searched a.took

      free : get_or ys (b + v) 0 ≡ 0
      free = took_word ok a.querying.progress.area a.querying.progress.searched a.took

      word : (i : ℕ) → i < b → get_or ws i 0 ≡ get_or a.before i 0
      word i h = same.before i h ∙ (frame_settle area v l a.took.inside free).words i h ∙ a.took.popped.frame.before i h

      next : {more : ℕ} → Progress g (one g q) (Follows T g P q k) (Meets T g P q k) ws b (settled + 1) more → Querying (IsTable g P K ids dists) g P q k ws b (settled + 1) more
      next p =
          record {
            progress = p;
            only = λ x h n. a.querying.only x h (rw (word (node_count g + x) (omega (arith, low))) at n);
            blank = λ j h m. word j m ∙ a.querying.blank j h m;
            right =
                λ y.
                record {
                  flags = flags_same (λ i h. word i (omega (arith, low))) (a.querying.right y).flags;
                  told = told y;
                };
          }
        where
          told : T → (x m p : ℕ) → LabelAt (node_count g) ws b x m → Near g P x m k p → is_listed g P q k p ≡ true → get_or ws (node_count g + p) 0 ≢ 0
          told y x m p h near c =
              rw (word (node_count g + p) (omega (arith, low, near.nearer.inside)))
              (⊎_elim
              (λ o. (a.querying.right y).told x m p (label_back (took_moved ok a.querying.progress.area a.querying.progress.searched a.took) x m o) near c)
              (λ s. (a.found y).told p (rw (s.0, s.1) at near) c)
              ((settle_marks ok area l a.took.inside free same).old x m h))

    -- the search stops behind the node
    pub querying_stopped : k ≤ r → Querying (IsTable g P K ids dists) g P q k (settled_as (node_count g) ys b settled v l) b (settled + 1) left
    querying_stopped h = next moved_same (progress_stopped ok a.querying.progress a.took leads (λ o. o.1 (many_beaten o.0 h)))

    -- or follows its arcs
    module _ {ws : List ℕ} {more : ℕ} (w : Followed g (settled_as (node_count g) ys b settled v l) ws b left more v l (length (neighbours_of g v))) where
      pub querying_opened : Querying (IsTable g P K ids dists) g P q k ws b (settled + 1) more
      querying_opened = next w.frame (progress_settled ok a.querying.progress a.took leads w)

  -- ---- No entry waits: the found flags are those of the listed points, where T holds.
  module _ {xs : List ℕ} {settled len : ℕ} (e : Querying (IsTable g P K ids dists) g P q k xs b settled len) (z : len ≡ 0) where
    pub ended_only : Only g P xs
    ended_only = e.only

    listed_flag : T → (p : ℕ) → p < node_count g → is_listed g P q k p ≡ true → get_or xs (node_count g + p) 0 ≢ 0
    listed_flag y =
        listed_flagged ok (one_lawful ok q) P k (LabelAt (node_count g) xs b)
        (λ v m r. search_finished ok e.progress.area e.progress.searched z leads v (y, m) r)
        (is_listed g P q k) (λ p. get_or xs (node_count g + p) 0 ≢ 0) (site_receives ok P q k) (e.right y).told

    pub ended_found : IsTable g P K ids dists → (p : ℕ) → p < node_count g → is_found (node_count g) xs p ≡ is_listed g P q k p
    ended_found y p h =
        flag_right (get_or xs (node_count g + p) 0) (is_listed g P q k p) (listed_flag y p h) ((e.right y).flags.sound p h)
