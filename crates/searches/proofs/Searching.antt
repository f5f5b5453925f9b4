-- A search under way, from a site or from the nodes of a route. It follows the arcs of the unbeaten nodes, and answers for the nodes that it comes to. Each
-- settled node was looked at: those of the list L, of the at most k points that are nearer to it than its label, have their found flags.
-- Assumes nothing.
use Prim.Native.Nat.{ℕ, ◌+◌, ◌≤◌, ◌<◌}
use mathlib.Core.Path.{◌≡◌, sym, ◌∙◌}
use mathlib.Core.Bool.{Bool, true}
use mathlib.Core.Logic.{◌≢◌, inl, ⊎_elim}
use mathlib.Core.List.{List, ◌++◌}
use native.Mathlib.Decide.{dec_lt}
use native.Mathlib.Omega.{arith}
use lib.ListN.{length, get_or, set, take, drop, length-set, get_or-eq_default}
use lib.Seq.{get_or-take, length-take-le, get_or-set_other}
use Rattle.network.specs.Network.{Network, node_count, neighbours_of}
use Rattle.network.specs.Accepted.{Accepted}
use Rattle.network.specs.Distance.{NONE, dist}
use Rattle.network.specs.Nearest.{nearest}
use Rattle.network.proofs.Lends.{first_part}
use Rattle.network.proofs.Rank.{Near}
use Rattle.network.proofs.Rows.{near_listed}
use Rattle.expansion.specs.declared.verify.Site.{Site}
use Rattle.expansion.specs.Visited.{SiteInside}
use Rattle.expansion.specs.Area.{LabelAt, Moved, Took, Followed}
use Rattle.expansion.proofs.Origins.{Origin, Lawful}
use Rattle.expansion.proofs.Search.{Leads}
use Rattle.expansion.proofs.AreaLaws.{moved_same, settled_as}
use Rattle.expansion.proofs.AreaSearch.{search_finished}
use Rattle.expansion.proofs.Progress.{Progress, progress_settled}
use Rattle.expansion.proofs.Beside.{Beside, beside_first, beside_label_at, progress_beside}
use Rattle.expansion.proofs.Stopping.{progress_stopped, took_beside}
use Rattle.expansion.proofs.VisitLaws.{stop_same}
use Rattle.searches.specs.Flags.{flags_end, ids_base, inner_base, site_lists, Flags, CanLook, Looked, LookedAt}
use Rattle.searches.specs.Eager.{eager_outer_base, is_found}
use Rattle.searches.proofs.Beaten.{Beaten, Unbeaten}
use Rattle.searches.proofs.Finds.{Receives, Met, met_leads}
use Rattle.searches.proofs.Answers.{listed_flagged}
use Rattle.searches.proofs.Tells.{tells_beaten, front_kept, labels_then}
use Rattle.searches.proofs.FlagLaws.{lists_same, flag_right}
use Rattle.searches.proofs.LookLaws.{flags_same}

-- what stays while a search goes on: its origin o receives what is on the list L, and the outer area starts at b
pub record SearchFrom (g : Network) (P : List ℕ) (o : Origin) (site : Site) (L : ℕ → Bool) (k b : ℕ) : Type 0 where
  pub accepted : Accepted g
  pub lawful : Lawful g o
  pub points : length P ≡ node_count g
  pub inside : SiteInside (node_count g) (inner_base g) site
  pub some : 1 ≤ k
  pub receives : (p : ℕ) → L p ≡ true → Receives g P o k p
  pub base : b ≡ eager_outer_base g

pub record Searching (g : Network) (P : List ℕ) (o : Origin) (site : Site) (L : ℕ → Bool) (k : ℕ) (xs : List ℕ) (b settled len : ℕ) : Type 0 where
  pub progress : Progress g o (Unbeaten g P o k) (Met g P o k) xs b settled len
  pub lists : site_lists g P xs site k ≡ L
  pub flags : Flags g L xs
  pub blank : (j : ℕ) → ids_base g ≤ j → j < b → get_or xs j 0 ≡ 0
  pub told : (v l p : ℕ) → LabelAt (node_count g) xs b v l → Near g P v l k p → L p ≡ true → get_or xs (node_count g + p) 0 ≢ 0

-- the same words before n, the same list
module _ (g : Network) (P : List ℕ) (site : Site) (k : ℕ) (xs ys : List ℕ) where
  pub lists_kept : ((i : ℕ) → i < node_count g → get_or ys i 0 ≡ get_or xs i 0) → site_lists g P ys site k ≡ site_lists g P xs site k
  lists_kept same = lists_same g P site k xs ys (λ v h. stop_same xs ys v (same v h))

module _ {g : Network} {P : List ℕ} {o : Origin} {site : Site} {L : ℕ → Bool} {k b : ℕ} (c : SearchFrom g P o site L k b) where
  ok : Accepted g
  ok = c.accepted

  pub low : ids_base g ≤ b
  low = omega (arith, c.base)

  pub leads : Leads g o (Unbeaten g P o k) (Met g P o k)
  leads = met_leads ok c.lawful P k c.some

  module _ {xs : List ℕ} {settled len : ℕ} (e : Searching g P o site L k xs b settled len)
      {ys : List ℕ} {left l v u : ℕ} (t : Took (node_count g) xs ys b len left l v u) where
    fits : b ≤ length ys
    fits = omega (arith, e.progress.area.queue.room, t.popped.frame.size)

    fits_old : b ≤ length xs
    fits_old = omega (arith, e.progress.area.queue.room)

    lent : (i : ℕ) → i < b → get_or (take b ys) i 0 ≡ get_or xs i 0
    lent i h = get_or-take b ys i 0 h ∙ t.popped.frame.before i h

    lent_lists : site_lists g P (take b ys) site k ≡ L
    lent_lists = lists_kept g P site k xs (take b ys) (λ i h. lent i (omega (arith, low))) ∙ e.lists

    -- what `look` requires of the words before the area
    pub can_look : CanLook g P site k (take b ys) v
    can_look =
        record {
          front =
              record {
                accepted = ok;
                points = c.points;
                inside = c.inside;
                flags = rw lent_lists (flags_same (λ i h. lent i (omega (arith, low))) e.flags);
                blank = record { zero = λ j h. zeros j (omega arith) };
                size = omega (arith, length-take-le b ys fits, c.base);
              };
          blank = record { zero = zeros };
          inside = t.inside;
        }
      where
        zeros : (j : ℕ) → ids_base g ≤ j → get_or (take b ys) j 0 ≡ 0
        zeros j h =
            elim (dec_lt j b) [
              | yes m ↦ lent j m ∙ e.blank j h m
              | no m ↦ get_or-eq_default (take b ys) 0 (omega (arith, length-take-le b ys fits))
            ]

    module _ {zs : List ℕ} {r : ℕ} (at : LookedAt g P (site_lists g P (take b ys) site k) k (take b ys) zs v l r) where
      seen : Looked g P L k (take b ys) zs v l r
      seen = rw lent_lists at at.looked

      same_old : length zs ≡ length (take b xs)
      same_old = omega (arith, seen.size, length-take-le b ys fits, length-take-le b xs fits_old)

      -- the flags that were set, as if before the entry was taken
      pub beside_old : Beside xs (zs ++ drop b xs) b
      beside_old = beside_first b xs zs fits_old same_old

      beside_new : Beside ys (zs ++ drop b ys) b
      beside_new = beside_first b ys zs fits seen.size

      pub looked_took : Took (node_count g) (zs ++ drop b xs) (zs ++ drop b ys) b len left l v u
      looked_took =
          took_beside (node_count g) beside_old beside_new
          (λ i h. first_part b ys zs fits seen.size i h ∙ sym (first_part b xs zs fits_old same_old i h)) t

      now_word : (i : ℕ) → i < b → get_or (zs ++ drop b xs) i 0 ≡ get_or zs i 0
      now_word i h = first_part b xs zs fits_old same_old i h

      grows : (p : ℕ) → p < node_count g → get_or xs (node_count g + p) 0 ≢ 0 → get_or (zs ++ drop b xs) (node_count g + p) 0 ≢ 0
      grows p h n =
          rw (now_word (node_count g + p) (omega (arith, low)))
          (seen.grows p h (rw (lent (node_count g + p) (omega (arith, low))) n))

      pub looked_searching : Searching g P o site L k (zs ++ drop b xs) b settled len
      looked_searching =
          record {
            progress = progress_beside beside_old ok e.progress;
            lists =
                lists_same g P site k (take b ys) (zs ++ drop b xs)
                (λ x h. stop_same zs (zs ++ drop b xs) x (now_word x (omega (arith, low))) ∙ at.stops x h)
                ∙ lent_lists;
            flags = flags_same (λ i h. now_word i (omega (arith, low))) seen.flags;
            blank = λ j h m. now_word j m ∙ seen.blank.zero j h;
            told = λ x m p h near a. grows p near.nearer.inside (e.told x m p (beside_label_at beside_old h) near a);
          }

      -- the words between the flags and the found nodes stay
      pub looked_stays : (i : ℕ) → flags_end g ≤ i → i < ids_base g → get_or (zs ++ drop b xs) i 0 ≡ get_or xs i 0
      looked_stays i h m = now_word i (omega (arith, low)) ∙ seen.stays i h m ∙ lent i (omega (arith, low))

      pub looked_told : (p : ℕ) → Near g P v l k p → L p ≡ true → get_or (zs ++ drop b xs) (node_count g + p) 0 ≢ 0
      looked_told p near a =
          rw (now_word (node_count g + p) (omega (arith, low, near.nearer.inside)))
          (seen.told p (dist g v p) (near_listed ok P v l k p near) a)

    -- ---- The node is settled. r points were found from it.
    pub many_beaten : {r : ℕ} → r ≡ length (nearest g P v l k) → k ≤ r → Beaten g P o k v
    many_beaten = tells_beaten ok e.progress t P k leads (λ n. inl n)

    -- ws is the area in which the node is settled, and perhaps its arcs are followed
    module _ {ws : List ℕ} (same : Moved (node_count g) (settled_as (node_count g) ys b settled v l) ws b) where
      pub front : (i : ℕ) → i < b → get_or ws i 0 ≡ get_or xs i 0
      front = front_kept ok e.progress t same

      -- the flags, when the node was looked at
      module _ (told : (p : ℕ) → Near g P v l k p → L p ≡ true → get_or xs (node_count g + p) 0 ≢ 0) where
        told_next : (x m p : ℕ) → LabelAt (node_count g) ws b x m → Near g P x m k p → L p ≡ true → get_or ws (node_count g + p) 0 ≢ 0
        told_next x m p h near a =
            rw (front (node_count g + p) (omega (arith, low, near.nearer.inside)))
            (⊎_elim
            (λ o. e.told x m p o near a)
            (λ s. told p (rw (s.0, s.1) at near) a)
            (labels_then ok e.progress t same x m h))

        next : {more : ℕ} → Progress g o (Unbeaten g P o k) (Met g P o k) ws b (settled + 1) more → Searching g P o site L k ws b (settled + 1) more
        next progress =
            record {
              progress = progress;
              lists = lists_kept g P site k xs ws (λ i h. front i (omega (arith, low))) ∙ e.lists;
              flags = flags_same (λ i h. front i (omega (arith, low))) e.flags;
              blank = λ j h m. front j m ∙ e.blank j h m;
              told = told_next;
            }

    module _ (told : (p : ℕ) → Near g P v l k p → L p ≡ true → get_or xs (node_count g + p) 0 ≢ 0) where
      -- the search stops behind the node
      pub searching_stopped : Beaten g P o k v → Searching g P o site L k (settled_as (node_count g) ys b settled v l) b (settled + 1) left
      searching_stopped h = next moved_same told (progress_stopped ok e.progress t leads (λ n. n h))

      -- or follows its arcs
      pub searching_opened : {ws : List ℕ} {more : ℕ} → Followed g (settled_as (node_count g) ys b settled v l) ws b left more v l (length (neighbours_of g v))
          → Searching g P o site L k ws b (settled + 1) more
      searching_opened f = next f.frame told (progress_settled ok e.progress t leads f)

  -- ---- A word between the flags and the found nodes changes.
  module _ {xs : List ℕ} {settled len : ℕ} (e : Searching g P o site L k xs b settled len) (i w : ℕ) (from : flags_end g ≤ i) (end : i < ids_base g) where
    pub kept : (j : ℕ) → j ≢ i → get_or (set xs i w) j 0 ≡ get_or xs j 0
    kept j n = get_or-set_other xs i j w 0 n

    pub kept_beside : Beside xs (set xs i w) b
    kept_beside = record { size = length-set xs i w; words = λ j l. kept j (omega (arith, low)) }

    pub searching_kept : Searching g P o site L k (set xs i w) b settled len
    searching_kept =
        record {
          progress = progress_beside kept_beside ok e.progress;
          lists = lists_kept g P site k xs (set xs i w) (λ j l. kept j (omega arith)) ∙ e.lists;
          flags = flags_same (λ j l. kept j (omega arith)) e.flags;
          blank = λ j l m. kept j (omega arith) ∙ e.blank j l m;
          told = λ x m p l near a. rw (kept (node_count g + p) (omega (arith, near.nearer.inside))) (e.told x m p (beside_label_at kept_beside l) near a);
        }

  -- ---- No entry waits.
  module _ {xs : List ℕ} {settled len : ℕ} (e : Searching g P o site L k xs b settled len) (t : len ≡ 0) where
    pub all : (v : ℕ) → Met g P o k v → o.far v ≢ NONE → LabelAt (node_count g) xs b v (o.far v)
    all = search_finished ok e.progress.area e.progress.searched t leads

    listed_flag : (p : ℕ) → p < node_count g → L p ≡ true → get_or xs (node_count g + p) 0 ≢ 0
    listed_flag = listed_flagged ok c.lawful P k (LabelAt (node_count g) xs b) all L (λ p. get_or xs (node_count g + p) 0 ≢ 0) c.receives e.told

    pub found_all : (p : ℕ) → p < node_count g → is_found (node_count g) xs p ≡ L p
    found_all p h = flag_right (get_or xs (node_count g + p) 0) (L p) (listed_flag p h) (e.flags.sound p h)
