-- Eager under way: the search from a site (`Searching`), and its count. The nodes that are counted come in turn: those that are settled are the first of the
-- visits.
-- Assumes nothing.
use Prim.Native.Nat.{ℕ, suc, ◌+◌, ◌≤◌, ◌<◌}
use mathlib.Core.Path.{◌≡◌, refl, sym, ap, ◌∙◌}
use mathlib.Core.Bool.{true, false}
use mathlib.Core.Logic.{◌≢◌, inl, ⊎_elim}
use mathlib.Core.List.{List, ◌++◌}
use native.Mathlib.Decide.{ℕ_discrete}
use native.Mathlib.Omega.{arith}
use lib.ListN.{length, get_or, set, take, drop}
use lib.Seq.{get_or-set_same}
use Rattle.network.specs.Network.{Network, node_count, neighbours_of}
use Rattle.network.specs.Accepted.{Accepted}
use Rattle.network.specs.Distance.{NONE, dist}
use Rattle.network.specs.Count.{bit}
use Rattle.network.specs.Points.{lockers, is_listed, is_expanded, expanded}
use Rattle.network.specs.Nearest.{nearest}
use Rattle.network.specs.Order.{Nearer}
use Rattle.network.specs.Visits.{counted, visits}
use Rattle.network.proofs.Tests.{bool_cases}
use Rattle.network.proofs.Counts.{count_few}
use Rattle.network.proofs.Rank.{Near}
use Rattle.network.proofs.Visits.{visit_pairs, visits_size, visits_at, visits_count, counted_lockers, nearer_counted}
use Rattle.expansion.specs.Queue.{key_of}
use Rattle.expansion.specs.Tags.{tag_of}
use Rattle.expansion.specs.declared.verify.Site.TheVariants.{One}
use Rattle.expansion.specs.Area.{queue_base, Moved, Took, Followed}
use Rattle.expansion.specs.NodeQueue.{PushedNode}
use Rattle.expansion.specs.Expand.{CanExpand}
use Rattle.expansion.proofs.Origins.{one, one_lawful}
use Rattle.expansion.proofs.AreaLaws.{moved_same, settled_as}
use Rattle.expansion.proofs.AreaSearch.{took_exact}
use Rattle.expansion.proofs.Progress.{progress_begun, progress_start, took_small}
use Rattle.expansion.proofs.Turns.{InTurn, turn_start, turn_beside, turn_all, turn_fits, turn_next, turn_other, turn_point}
use Rattle.searches.specs.Flags.{flags_end, ids_base, LookedAt}
use Rattle.searches.specs.Eager.{CanExploreEager, VisitsKept}
use Rattle.searches.proofs.Beaten.{Beaten, expanded_unbeaten}
use Rattle.searches.proofs.Finds.{site_receives, Met}
use Rattle.searches.proofs.Tells.{tells_expanded}
use Rattle.searches.proofs.FlagLaws.{no_flags}
use Rattle.searches.proofs.LookLaws.{flags_same}
use Rattle.searches.proofs.Searching.{SearchFrom, Searching, leads, beside_old, looked_searching, looked_stays, front, searching_stopped, searching_opened, kept, kept_beside, searching_kept, all}

-- the counted nodes as points, all of them wanted
abbrev pub CountedInTurn : Network → List ℕ → ℕ → ℕ → List ℕ → ℕ → ℕ → Type 0
CountedInTurn g P q k xs b count = InTurn g (counted g P q k) q NONE (suc (length (visit_pairs g P q k))) xs b count

-- the search from a site
abbrev pub FromSite : Network → List ℕ → ℕ → ℕ → List ℕ → ℕ → ℕ → ℕ → Type 0
FromSite g P q k xs b settled len = Searching g P (one g q) (One q) (is_listed g P q k) k xs b settled len

pub record Exploring (g : Network) (P : List ℕ) (q k limit : ℕ) (xs : List ℕ) (b settled len count : ℕ) : Type 0 where
  pub searching : FromSite g P q k xs b settled len
  pub turn : CountedInTurn g P q k xs b count
  pub within : count ≤ limit

module _ {g : Network} {P : List ℕ} {q k b : ℕ} {s₀ : List ℕ} (c : CanExploreEager g P s₀ b q k) where
  ok : Accepted g
  ok = c.search.accepted

  low : ids_base g ≤ b
  low = omega (arith, c.base)

  pub from_site : SearchFrom g P (one g q) (One q) (is_listed g P q k) k b
  from_site =
      record {
        accepted = ok;
        lawful = one_lawful ok q;
        points = c.search.points;
        inside = c.search.site;
        some = c.search.some;
        receives = site_receives ok P q k;
        base = c.base;
      }

  -- the search answers for the counted nodes
  sees : (x : ℕ) → Nearer g (counted g P q k) q NONE x → Met g P (one g q) k x
  sees x r = inl ((expanded_unbeaten ok P q k x).0 (nearer_counted ok P q k x r)).1

  pub can_expand : CanExpand g s₀ b q
  can_expand =
      record {
        accepted = ok;
        inside = c.search.site;
        blank = record { zero = λ j h. c.search.blank.zero j (omega (arith, low)) };
        size = omega (arith, c.search.size, c.base);
      }

  -- no more are counted than there are nodes
  pub few_visits : {count : ℕ} → count < expanded g P q k → count < node_count g
  unfolding expanded
  few_visits h = omega (arith, count_few (is_expanded g P q k) (node_count g))

  pub few_counted : {limit : ℕ} {xs : List ℕ} {settled len count : ℕ} → Exploring g P q k limit xs b settled len count → count ≤ node_count g
  unfolding expanded
  few_counted e = omega (arith, e.turn.full, visits_size g P q k, visits_count ok P q k, count_few (is_expanded g P q k) (node_count g))

  -- the search begins
  pub exploring_start : {xs : List ℕ} (limit : ℕ) → PushedNode (node_count g) s₀ xs b (queue_base (node_count g) b) 0 (key_of 0 (tag_of q q)) → Exploring g P q k limit xs b 0 1 0
  exploring_start {xs} limit t =
      record {
        searching =
            record {
              progress = progress_start ok can_expand t;
              lists = refl;
              flags = flags_same (λ i h. t.frame.before i (omega (arith, low))) (no_flags g (is_listed g P q k) c.search.blank);
              blank = λ j h m. t.frame.before j m ∙ c.search.blank.zero j (omega arith);
              told = λ v l p h near a. absurd (omega (arith, h.is, word v h.inside));
            };
        turn = turn_start (λ v l h. omega (arith, h.is, word v h.inside));
        within = omega arith;
      }
    where
      word : (v : ℕ) → v < node_count g → get_or xs (b + v) 0 ≤ node_count g
      word v h = (progress_begun ok can_expand t).others v h (omega (arith, c.search.blank.zero (b + v) (omega (arith, low))))

  module _ {limit : ℕ} {xs : List ℕ} {settled len count : ℕ} (e : Exploring g P q k limit xs b settled len count)
      {ys : List ℕ} {left l v u : ℕ} (t : Took (node_count g) xs ys b len left l v u) where
    module _ {zs : List ℕ} {r : ℕ} (seen : LookedAt g P (is_listed g P q k) k (take b ys) zs v l r) where
      pub looked_exploring : Exploring g P q k limit (zs ++ drop b xs) b settled len count
      looked_exploring =
          record {
            searching = looked_searching from_site e.searching t seen;
            turn = turn_beside (beside_old from_site e.searching t seen) e.turn;
            within = e.within;
          }

      pub looked_visited : VisitsKept g P q k xs count → VisitsKept g P q k (zs ++ drop b xs) count
      looked_visited w i h =
          let c = few_counted e in
          looked_stays from_site e.searching t seen (flags_end g + i) (omega arith) (omega arith) ∙ w i h

    -- ---- The node is settled. r points were found from it.
    pub few_expanded : {r : ℕ} → r ≡ length (nearest g P v l k) → r < k → is_expanded g P q k v ≡ true
    few_expanded = tells_expanded ok e.searching.progress t P k

    -- a counted node is the next of the visits
    module _ (h : is_expanded g P q k v ≡ true) where
      exact : l ≡ dist g q v
      exact = took_exact ok e.searching.progress.area e.searching.progress.searched t (leads from_site) (inl ((expanded_unbeaten ok P q k v).0 h).1)

      one_locker : lockers (counted g P q k) v ≡ 1
      one_locker = counted_lockers g P q k v t.inside ∙ ap bit h

      near : l < NONE
      near = omega (arith, took_small ok e.searching.progress t)

      place : count < suc (length (visit_pairs g P q k))
      place = omega (arith, e.turn.full)

      fits_one : count + 1 ≤ length (visit_pairs g P q k)
      fits_one = rw one_locker at (turn_fits ok (leads from_site) sees e.searching.progress e.turn t exact (omega (arith, one_locker)) near place)

      -- the count would exceed the limit
      pub beyond : count < expanded g P q k
      beyond = omega (arith, fits_one, visits_size g P q k, visits_count ok P q k)

      pub next_visit : get_or (visits g P q k) count 0 ≡ v
      next_visit =
          visits_at g P q k count
          ∙ ap (λ (x : ℕ × ℕ). x.0) (turn_next ok (leads from_site) sees e.searching.progress e.turn t exact (omega (arith, one_locker)) near place count (omega arith) (omega (arith, one_locker)))

      turn_counted : {ws : List ℕ} → Moved (node_count g) (settled_as (node_count g) ys b settled v l) ws b → CountedInTurn g P q k ws b (count + 1)
      turn_counted same = turn_point ok (leads from_site) sees e.searching.progress e.turn t same exact (omega (arith, one_locker)) near place (omega (arith, one_locker, fits_one))

    turn_stopped : {ws : List ℕ} → is_expanded g P q k v ≡ false → Moved (node_count g) (settled_as (node_count g) ys b settled v l) ws b → CountedInTurn g P q k ws b count
    turn_stopped n same = turn_other ok (leads from_site) sees e.searching.progress e.turn t same (counted_lockers g P q k v t.inside ∙ ap bit n)

    -- ws is the area in which the node is settled, and perhaps its arcs are followed
    pub visited_kept : {ws : List ℕ} → Moved (node_count g) (settled_as (node_count g) ys b settled v l) ws b → VisitsKept g P q k xs count → VisitsKept g P q k ws count
    visited_kept same w i h = let c = few_counted e in front from_site e.searching t same (flags_end g + i) (omega (arith, low)) ∙ w i h

    module _ (told : (p : ℕ) → Near g P v l k p → is_listed g P q k p ≡ true → get_or xs (node_count g + p) 0 ≢ 0) where
      -- the search stops behind the node
      pub exploring_stopped : Beaten g P (one g q) k v → Exploring g P q k limit (settled_as (node_count g) ys b settled v l) b (settled + 1) left count
      exploring_stopped h =
          let n : is_expanded g P q k v ≡ false = ⊎_elim (λ a. absurd (((expanded_unbeaten ok P q k v).0 a).1 h)) (λ a. a) (bool_cases (is_expanded g P q k v)) in
          record { searching = searching_stopped from_site e.searching t told h; turn = turn_stopped n moved_same; within = e.within }

      -- or counts it, and follows its arcs
      pub exploring_opened : {ws : List ℕ} {more : ℕ} → is_expanded g P q k v ≡ true → count < limit
          → Followed g (settled_as (node_count g) ys b settled v l) ws b left more v l (length (neighbours_of g v))
          → Exploring g P q k limit ws b (settled + 1) more (count + 1)
      exploring_opened y h f =
          record { searching = searching_opened from_site e.searching t told f; turn = turn_counted y f.frame; within = omega arith }

  -- ---- A visit is kept in its word, between the flags and the found nodes.
  module _ {limit : ℕ} {xs : List ℕ} {settled len count : ℕ} (e : Exploring g P q k limit xs b settled len count) (i v : ℕ) (h : i < node_count g) where
    word_fits : flags_end g + i < length xs
    word_fits = omega (arith, e.searching.progress.area.queue.room, low)

    pub exploring_kept : Exploring g P q k limit (set xs (flags_end g + i) v) b settled len count
    exploring_kept =
        record {
          searching = searching_kept from_site e.searching (flags_end g + i) v (omega arith) (omega arith);
          turn = turn_beside (kept_beside from_site e.searching (flags_end g + i) v (omega arith) (omega arith)) e.turn;
          within = e.within;
        }

    pub visited_more : VisitsKept g P q k xs i → get_or (visits g P q k) i 0 ≡ v → VisitsKept g P q k (set xs (flags_end g + i) v) (i + 1)
    visited_more w is j l =
        elim (ℕ_discrete j i) [
          | yes y ↦ rw y (get_or-set_same xs (flags_end g + i) v 0 word_fits ∙ sym is)
          | no n ↦ kept from_site e.searching (flags_end g + i) v (omega arith) (omega arith) (flags_end g + j) (omega arith) ∙ w j (omega arith)
        ]

  -- ---- No entry waits.
  pub count_all : {limit : ℕ} {xs : List ℕ} {settled len count : ℕ} → Exploring g P q k limit xs b settled len count → len ≡ 0 → count ≡ expanded g P q k
  count_all e t =
      let full = e.turn.full in
      ⊎_elim
      (λ a. absurd (omega arith))
      (λ a. omega (arith, visits_size g P q k, visits_count ok P q k))
      (turn_all e.turn (λ x r. all from_site e.searching t x (sees x r) (λ z. omega (arith, r.less))))
