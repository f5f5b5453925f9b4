-- An expansion under way: its area, and the law of its search. What each step requires follows from it, and each step keeps it while a node more is
-- settled.
-- Assumes nothing.
use Prim.Native.Nat.{ℕ, ◌+◌, ◌≤◌, ◌<◌}
use mathlib.Core.Path.{◌≡◌, ◌∙◌}
use mathlib.Core.List.{List}
use native.Mathlib.Omega.{arith}
use lib.ListN.{length, get_or}
use Rattle.network.specs.Network.{Network, node_count, neighbours_of}
use Rattle.network.specs.Accepted.{Accepted}
use Rattle.expansion.specs.Queue.{key_of}
use Rattle.expansion.specs.Tags.{tag_of}
use Rattle.expansion.specs.NodeQueue.{PushedNode}
use Rattle.expansion.specs.Area.{queue_base, Area, Kept, Moved, Took, CanFollow, Followed}
use Rattle.expansion.specs.Expand.{CanExpand}
use Rattle.expansion.proofs.Origins.{Origin, Lawful, one, one_lawful}
use Rattle.expansion.proofs.Search.{Leads, closed_leads}
use Rattle.expansion.proofs.AreaLaws.{started_moved, area_start, settled_as, place_left, area_settle, frame_settle}
use Rattle.expansion.proofs.AreaSearch.{Searched, search_start, search_took, search_settle, area_after, took_area, took_word, took_held, took_least, took_low}

-- every node is open, and seen
abbrev pub All : ℕ → Type 0
All _ = Unit {0}

pub all_lead : {g : Network} {s : Origin} → Lawful g s → Leads g s All All
all_lead lawful = closed_leads lawful (record { before = λ u v w o r e n. tt })

pub all_leads : {g : Network} → Accepted g → (s : ℕ) → Leads g (one g s) All All
all_leads ok s = all_lead (one_lawful ok s)

pub record Progress (g : Network) (s : Origin) (Open Seen : ℕ → Type 0) (xs : List ℕ) (b settled len : ℕ) : Type 0 where
  pub area : Area (node_count g) xs b settled len
  pub searched : Searched g s Open Seen xs b len

pub progress_begun : {g : Network} (ok : Accepted g) {s : ℕ} {xs ys : List ℕ} {b : ℕ} → CanExpand g xs b s → PushedNode (node_count g) xs ys b (queue_base (node_count g) b) 0 (key_of 0 (tag_of s s)) → Moved (node_count g) xs ys b
progress_begun ok c t = started_moved c.blank c.size ok.few c.inside t

module _ {g : Network} (ok : Accepted g) {s : ℕ} {Open Seen : ℕ → Type 0} where
  -- one source waits alone
  pub progress_start : {xs ys : List ℕ} {b : ℕ} → CanExpand g xs b s → PushedNode (node_count g) xs ys b (queue_base (node_count g) b) 0 (key_of 0 (tag_of s s)) → Progress g (one g s) Open Seen ys b 0 1
  progress_start c t =
      record {
        area = area_start c.blank c.size ok.few c.inside t;
        searched = search_start ok c.blank c.inside (started_moved c.blank c.size ok.few c.inside t) t;
      }

module _ {g : Network} (ok : Accepted g) {s : Origin} {Open Seen : ℕ → Type 0} where
  module _ {xs : List ℕ} {b settled len : ℕ} (p : Progress g s Open Seen xs b settled len) where
    module _ {ys : List ℕ} {left l v u : ℕ} (t : Took (node_count g) xs ys b len left l v u) where
      after_took : Area (node_count g) ys b settled left
      after_took = took_area ok p.area p.searched t

      word : get_or ys (b + v) 0 ≡ 0
      word = took_word ok p.area p.searched t

      -- a place is left
      pub took_place : settled < node_count g
      took_place = place_left after_took v l t.inside word

      pub took_small : l + 65535 ≤ 4294836225
      took_small = omega (arith, took_low ok p.area p.searched t, took_place, ok.few)

      -- the entry's label is the sum of a walk to v
      pub took_walk : s.From v l
      took_walk = p.searched.held_walk v l (took_held ok p.area p.searched t)

      -- what `settle` requires
      pub took_fits : (b + node_count g + settled < length ys) × (b + v < length ys) × (l + node_count g + 1 < 4294967296) × (node_count g ≤ 65535)
      took_fits =
          (omega (arith, after_took.queue.room, took_place), omega (arith, after_took.queue.room, t.inside), omega (arith, took_small, ok.few), ok.few)

      -- what `open` requires of the area in which v is settled
      pub took_follow : CanFollow g (settled_as (node_count g) ys b settled v l) b left v l
      took_follow =
          record {
            accepted = ok;
            inside = t.inside;
            fits = omega (arith, took_small);
            queue = (area_settle after_took v l t.inside word (took_low ok p.area p.searched t)).queue;
          }

      module _ (leads : Leads g s Open Seen) {ws : List ℕ} {more : ℕ}
          (f : Followed g (settled_as (node_count g) ys b settled v l) ws b left more v l (length (neighbours_of g v))) where
        pub frame_settled : Kept xs ws b
        frame_settled =
            record {
              size = f.frame.size ∙ (frame_settle after_took v l t.inside word).size ∙ t.popped.frame.size;
              words =
                  λ i h. f.frame.before i h ∙ (frame_settle after_took v l t.inside word).words i h ∙ t.popped.frame.before i h;
            }

        pub progress_settled : Progress g s Open Seen ws b (settled + 1) more
        progress_settled =
            record {
              area =
                  area_after ok after_took l t.inside word (search_took ok p.area p.searched t) leads
                  (took_least ok p.area p.searched t) (took_low ok p.area p.searched t) f;
              searched =
                  search_settle ok after_took l t.inside word (search_took ok p.area p.searched t) leads
                  (took_least ok p.area p.searched t) (took_low ok p.area p.searched t) f;
            }
