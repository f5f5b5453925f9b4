-- The entries of a sheet, one node after the other: the labels stay, and the marks are those of sites before the present node. And the whole sheet.
-- Assumes nothing.
use Prim.Native.Nat.{ℕ, ◌+◌, ◌-◌, ◌*◌, ◌≤◌, ◌<◌}
use mathlib.Core.Path.{◌≡◌, refl, sym, ap, ◌∙◌}
use mathlib.Core.List.{List}
use native.Mathlib.Omega.{arith}
use lib.ListN.{length, get_or, replicate, length-replicate}
use lib.Seq.{get_or-drop}
use Rattle.network.specs.Network.{Network, node_count}
use Rattle.network.specs.Households.{sheet_entry, sheet}
use Rattle.network.proofs.Tabulate.{Stored, stored_all}
use Rattle.expansion.specs.Area.{queue_base, Kept}
use Rattle.network.specs.Distance.{dist_from}
use Rattle.expansion.specs.Expand.{word_distance, nodes_waiting, CanSettleFrom, SettledFrom}
use Rattle.expansion.proofs.AreaLaws.{kept_trans}
use Rattle.expansion.proofs.Settled.{word_distance_lem, zero_blank}
use Rattle.sheet.specs.Sources.{Started}
use Rattle.sheet.specs.Sheet.{CanEnter, EntryLeft, CanWriteAll, EntriesLeft, CanSheet, SheetLeft}
use Rattle.sheet.proofs.Growing.{label_kept}
use Rattle.sheet.proofs.Starting.{started_sites}

pub record Entering (g : Network) (xs ys : List ℕ) (at : ℕ) : Type 0 where
  pub frame : Kept xs ys (4 * node_count g)
  pub marks : (u : ℕ) → u < node_count g → get_or ys (4 * node_count g + u) 0 ≤ at

pub entering_start : {g : Network} {T xs old : List ℕ} → CanWriteAll g T xs old → Entering g xs xs 0
entering_start c = record { frame = record { size = refl; words = λ i h. refl }; marks = λ u h. omega (arith, c.marks u h) }

module _ {g : Network} {T xs : List ℕ} {ys : List ℕ} {at : ℕ} (e : Entering g xs ys at) where
  pub entering_more : {H zs : List ℕ} {r : ℕ} → EntryLeft g H T ys zs at r → Entering g xs zs (at + 1)
  entering_more l = record { frame = kept_trans e.frame l.frame; marks = λ u h. omega (arith, l.marks u h) }

pub can_enter : {g : Network} {T xs old ys : List ℕ} {at : ℕ} → CanWriteAll g T xs old → Entering g xs ys at → at < node_count g → CanEnter g T ys at
can_enter c e h =
    record {
      accepted = c.accepted;
      room = omega (arith, c.room, e.frame.size);
      inside = h;
      labels = λ v l. label_kept e.frame v l ∙ c.labels v l;
      marks = e.marks;
    }

pub entries_left : {g : Network} {H T xs ys old new : List ℕ} → length ys ≡ length xs → Stored (sheet_entry g H T) (node_count g) old new → EntriesLeft g H T xs ys old new
unfolding sheet
entries_left size s = record { size = size; answers = stored_all s }

-- ---- The whole sheet.
module _ {g : Network} {T xs ys old : List ℕ} {len : ℕ} (c : CanSheet g xs old) (t : Started (node_count g) T xs ys (node_count g) len) where
  pub can_settle : CanSettleFrom g ys 0 len
  can_settle = record { accepted = c.accepted; area = t.area }

  -- each label is the distance of the nearest site, and no mark is set
  pub can_write_all : {zs : List ℕ} {settled : ℕ} → SettledFrom g ys zs 0 settled → CanWriteAll g T zs old
  can_write_all {zs} r =
      record {
        accepted = c.accepted;
        room = omega (arith, c.room, t.size, r.frame.size);
        labels =
            λ v h.
            ap (word_distance (node_count g)) (r.labels v h)
            ∙ word_distance_lem (node_count g) (dist_from g (nodes_waiting (node_count g) ys 0) v)
            ∙ ap (λ (l : List ℕ). dist_from g l v) (started_sites g t);
        marks = λ u h. beyond (4 * node_count g + u) (omega arith);
        places = c.places;
      }
    where
      -- the queue is empty, so its words and those behind them are 0
      beyond : (j : ℕ) → 4 * node_count g ≤ j → get_or zs j 0 ≡ 0
      beyond j h =
          let e : queue_base (node_count g) 0 + (j - queue_base (node_count g) 0) ≡ j = omega arith in
          ap (λ (i : ℕ). get_or zs i 0) (sym e)
          ∙ sym (get_or-drop (queue_base (node_count g) 0) zs (j - queue_base (node_count g) 0) 0)
          ∙ r.area.queue.queue.zeros (j - queue_base (node_count g) 0) (omega arith)

  pub sheet_left : {H zs ws new : List ℕ} {settled : ℕ} {us : List ℕ} → SettledFrom g ys zs 0 settled → EntriesLeft g H T zs ws old new
      → us ≡ replicate (length ws) 0 → SheetLeft g H T xs us old new
  sheet_left {ws = ws} r w e =
      record {
        area =
            record {
              frame = record { size = ap length e ∙ length-replicate (length ws) 0 ∙ w.size ∙ r.frame.size ∙ t.size; words = λ i h. absurd (omega arith) };
              blank = zero_blank (length ws) 0 e;
            };
        answers = w.answers;
      }
