-- The search for the households that a site wins, under way. It follows the arcs of the unbeaten nodes, and answers for them. A flag is that of a listed
-- household, and each settled node that is listed has its flag.
-- Assumes nothing.
use Prim.Native.Nat.{ℕ, ◌+◌, ◌≤◌, ◌<◌}
use mathlib.Core.Path.{◌≡◌, sym, ap, ◌∙◌}
use mathlib.Core.Bool.{true}
use mathlib.Core.Logic.{◌≢◌, ⊎_elim}
use mathlib.Core.List.{List, ◌++◌}
use native.Mathlib.Decide.{ℕ_discrete, dec_lt}
use native.Mathlib.Omega.{arith}
use lib.ListN.{length, get_or, set, take, drop, replicate, length-set, length-replicate, get_or-eq_default}
use lib.Seq.{ext_get_or, get_or-take, length-take-le, get_or-set_same, get_or-set_other}
use borrow.Author.Tests.{ltb-true, lt-ltb}
use Rattle.network.specs.Network.{Network, node_count, neighbours_of}
use Rattle.network.specs.Accepted.{Accepted}
use Rattle.network.specs.Distance.{dist}
use Rattle.network.specs.Count.{select}
use Rattle.network.specs.Points.{lockers, is_expanded}
use Rattle.network.specs.Households.{is_won, won}
use Rattle.network.specs.Nearest.{nearest}
use Rattle.network.proofs.Households.{won_parts, parts_won}
use Rattle.network.proofs.Lends.{first_size, first_part, first_after}
use Rattle.network.proofs.Counts.{select_same}
use Rattle.expansion.specs.Queue.{key_of}
use Rattle.expansion.specs.Tags.{tag_of}
use Rattle.expansion.specs.Area.{queue_base, LabelAt, Moved, Took, Followed}
use Rattle.expansion.specs.NodeQueue.{PushedNode}
use Rattle.expansion.specs.Expand.{CanExpand}
use Rattle.expansion.specs.Found.{NodesLeft}
use Rattle.expansion.specs.declared.nearest.Near.{Near}
use Rattle.expansion.proofs.Origins.{one, one_lawful}
use Rattle.expansion.proofs.Search.{Leads, closed_leads}
use Rattle.expansion.proofs.AreaLaws.{moved_same, settled_as}
use Rattle.expansion.proofs.AreaSearch.{search_finished}
use Rattle.expansion.proofs.Progress.{Progress, progress_begun, progress_start, progress_settled}
use Rattle.expansion.proofs.Beside.{Beside, beside_label_at, progress_beside}
use Rattle.expansion.proofs.Stopping.{progress_stopped}
use Rattle.expansion.proofs.Settled.{zero_blank}
use Rattle.searches.specs.Eager.{is_found}
use Rattle.searches.proofs.Beaten.{Beaten, Unbeaten, unbeaten_closed, expanded_unbeaten}
use Rattle.searches.proofs.Tells.{tells_expanded, tells_beaten, front_kept, labels_then}
use Rattle.searches.proofs.FlagLaws.{flag_right}
use Rattle.households.specs.Winning.{flags_base, outer_base, CanCountSites, CanWin, Explored}

-- ---- A look: the words that it is lent are all 0 when the found nodes are cleared.
module _ {g : Network} {T : List ℕ} {v : ℕ} {xs : List ℕ} (c : CanCountSites g T xs v) where
  module _ {k l : ℕ} {ys : List ℕ} {r : Near} (n : NodesLeft g T v l k xs ys (node_count g) r) where
    pub found_fits : r.found ≤ length ys
    found_fits = omega (arith, n.found_in.few, n.size, c.size)

    pub look_clears : {zs : List ℕ} → zs ≡ replicate (length (take r.found ys)) 0 → zs ++ drop r.found ys ≡ xs
    look_clears {zs} e =
        ext_get_or 0 (zs ++ drop r.found ys) xs (first_size r.found ys zs found_fits same ∙ n.size)
        (λ j h. word j ∙ sym (c.blank.zero j (omega arith)))
      where
        same : length zs ≡ length (take r.found ys)
        same = ap length e ∙ length-replicate (length (take r.found ys)) 0

        word : (j : ℕ) → get_or (zs ++ drop r.found ys) j 0 ≡ 0
        word j =
            elim (dec_lt j r.found) [
              | yes h ↦ first_part r.found ys zs found_fits same j h ∙ (zero_blank (length (take r.found ys)) 0 e).zero j (omega arith)
              | no h ↦
                  first_after r.found ys zs found_fits same j (omega arith)
                  ∙ elim (dec_lt j (node_count g)) [
                    | yes a ↦ n.found_in.rest j (omega arith) a
                    | no a ↦ n.blank.zero j (omega arith)
                  ]
            ]

-- ---- The search under way.
pub record Winning (g : Network) (H T : List ℕ) (q k : ℕ) (xs : List ℕ) (settled len : ℕ) : Type 0 where
  pub progress : Progress g (one g q) (Unbeaten g T (one g q) k) (Unbeaten g T (one g q) k) xs (outer_base g) settled len
  pub blank : (j : ℕ) → j < flags_base g → get_or xs j 0 ≡ 0
  pub sound : (h : ℕ) → h < node_count g → get_or xs (flags_base g + h) 0 ≢ 0 → is_won g H T q k h ≡ true
  pub told : (v l : ℕ) → LabelAt (node_count g) xs (outer_base g) v l → is_won g H T q k v ≡ true → get_or xs (flags_base g + v) 0 ≢ 0

module _ {g : Network} {T : List ℕ} {q k : ℕ} {s₀ : List ℕ} (c : CanWin g T s₀ q k) where
  ok : Accepted g
  ok = c.accepted

  pub leads : Leads g (one g q) (Unbeaten g T (one g q) k) (Unbeaten g T (one g q) k)
  leads = closed_leads (one_lawful ok q) (unbeaten_closed ok (one_lawful ok q) T k)

  pub can_expand : CanExpand g s₀ (outer_base g) q
  can_expand =
      record {
        accepted = ok;
        inside = c.inside;
        blank = record { zero = λ j h. c.blank.zero j (omega arith) };
        size = omega (arith, c.size);
      }

  -- the search begins
  pub winning_start : {H xs : List ℕ} → PushedNode (node_count g) s₀ xs (outer_base g) (queue_base (node_count g) (outer_base g)) 0 (key_of 0 (tag_of q q)) → Winning g H T q k xs 0 1
  winning_start {xs = xs} t =
      record {
        progress = progress_start ok can_expand t;
        blank = λ j h. word j (omega arith);
        sound = λ h l n. absurd (n (word (flags_base g + h) (omega arith)));
        told =
            λ v l h a.
            absurd
            (omega (
              arith,
              h.is,
              (progress_begun ok can_expand t).others v h.inside (omega (arith, c.blank.zero (outer_base g + v) (omega arith))),
            ));
      }
    where
      word : (j : ℕ) → j < outer_base g → get_or xs j 0 ≡ 0
      word j h = t.frame.before j h ∙ c.blank.zero j (omega arith)

  module _ {H xs : List ℕ} {settled len : ℕ} (e : Winning g H T q k xs settled len)
      {ys : List ℕ} {left l v u : ℕ} (t : Took (node_count g) xs ys (outer_base g) len left l v u) where
    fits : flags_base g ≤ length ys
    fits = omega (arith, e.progress.area.queue.room, t.popped.frame.size)

    -- what `look` requires of the words that it is lent; they come back as they were
    pub can_count : CanCountSites g T (take (flags_base g) ys) v
    can_count =
        record {
          accepted = ok;
          sites = c.sites;
          inside = t.inside;
          blank = record { zero = λ j h. zero j };
          size = omega (arith, length-take-le (flags_base g) ys fits);
        }
      where
        zero : (j : ℕ) → get_or (take (flags_base g) ys) j 0 ≡ 0
        zero j =
            elim (dec_lt j (flags_base g)) [
              | yes h ↦ get_or-take (flags_base g) ys j 0 h ∙ t.popped.frame.before j (omega arith) ∙ e.blank j h
              | no h ↦ get_or-eq_default (take (flags_base g) ys) 0 (omega (arith, length-take-le (flags_base g) ys fits))
            ]

    -- the node is settled; its flag is w, or as it was
    module _ {ws : List ℕ} {more : ℕ} (same : Moved (node_count g) (settled_as (node_count g) ys (outer_base g) settled v l) ws (outer_base g))
        (progress : Progress g (one g q) (Unbeaten g T (one g q) k) (Unbeaten g T (one g q) k) ws (outer_base g) (settled + 1) more) where
      front : (i : ℕ) → i < outer_base g → get_or ws i 0 ≡ get_or xs i 0
      front = front_kept ok e.progress t same

      -- the search stops behind the node
      stopped : Beaten g T (one g q) k v → Winning g H T q k ws (settled + 1) more
      stopped beaten =
          record {
            progress = progress;
            blank = λ j h. front j (omega arith) ∙ e.blank j h;
            sound = λ h l n. e.sound h l (rw (front (flags_base g + h) (omega arith)) at n);
            told =
                λ x m h a.
                rw (front (flags_base g + x) (omega (arith, h.inside)))
                (⊎_elim
                (λ o. e.told x m o a)
                (λ s. absurd (((expanded_unbeaten ok T q k v).0 (rw s.0 at (won_parts g H T q k x a).1)).1 beaten))
                (labels_then ok e.progress t same x m h));
          }

      -- or flags it with its households
      module _ (y : is_expanded g T q k v ≡ true) where
        abbrev flagged : List ℕ
        flagged = set ws (flags_base g + v) (lockers H v)

        other : (j : ℕ) → j ≢ flags_base g + v → get_or flagged j 0 ≡ get_or ws j 0
        other j n = get_or-set_other ws (flags_base g + v) j (lockers H v) 0 n

        own : get_or flagged (flags_base g + v) 0 ≡ lockers H v
        own = get_or-set_same ws (flags_base g + v) (lockers H v) 0 (omega (arith, t.inside, progress.area.queue.room))

        beside : Beside ws flagged (outer_base g)
        beside = record { size = length-set ws (flags_base g + v) (lockers H v); words = λ j l. other j (omega (arith, t.inside)) }

        flag_sound : (h : ℕ) → h < node_count g → get_or flagged (flags_base g + h) 0 ≢ 0 → is_won g H T q k h ≡ true
        flag_sound h low n =
            elim (ℕ_discrete h v) [
              | yes i ↦ rw i (parts_won g H T q k v (lt-ltb 0 (lockers H v) (omega (arith, own, rw i at n))) y)
              | no i ↦ e.sound h low (rw (other (flags_base g + h) (omega arith), front (flags_base g + h) (omega arith)) at n)
            ]

        flag_told : (x m : ℕ) → LabelAt (node_count g) flagged (outer_base g) x m → is_won g H T q k x ≡ true → get_or flagged (flags_base g + x) 0 ≢ 0
        flag_told x m h a =
            elim (ℕ_discrete x v) [
              | yes i ↦ rw (i, own) (λ z. omega (arith, ltb-true 0 (lockers H v) (rw i at (won_parts g H T q k x a).0)))
              | no i ↦
                  rw (other (flags_base g + x) (omega arith), front (flags_base g + x) (omega (arith, h.inside)))
                  (⊎_elim
                  (λ o. e.told x m o a)
                  (λ s. absurd (i s.0))
                  (labels_then ok e.progress t same x m (beside_label_at beside h)))
            ]

        opened : Winning g H T q k flagged (settled + 1) more
        opened =
            record {
              progress = progress_beside beside ok progress;
              blank = λ j h. other j (omega arith) ∙ front j (omega arith) ∙ e.blank j h;
              sound = flag_sound;
              told = flag_told;
            }

    -- k sites are found: the node is beaten; fewer: it is expanded
    pub winning_stopped : {r : ℕ} → r ≡ length (nearest g T v l k) → k ≤ r → Winning g H T q k (settled_as (node_count g) ys (outer_base g) settled v l) (settled + 1) left
    winning_stopped n h =
        let beaten = tells_beaten ok e.progress t T k leads (λ o. o) n h in
        stopped moved_same (progress_stopped ok e.progress t leads (λ o. o beaten)) beaten

    pub winning_opened : {ws : List ℕ} {more r : ℕ} → r ≡ length (nearest g T v l k) → r < k
        → Followed g (settled_as (node_count g) ys (outer_base g) settled v l) ws (outer_base g) left more v l (length (neighbours_of g v))
        → Winning g H T q k (set ws (flags_base g + v) (lockers H v)) (settled + 1) more
    winning_opened n h f = opened f.frame (progress_settled ok e.progress t leads f) (tells_expanded ok e.progress t T k n h)

  -- no entry waits: each listed household has its flag
  pub winning_done : {H xs : List ℕ} {settled len : ℕ} → Winning g H T q k xs settled len → len ≡ 0 → length xs ≡ length s₀ → Explored g H T q k s₀ xs settled
  winning_done {H} {xs} e z size =
      record { size = size; area = rw z at e.progress.area; flags = λ h l. flag_right (get_or xs (flags_base g + h) 0) (is_won g H T q k h) (told h) (e.sound h l) }
    where
      told : (h : ℕ) → is_won g H T q k h ≡ true → get_or xs (flags_base g + h) 0 ≢ 0
      told h a =
          let r = (expanded_unbeaten ok T q k h).0 (won_parts g H T q k h a).1 in
          e.told h (dist g q h)
          (search_finished ok e.progress.area e.progress.searched z leads h r.1 r.0) a

-- the list of the flags
pub won_list : {g : Network} {H T : List ℕ} {q k : ℕ} {xs ys : List ℕ} {settled : ℕ} → Explored g H T q k xs ys settled
    → select (is_found (flags_base g) ys) (node_count g) ≡ won g H T q k
unfolding won
won_list {g} {H} {T} {q} {k} {xs} {ys} d = select_same (is_found (flags_base g) ys) (is_won g H T q k) (node_count g) d.flags
