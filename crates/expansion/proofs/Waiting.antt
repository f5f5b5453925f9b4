-- An expansion from the nodes that wait at label 0 where none is settled: it is under way. Where it goes through everything and ends, each node's seat is that of the
-- distance of the nearest of them.
-- Assumes nothing.
use Prim.Native.Nat.{ℕ, zero, suc, ◌+◌, ◌≤◌, ◌<◌}
use mathlib.Core.Path.{◌≡◌, refl, sym, ap, ◌∙◌}
use mathlib.Core.Bool.{not, ◌||◌}
use mathlib.Core.Logic.{◌≢◌, inl, inr}
use mathlib.Core.List.{List, Memᴰ}
use native.Mathlib.Decide.{ℕ_discrete, dec_le}
use native.Mathlib.Omega.{arith}
use lib.Dec.{eqb}
use lib.ListN.{get_or}
use borrow.Author.Tests.{eq-eqb, ne_eqb, eqb-false, not-true}
use Rattle.network.specs.Network.{Network, node_count}
use Rattle.network.specs.Accepted.{Accepted}
use Rattle.network.specs.Distance.{NONE, dist, dist_from}
use Rattle.network.proofs.Counts.{selected, select_passed}
use Rattle.network.proofs.DistancesFrom.{from_one}
use Rattle.expansion.specs.Queue.{key_of, key_at, Holds}
use Rattle.expansion.specs.Tags.{tag_of, node_of}
use Rattle.expansion.specs.NodeQueue.{PushedNode}
use Rattle.expansion.specs.Area.{queue_base, queue_of, HeldAt, Area, Kept}
use Rattle.expansion.specs.Expand.{label_word, is_waiting, nodes_waiting, CanExpand, CanSettleFrom, SettledAll, SettledFrom}
use Rattle.expansion.proofs.Origins.{Origin}
use Rattle.expansion.proofs.Several.{several, several_lawful}
use Rattle.expansion.proofs.Steps.{initial}
use Rattle.expansion.proofs.AreaLaws.{area_start, key_own, kept_trans}
use Rattle.expansion.proofs.AreaSearch.{small, held_same, key_node_of, word_label, search_finished}
use Rattle.expansion.proofs.Progress.{All, all_lead, Progress}
use Rattle.expansion.proofs.Settled.{label_none, label_some}

-- the nodes that wait, as a list
module _ (n : ℕ) (xs : List ℕ) (b : ℕ) where
  pub seat_waiting : (v : ℕ) → v < n → get_or xs (b + v) 0 ≢ 0 → Memᴰ v (nodes_waiting n xs b)
  unfolding nodes_waiting
  seat_waiting v h w = selected (is_waiting xs b) n v h (ap not (ne_eqb (get_or xs (b + v) 0) 0 w))

  pub waiting_seat : (v : ℕ) → Memᴰ v (nodes_waiting n xs b) → (v < n) × (get_or xs (b + v) 0 ≢ 0)
  unfolding nodes_waiting
  waiting_seat v m =
      let r = select_passed (is_waiting xs b) n v m in
      (r.0, eqb-false (get_or xs (b + v) 0) 0 (not-true (eqb (get_or xs (b + v) 0) 0) r.1))

-- no node is settled
unlabelled : {n : ℕ} {xs : List ℕ} {b len : ℕ} → Area n xs b 0 len → (v : ℕ) → v < n → get_or xs (b + v) 0 ≤ n
unlabelled {n} {xs} {b} a v h =
    elim (dec_le (get_or xs (b + v) 0) n) [
      | yes l ↦ l
      | no l ↦ absurd (omega (arith, (a.labelled v h (omega arith)).low))
    ]

-- a source more is put in: it waits, and so do those that waited
module _ {n : ℕ} {xs ys : List ℕ} {b len source : ℕ} (a : Area n xs b 0 len) (h : source < n)
    (p : PushedNode n xs ys b (queue_base n b) len (key_of 0 (tag_of source source))) where
  node : node_of (key_of 0 (tag_of source source)) ≡ source
  node = let low : source < 65536 = omega (arith, a.queue.few) in key_own 0 source source low low

  -- who has an entry waits
  held_waits : (k : ℕ) → Holds (queue_of n ys b) (len + 1) k → (v : ℕ) → node_of k ≡ v → get_or ys (b + v) 0 ≢ 0
  held_waits k x v e z = omega (arith, p.queue.seat x.index x.inside, ap (λ (i : ℕ). get_or ys (b + i) 0) (ap node_of x.is ∙ e))

  others : (v : ℕ) → v < n → v ≢ source → (w : ℕ) → get_or xs (b + v) 0 ≡ w → is_waiting ys b v ≡ is_waiting xs b v
  others v l d zero e = ap (λ (w : ℕ). not (eqb w 0)) (p.frame.free v l (λ i. d (i ∙ node)) (inl e))
  others v l d (suc i) e =
      let q = a.queue.waits v i l e (omega (arith, unlabelled a v l)) in
      let k = key_at (queue_of n xs b) i in
      let x = (p.holds k).1 (inl (record { index = i; inside = q.0; is = refl })) in
      ap not (ne_eqb (get_or ys (b + v) 0) 0 (held_waits k x v q.1))
      ∙ sym (ap not (ne_eqb (get_or xs (b + v) 0) 0 (omega arith)))

  pub pushed_waits : (v : ℕ) → v < n → is_waiting ys b v ≡ (eqb v source || is_waiting xs b v)
  pushed_waits v l =
      elim (ℕ_discrete v source) [
        | yes e ↦
            rw (e, eq-eqb source source refl)
            (ap not (ne_eqb (get_or ys (b + source) 0) 0 (held_waits (key_of 0 (tag_of source source)) ((p.holds (key_of 0 (tag_of source source))).1 (inr refl)) source node)))
        | no d ↦ rw (ne_eqb v source d) (others v l d (get_or xs (b + v) 0) refl)
      ]

module _ {g : Network} (ok : Accepted g) {xs : List ℕ} {b len : ℕ} (a : Area (node_count g) xs b 0 len) where
  -- who waits has an entry, at label 0
  held : (v : ℕ) → Memᴰ v (nodes_waiting (node_count g) xs b) → HeldAt (node_count g) xs b len v 0
  held v m = let r = waiting_seat (node_count g) xs b v m in by r.0 (get_or xs (b + v) 0) refl r.1
    where
      by : v < node_count g → (w : ℕ) → get_or xs (b + v) 0 ≡ w → get_or xs (b + v) 0 ≢ 0 → HeldAt (node_count g) xs b len v 0
      by h zero e n = absurd (n e)
      by h (suc i) e n =
          let q = a.queue.waits v i h e (omega (arith, unlabelled a v h)) in
          let k = key_at (queue_of (node_count g) xs b) i in
          let y = a.entries k (record { index = i; inside = q.0; is = refl }) in
          let is : y.node ≡ v = sym (ap node_of y.is ∙ key_node_of ok y.label y.node y.parent y.inside y.from) ∙ q.1 in
          let none : y.label ≡ 0 = omega (arith, y.low) in
          record {
            parent = y.parent;
            inside = h;
            from = y.from;
            holds = record { index = i; inside = q.0; is = y.is ∙ ap (λ (l : ℕ). key_of l (tag_of y.node y.parent)) none ∙ ap (λ (x : ℕ). key_of 0 (tag_of x y.parent)) is };
          }

  only : (v l : ℕ) → HeldAt (node_count g) xs b len v l → Memᴰ v (nodes_waiting (node_count g) xs b) × (l ≡ 0)
  only v l x =
      let y = a.entries (key_of l (tag_of v x.parent)) x.holds in
      let q = held_same ok l y.label x.inside x.from y.inside (small ok y.from) y.is in
      let s = a.queue.seat x.holds.index x.holds.inside in
      let node = ap node_of x.holds.is ∙ key_node_of ok l v x.parent x.inside x.from in (
        seat_waiting (node_count g) xs b v x.inside (λ z. omega (arith, s, ap (λ (i : ℕ). get_or xs (b + i) 0) node)),
        omega (arith, q.0, y.low),
      )

  pub progress_waiting : {Open Seen : ℕ → Type 0} → Progress g (several g (nodes_waiting (node_count g) xs b)) Open Seen xs b 0 len
  progress_waiting =
      record {
        area = a;
        searched =
            initial (several_lawful ok (nodes_waiting (node_count g) xs b))
            (λ v l x. omega (arith, (a.labelled v x.inside (omega (arith, x.is))).low)) held only;
      }

-- the end of an expansion of everything
module _ {g : Network} (ok : Accepted g) {o : Origin} {ys : List ℕ} {b settled len : ℕ} (p : Progress g o All All ys b settled len) (z : len ≡ 0) where
  labels : (v : ℕ) → v < node_count g → get_or ys (b + v) 0 ≡ label_word (node_count g) (o.far v)
  labels v h =
      elim (ℕ_discrete (o.far v) NONE) [
        | yes e ↦ none e (get_or ys (b + v) 0) refl ∙ sym (label_none (node_count g) (o.far v) e)
        | no n ↦
            (search_finished ok p.area p.searched z (all_lead p.searched.lawful) v tt n).is ∙ sym (label_some (node_count g) (o.far v) n)
      ]
    where
      none : o.far v ≡ NONE → (w : ℕ) → get_or ys (b + v) 0 ≡ w → get_or ys (b + v) 0 ≡ 0
      none e zero q = q
      none e (suc i) q =
          elim (dec_le (suc i) (node_count g)) [
            | yes k ↦ absurd (omega (arith, (p.area.queue.waits v i h q (omega arith)).0))
            | no k ↦
                let d = word_label {n = node_count g} {xs = ys} b v h (omega arith) in
                absurd ((p.searched.lawful.upto (p.searched.settled_walk v d.0 d.1)).some e)
          ]

pub settled_from : {g : Network} (ok : Accepted g) {xs ys : List ℕ} {b settled len : ℕ} → Progress g (several g (nodes_waiting (node_count g) xs b)) All All ys b settled len
    → len ≡ 0 → Kept xs ys b → SettledFrom g xs ys b settled
settled_from ok p z frame = record { frame = frame; area = rw z at p.area; labels = labels ok p z }

-- one node waits alone
module _ {g : Network} {s : ℕ} {xs ys : List ℕ} {b : ℕ} (c : CanExpand g xs b s)
    (t : PushedNode (node_count g) xs ys b (queue_base (node_count g) b) 0 (key_of 0 (tag_of s s))) where
  pub can_settle : CanSettleFrom g ys b 1
  can_settle = record { accepted = c.accepted; area = area_start c.blank c.size c.accepted.few c.inside t }

  alone : (v : ℕ) → dist_from g (nodes_waiting (node_count g) ys b) v ≡ dist g s v
  alone v = from_one g (nodes_waiting (node_count g) ys b) s v (seat_waiting (node_count g) ys b s c.inside own) others
    where
      node : node_of (key_of 0 (tag_of s s)) ≡ s
      node = key_node_of c.accepted 0 s s c.inside c.inside

      own : get_or ys (b + s) 0 ≢ 0
      own e =
          let h = (t.holds (key_of 0 (tag_of s s))).1 (inr refl) in
          omega (arith, t.queue.seat h.index h.inside, ap (λ (i : ℕ). get_or ys (b + i) 0) (ap node_of h.is ∙ node))

      others : (x : ℕ) → Memᴰ x (nodes_waiting (node_count g) ys b) → x ≡ s
      others x m =
          let r = waiting_seat (node_count g) ys b x m in
          let z = c.blank.zero (b + x) (omega arith) in
          elim (ℕ_discrete x s) [
            | yes e ↦ e
            | no n ↦ absurd (r.1 (t.frame.free x r.0 (λ e. n (e ∙ node)) (inl z) ∙ z))
          ]

  pub settled_all : {zs : List ℕ} {settled : ℕ} → SettledFrom g ys zs b settled → SettledAll g xs zs b s settled
  settled_all r =
      record {
        frame = kept_trans (record { size = t.frame.size; words = t.frame.before }) r.frame;
        area = r.area;
        labels = λ v h. r.labels v h ∙ ap (label_word (node_count g)) (alone v);
      }
