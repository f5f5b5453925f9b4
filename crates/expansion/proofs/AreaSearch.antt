-- The search that an area holds: its labels are the settled nodes, its entries wait. Each step keeps the law of the search.
-- Assumes nothing.
use Prim.Native.Nat.{ℕ, ◌+◌, ◌-◌, ◌*◌, ◌≤◌, ◌<◌}
use mathlib.Core.Path.{◌≡◌, refl, sym, ap, ◌∙◌}
use mathlib.Core.Logic.{◌≢◌, ◌⊎◌, inl, inr, ⊎_elim}
use mathlib.Core.List.{List}
use native.Mathlib.Decide.{ℕ_discrete, dec_le}
use native.Mathlib.Omega.{arith}
use lib.ListN.{length, get_or}
use Rattle.network.specs.Network.{Network, Arc, node_count, neighbours_of, weights_of}
use Rattle.network.specs.Accepted.{Accepted}
use Rattle.network.specs.Distance.{NONE}
use Rattle.network.proofs.Ranges.{arc_at, arc_place}
use Rattle.network.proofs.NumberZero.{accepted_ranges}
use Rattle.expansion.specs.Queue.{Holds, key_of}
use Rattle.expansion.specs.Tags.{tag_of, node_of}
use Rattle.expansion.specs.Area.{queue_base, queue_of, Blank, PutAmong, arc_key, LabelAt, HeldAt, Area, Moved, Took, AtOrBelow, Followed}
use Rattle.expansion.proofs.TagLaws.{entry_same, tag_fits, key_distance}
use Rattle.expansion.specs.NodeQueue.{PushedNode}
use Rattle.expansion.proofs.Origins.{Origin, Lawful, one, one_lawful}
use Rattle.expansion.proofs.Search.{Search, AtMost, Leads, pop_exact, finished}
use Rattle.expansion.proofs.Steps.{AfterStep, waits, has_label, initial, same_settled, requeue, Marks, Along, Spreads, settle}
use Rattle.expansion.proofs.AreaLaws.{held_low, popped_moved, area_moved, settled_as, area_settle, label_settle, queue_settle, others_settle, area_followed}

-- the search of an area
abbrev pub Searched : Network → Origin → (ℕ → Type 0) → (ℕ → Type 0) → List ℕ → ℕ → ℕ → Type 0
Searched g s Open Seen xs b len = Search g s Open Seen (LabelAt (node_count g) xs b) (HeldAt (node_count g) xs b len)

-- the entries of an area, and one more
abbrev pub AndOne : ℕ → List ℕ → ℕ → ℕ → ℕ → ℕ → ℕ → ℕ → Type 0
AndOne n ys b left v l x m = HeldAt n ys b left x m ⊎ ((x ≡ v) × (m ≡ l))

module _ {n : ℕ} {xs ys : List ℕ} {b : ℕ} (same : Moved n xs ys b) where
  pub label_on : (v l : ℕ) → LabelAt n xs b v l → LabelAt n ys b v l
  label_on v l h = record { inside = h.inside; is = same.settled v h.inside (omega (arith, h.is)) ∙ h.is }

  pub label_back : (v l : ℕ) → LabelAt n ys b v l → LabelAt n xs b v l
  label_back v l h =
      elim (dec_le (get_or xs (b + v) 0) n) [
        | yes k ↦ absurd (omega (arith, same.others v h.inside k, h.is))
        | no k ↦ record { inside = h.inside; is = sym (same.settled v h.inside (omega arith)) ∙ h.is }
      ]

module _ {g : Network} (ok : Accepted g) where
  pub small : {v : ℕ} → v < node_count g → v < 65536
  small h = omega (arith, ok.few)

  pub held_same : {v u v' u' : ℕ} (l l' : ℕ) → v < node_count g → u < node_count g → v' < node_count g → u' < 65536
      → key_of l (tag_of v u) ≡ key_of l' (tag_of v' u') → (l ≡ l') × (v ≡ v') × (u ≡ u')
  held_same {v} {u} {v'} {u'} l l' h k h' k' e = entry_same l v u l' v' u' (small h) (small k) (small h') k' e

  pub key_node_of : (l v u : ℕ) → v < node_count g → u < node_count g → node_of (key_of l (tag_of v u)) ≡ v
  key_node_of l v u h k = omega (arith, ok.few)

-- a settled node's label, from its word
pub word_label : {n : ℕ} {xs : List ℕ} (b v : ℕ) → v < n → n < get_or xs (b + v) 0 → (l : ℕ) × LabelAt n xs b v l
word_label {n} {xs} b v h w = (get_or xs (b + v) 0 - n - 1, record { inside = h; is = omega arith })

module _ {g : Network} (ok : Accepted g) {s : Origin} {Open Seen : ℕ → Type 0} where
  -- the sources wait alone
  pub search_begins : {xs ys : List ℕ} {b len : ℕ} → Lawful g s → Blank xs b → Moved (node_count g) xs ys b
      → ((v : ℕ) → s.Source v → HeldAt (node_count g) ys b len v 0) → ((v l : ℕ) → HeldAt (node_count g) ys b len v l → s.Source v × (l ≡ 0))
      → Searched g s Open Seen ys b len
  search_begins {xs} {ys} {b} lawful blank m held only = initial lawful (λ v l x. none v l (label_back m v l x)) held only
    where
      none : (v l : ℕ) → LabelAt (node_count g) xs b v l → ⊥
      none v l x = omega (arith, x.is, blank.zero (b + v) (omega arith))

  module _ {xs : List ℕ} {b settled len : ℕ} (a : Area (node_count g) xs b settled len) (e : Searched g s Open Seen xs b len) where
    module _ {ys : List ℕ} {left l v p : ℕ} (t : Took (node_count g) xs ys b len left l v p) where
      -- the entry that left the queue was one of the area's
      pub took_held : HeldAt (node_count g) xs b len v l
      took_held =
          let y = a.entries (key_of l (tag_of v p)) t.popped.popped.was in
          let q = entry_same l v p y.label y.node y.parent (small ok t.inside) t.tagged (small ok y.inside) (small ok y.from) y.is in
          record { parent = p; inside = t.inside; from = rw q.2 y.from; holds = t.popped.popped.was }

      pub took_low : l ≤ 65535 * settled
      took_low =
          let y = a.entries (key_of l (tag_of v p)) t.popped.popped.was in
          let q = entry_same l v p y.label y.node y.parent (small ok t.inside) t.tagged (small ok y.inside) (small ok y.from) y.is in
          omega (arith, y.low, q.0)

      pub took_moved : Moved (node_count g) xs ys b
      took_moved = popped_moved a.queue t.popped

      holds_left : (k : ℕ) → Holds (queue_of (node_count g) ys b) (len - 1) k → Holds (queue_of (node_count g) ys b) left k
      holds_left k h = rw t.fewer h

      left_holds : (k : ℕ) → Holds (queue_of (node_count g) ys b) left k → Holds (queue_of (node_count g) xs b) len k
      left_holds k h = t.popped.popped.old k (rw t.fewer at h)

      pub took_area : Area (node_count g) ys b settled left
      took_area = area_moved a took_moved (rw t.fewer t.popped.queue) (λ k h. a.entries k (left_holds k h))

      key_node : node_of (key_of l (tag_of v p)) ≡ v
      key_node = omega (arith, small ok t.inside, t.tagged)

      pub took_word : get_or ys (b + v) 0 ≡ 0
      took_word = ap (λ (x : ℕ). get_or ys (b + x) 0) (sym key_node) ∙ t.popped.gone

      pub took_waited : get_or xs (b + v) 0 ≤ node_count g
      took_waited = omega (arith, held_low a.queue (key_of l (tag_of v p)) t.popped.popped.was, ap (λ (x : ℕ). get_or xs (b + x) 0) key_node)

      kept_walk : (x m : ℕ) → AndOne (node_count g) ys b left v l x m → s.From x m
      kept_walk x m (inl h) =
          e.held_walk x m (record { parent = h.parent; inside = h.inside; from = h.from; holds = left_holds (key_of m (tag_of x h.parent)) h.holds })
      kept_walk x m (inr q) = rw (q.0, q.1) (e.held_walk v l took_held)

      -- what waits then: the entries left, and this one
      pub search_took : Search g s Open Seen (LabelAt (node_count g) ys b) (AndOne (node_count g) ys b left v l)
      search_took = same_settled (label_on took_moved) (label_back took_moved) (requeue ok e becomes kept_walk)
        where
          becomes : (x m : ℕ) → HeldAt (node_count g) xs b len x m → AfterStep Open Seen (LabelAt (node_count g) xs b) (AndOne (node_count g) ys b left v l) x m
          becomes x m h =
              ⊎_elim
              (λ k. waits m (omega arith) (inl (record { parent = h.parent; inside = h.inside; from = h.from; holds = holds_left (key_of m (tag_of x h.parent)) k })))
              (λ k. let q = held_same ok m l h.inside h.from t.inside t.tagged k in waits m (omega arith) (inr (q.1, q.0)))
              (t.popped.popped.kept (key_of m (tag_of x h.parent)) h.holds)

      -- each entry that waits comes at or after the one that is taken, by label and then by node
      pub took_first : (x m : ℕ) → AndOne (node_count g) ys b left v l x m → (l < m) ⊎ ((l ≡ m) × (v ≤ x))
      took_first x m (inl h) =
          t.first x m (record { parent = h.parent; inside = h.inside; from = h.from; holds = left_holds (key_of m (tag_of x h.parent)) h.holds })
      took_first x m (inr q) = inr (sym q.1, omega (arith, q.0))

      pub took_least : (x m : ℕ) → AndOne (node_count g) ys b left v l x m → l ≤ m
      took_least x m h = ⊎_elim (λ a. omega arith) (λ a. omega arith) (took_first x m h)

      pub took_new : (m : ℕ) → LabelAt (node_count g) ys b v m → ⊥
      took_new m h = omega (arith, h.is, took_word)

      -- its label is the distance, where the search answers for it
      pub took_exact : Leads g s Open Seen → Seen v → l ≡ s.far v
      took_exact leads o = pop_exact ok leads search_took v l (inr (refl, refl)) took_least took_new o

    -- no entry waits: every node that the search answers for is settled at its distance
    pub search_finished : len ≡ 0 → Leads g s Open Seen → (v : ℕ) → Seen v → s.far v ≢ NONE → LabelAt (node_count g) xs b v (s.far v)
    search_finished z leads v o n = finished ok leads e (λ u x h. omega (arith, h.holds.inside)) v o n

-- one source waits alone
pub search_start : {g : Network} (ok : Accepted g) {s : ℕ} {Open Seen : ℕ → Type 0} {xs ys : List ℕ} {b : ℕ} → Blank xs b → s < node_count g → Moved (node_count g) xs ys b
    → PushedNode (node_count g) xs ys b (queue_base (node_count g) b) 0 (key_of 0 (tag_of s s)) → Searched g (one g s) Open Seen ys b 1
search_start {g} ok {s} {ys = ys} {b = b} blank h m t = search_begins ok (one_lawful ok s) blank m (λ v e. rw e own) only
  where
    own : HeldAt (node_count g) ys b 1 s 0
    own = record { parent = s; inside = h; from = h; holds = (t.holds (key_of 0 (tag_of s s))).1 (inr refl) }

    only : (v l : ℕ) → HeldAt (node_count g) ys b 1 v l → (v ≡ s) × (l ≡ 0)
    only v l x =
        let q = held_same ok l 0 x.inside x.from h (small ok h) (⊎_elim (λ y. absurd (omega (arith, y.inside))) (λ e. e) ((t.holds (key_of l (tag_of v x.parent))).0 x.holds)) in
        (q.1, q.0)

-- what waits at or below a key of node x waits at no greater label
pub below_held : {g : Network} (ok : Accepted g) {xs : List ℕ} {b settled len : ℕ} → Area (node_count g) xs b settled len → (x m u : ℕ) → x < node_count g → u < node_count g → AtOrBelow (queue_of (node_count g) xs b) len (key_of m (tag_of x u)) → AtMost (HeldAt (node_count g) xs b len x) m
below_held {g} ok {xs} {b} {settled} {len} a x m u h k w =
    let y = a.entries w.key w.holds in
    let n1 : node_of w.key ≡ y.node = ap node_of y.is ∙ key_node_of ok y.label y.node y.parent y.inside y.from in
    let n2 : node_of (key_of m (tag_of x u)) ≡ x = key_node_of ok m x u h k in
    let e : y.node ≡ x = sym n1 ∙ w.node ∙ n2 in
    let f : w.key ≡ key_of y.label (tag_of x y.parent) = y.is ∙ ap (λ (z : ℕ). key_of y.label (tag_of z y.parent)) e in
    record {
      label = y.label;
      low = key_distance y.label (tag_of x y.parent) m (tag_of x u) (tag_fits x u (small ok h) (small ok k)) (omega (arith, w.low, f));
      has = record { parent = y.parent; inside = h; from = y.from; holds = rw f at w.holds };
    }

-- A node is settled, and its arcs are followed. It left the queue with label l; ys is the area then, ws when its arcs are followed.
module _ {g : Network} (ok : Accepted g) {ys : List ℕ} {b settled left v : ℕ} (a : Area (node_count g) ys b settled left) (l : ℕ) (h : v < node_count g)
    (new : get_or ys (b + v) 0 ≡ 0) where
  -- the labels: those before, and that of v
  module _ {ws : List ℕ} (same : Moved (node_count g) (settled_as (node_count g) ys b settled v l) ws b) where
    here : LabelAt (node_count g) (settled_as (node_count g) ys b settled v l) b v l
    here = record { inside = h; is = label_settle a v l h new }

    pub settle_marks : Marks (LabelAt (node_count g) ys b) (LabelAt (node_count g) ws b) v l
    settle_marks =
        record {
          here = label_on same v l here;
          kept =
              λ x m y.
              elim (ℕ_discrete x v) [
                | yes q ↦ absurd (omega (arith, y.is, ap (λ (z : ℕ). get_or ys (b + z) 0) q))
                | no ne ↦ label_on same x m (record { inside = y.inside; is = others_settle a v l h new x y.inside ne ∙ y.is })
              ];
          old =
              λ x m y.
              let z = label_back same x m y in
              elim (ℕ_discrete x v) [
                | yes q ↦
                    inr (
                      q,
                      omega (arith, z.is, ap (λ (i : ℕ). get_or (settled_as (node_count g) ys b settled v l) (b + i) 0) q, label_settle a v l h new),
                    )
                | no ne ↦ inl (record { inside = y.inside; is = sym (others_settle a v l h new x y.inside ne) ∙ z.is })
              ];
        }

  module _ {s : Origin} {Open Seen : ℕ → Type 0} {ws : List ℕ} {more : ℕ}
      (e : Search g s Open Seen (LabelAt (node_count g) ys b) (AndOne (node_count g) ys b left v l)) (leads : Leads g s Open Seen)
      (least : (x m : ℕ) → AndOne (node_count g) ys b left v l x m → l ≤ m) (fits : l ≤ 65535 * settled)
      (f : Followed g (settled_as (node_count g) ys b settled v l) ws b left more v l (length (neighbours_of g v))) where
    pub area_after : Area (node_count g) ws b (settled + 1) more
    area_after = area_followed ok (area_settle a v l h new fits) v l h (label_settle a v l h new) f

    spreads : Spreads g (AndOne (node_count g) ys b left v l) (HeldAt (node_count g) ws b more) v l
    spreads = record { kept = kept; old = old }
      where
        kept : (x m : ℕ) → AndOne (node_count g) ys b left v l x m → AtMost (HeldAt (node_count g) ws b more x) m ⊎ (x ≡ v)
        kept x m (inl y) =
            inl (below_held ok area_after x m y.parent y.inside y.from (f.kept (key_of m (tag_of x y.parent)) (rw (queue_settle a v l h new) y.holds)))
        kept x m (inr q) = inr q.0

        along : {x m : ℕ} {Puts : ℕ → Type 0} (y : HeldAt (node_count g) ws b more x m)
            → PutAmong (arc_key g v l) Puts (length (neighbours_of g v)) (key_of m (tag_of x y.parent)) → Along g v l x m
        along {x} {m} y i =
            let r = arc_at (accepted_ranges ok) v h i.place i.low in
            let q = held_same ok m (l + get_or (weights_of g v) i.place 0) y.inside y.from (ok.leads_in r) (small ok h) i.is in
            record { weight = get_or (weights_of g v) i.place 0; arc = rw q.1 r; sum = q.0 }

        old : (x m : ℕ) → HeldAt (node_count g) ws b more x m → AndOne (node_count g) ys b left v l x m ⊎ Along g v l x m
        old x m y =
            ⊎_elim
            (λ k. inl (inl (record { parent = y.parent; inside = y.inside; from = y.from; holds = rw (queue_settle a v l h new) at k })))
            (λ i. inr (along y i))
            (f.old (key_of m (tag_of x y.parent)) y.holds)

    arcs : (x w : ℕ) → Open v → Arc g v x w → AfterStep Open Seen (LabelAt (node_count g) ws b) (HeldAt (node_count g) ws b more) x (l + w)
    arcs x w o r =
        let i = arc_place (accepted_ranges ok) r in
        let k = ok.leads_in r in
        elim (dec_le (get_or (settled_as (node_count g) ys b settled v l) (b + x) 0) (node_count g)) [
          | yes z ↦
              let y = f.there i.at i.low (rw i.leads z) in
              let c = below_held ok area_after x (l + w) v k h (rw (i.leads, i.weighs) at y) in
              waits c.label c.low c.has
          | no z ↦
              let d = word_label {n = node_count g} {xs = settled_as (node_count g) ys b settled v l} b x k (omega arith) in
              has_label d.0 (label_on f.frame x d.0 d.1)
        ]

    pub search_settle : Searched g s Open Seen ws b more
    search_settle =
        settle ok e v l (inr (refl, refl)) (settle_marks f.frame) leads least
        (λ m y. omega (arith, y.is))
        spreads arcs
