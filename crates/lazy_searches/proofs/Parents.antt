-- The entries of a search by their parents: each is the source's own, or came along an arc of its parent. So the least entry of an unbeaten node came
-- from an unbeaten node: where the parent is beaten, the node is.
-- Assumes nothing.
use Prim.Native.Nat.{ℕ, suc, ◌+◌, ◌-◌, ◌*◌, ◌≤◌, ◌<◌}
use mathlib.Core.Path.{◌≡◌, refl, sym, ◌∙◌}
use mathlib.Core.Logic.{◌⊎◌, inl, inr, ⊎_elim}
use mathlib.Core.List.{List}
use native.Mathlib.Nat.{suc-mul}
use native.Mathlib.Omega.{arith}
use lib.ListN.{length, get_or}
use Rattle.network.specs.Network.{Network, Arc, node_count, neighbours_of, weights_of}
use Rattle.network.specs.Accepted.{Accepted}
use Rattle.network.specs.Walk.{Walk}
use Rattle.network.proofs.Ranges.{arc_at}
use Rattle.network.proofs.NumberZero.{accepted_ranges}
use Rattle.expansion.specs.Queue.{Holds, key_of}
use Rattle.expansion.specs.Tags.{tag_of}
use Rattle.expansion.specs.NodeQueue.{PushedNode}
use Rattle.expansion.specs.Area.{queue_base, queue_of, PutAmong, arc_key, Took, Followed}
use Rattle.expansion.proofs.Origins.{one}
use Rattle.expansion.proofs.Search.{ClosedBefore, Leads, parent_open}
use Rattle.expansion.proofs.TagLaws.{entry_same}
use Rattle.expansion.proofs.AreaLaws.{settled_as, queue_settle}
use Rattle.expansion.proofs.AreaSearch.{small, search_took, took_area, took_word, took_least, took_new}
use Rattle.expansion.proofs.Progress.{Progress, took_walk}
use Rattle.expansion.proofs.Beside.{Beside, queue_beside}

-- an entry of a node at a label went on from a parent
pub record Stepped (g : Network) (q node label parent : ℕ) : Type 0 where
  pub start : ℕ
  pub weight : ℕ
  pub walk : Walk g q parent start
  pub arc : Arc g parent node weight
  pub sum : label ≡ start + weight

pub record Came (g : Network) (q key : ℕ) : Type 0 where
  pub label : ℕ
  pub node : ℕ
  pub parent : ℕ
  pub is : key ≡ key_of label (tag_of node parent)
  pub inside : node < node_count g
  pub from : parent < node_count g
  pub way : ((node ≡ q) × (parent ≡ q)) ⊎ Stepped g q node label parent

stepped_same : {g : Network} {q node label parent v l u : ℕ} → Stepped g q node label parent → l ≡ label → v ≡ node → u ≡ parent → Stepped g q v l u
stepped_same s a b c = rw (a, b, c) s

holds_same : (Seen : ℕ → Type 0) {u v : ℕ} → u ≡ v → Seen v → Seen u
holds_same Seen e o = rw e o

-- so did every entry
abbrev pub AllCame : Network → ℕ → List ℕ → ℕ → ℕ → Type 0
AllCame g q xs b len = (k : ℕ) → Holds (queue_of (node_count g) xs b) len k → Came g q k

pub came_start : {g : Network} {q b : ℕ} {xs ys : List ℕ} → q < node_count g → PushedNode (node_count g) xs ys b (queue_base (node_count g) b) 0 (key_of 0 (tag_of q q)) → AllCame g q ys b 1
came_start {g} {q} h t k w =
    ⊎_elim
    (λ y. absurd (omega (arith, y.inside)))
    (λ e. record { label = 0; node = q; parent = q; is = e; inside = h; from = h; way = inl (refl, refl) })
    ((t.holds k).0 w)

pub came_beside : {g : Network} {q b len : ℕ} {xs ys : List ℕ} → Beside xs ys b → AllCame g q xs b len → AllCame g q ys b len
came_beside {g} same all k h = all k (rw (queue_beside same (node_count g)) at h)

module _ {g : Network} (ok : Accepted g) {q : ℕ} {Open Seen : ℕ → Type 0} {xs : List ℕ} {b settled len : ℕ} (p : Progress g (one g q) Open Seen xs b settled len)
    {ys : List ℕ} {left l v u : ℕ} (t : Took (node_count g) xs ys b len left l v u) where
  pub came_took : AllCame g q xs b len → AllCame g q ys b left
  came_took all k h = all k (t.popped.popped.old k (rw t.fewer at h))

  same : queue_of (node_count g) (settled_as (node_count g) ys b settled v l) b ≡ queue_of (node_count g) ys b
  same = queue_settle (took_area ok p.area p.searched t) v l t.inside (took_word ok p.area p.searched t)

  pub came_stopped : AllCame g q ys b left → AllCame g q (settled_as (node_count g) ys b settled v l) b left
  came_stopped all k h = all k (rw same at h)

  pub came_followed : {ws : List ℕ} {more : ℕ} → Followed g (settled_as (node_count g) ys b settled v l) ws b left more v l (length (neighbours_of g v))
      → AllCame g q ys b left → AllCame g q ws b more
  came_followed f all k h = ⊎_elim (λ w. all k (rw same at w)) (λ i. new k i) (f.old k h)
    where
      new : {Puts : ℕ → Type 0} (k : ℕ) → PutAmong (arc_key g v l) Puts (length (neighbours_of g v)) k → Came g q k
      new k i =
          let r = arc_at (accepted_ranges ok) v t.inside i.place i.low in
          record {
            label = l + get_or (weights_of g v) i.place 0;
            node = get_or (neighbours_of g v) i.place 0;
            parent = v;
            is = i.is;
            inside = ok.leads_in r;
            from = t.inside;
            way = inr (record { start = l; weight = get_or (weights_of g v) i.place 0; walk = took_walk ok p t; arc = r; sum = refl });
          }

  pub parent_low : AllCame g q xs b len → u < node_count g
  parent_low all =
      let c = all (key_of l (tag_of v u)) t.popped.popped.was in
      let e = entry_same l v u c.label c.node c.parent (small ok t.inside) t.tagged (small ok c.inside) (small ok c.from) c.is in
      omega (arith, e.2, c.from)

  -- where the parent is not seen, the node is not
  pub parent_seen : AllCame g q xs b len → Leads g (one g q) Open Seen → ClosedBefore g (one g q) Seen → (Seen u → ⊥) → Seen v → ⊥
  parent_seen all leads closed n o =
      let c = all (key_of l (tag_of v u)) t.popped.popped.was in
      let e = entry_same l v u c.label c.node c.parent (small ok t.inside) t.tagged (small ok c.inside) (small ok c.from) c.is in
      ⊎_elim
      (λ s. n (holds_same Seen (e.2 ∙ s.1 ∙ sym s.0 ∙ sym e.1) o))
      (λ y.
      let s = stepped_same {v = v} {l = l} {u = u} y e.0 e.1 e.2 in
      n
      (parent_open ok leads (search_took ok p.area p.searched t) closed v l u s.start s.weight (inr (refl, refl))
      (took_least ok p.area p.searched t) (took_new ok p.area p.searched t) o
      s.walk s.arc s.sum))
      c.way

-- ---- The measure of a search that may drop entries: a node that is settled outweighs all that wait.
abbrev pub search_work : ℕ → ℕ → ℕ → ℕ
search_work n settled len = (n - settled) * (n + 1) + len

mul_next : (d m : ℕ) → suc d * m ≡ d * m + m
mul_next d m = suc-mul d m

pub work_settled : (n settled len more : ℕ) → settled < n → more ≤ n → search_work n (settled + 1) more < search_work n settled len
work_settled n settled len more h l =
    let e : n - settled ≡ suc (n - (settled + 1)) = omega arith in
    rw e (omega (arith, mul_next (n - (settled + 1)) (n + 1)))
