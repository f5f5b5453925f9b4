-- The law of a search from its sources s that settles nodes by rising labels. A node has a label once it is settled, and waits for one in a queue of
-- entries (node, label). The search follows the arcs of the nodes that are Open, and answers for those that are Seen: such a node lies
-- behind an open one on a shortest way from a source. Where the two are one, the nodes on the shortest ways to an open node are open.
-- Assumes nothing.
use Prim.Native.Nat.{ℕ, zero, suc, ◌+◌, ◌≤◌, ◌<◌}
use mathlib.Core.Path.{◌≡◌}
use mathlib.Core.Logic.{◌≢◌, ◌⊎◌, inl, inr, ⊎_elim}
use native.Mathlib.Omega.{arith}
use Rattle.network.specs.Network.{Network, Arc}
use Rattle.network.specs.Accepted.{Accepted}
use Rattle.network.specs.Distance.{NONE}
use Rattle.expansion.proofs.Origins.{Origin, Last, Lawful}

-- some label of at most m that has L; some entry of a label of at most m
pub record AtMost (L : ℕ → Type 0) (m : ℕ) : Type 0 where
  pub label : ℕ
  pub low : label ≤ m
  pub has : L label

pub record WaitsUpto (Held : ℕ → ℕ → Type 0) (m : ℕ) : Type 0 where
  pub node : ℕ
  pub label : ℕ
  pub low : label ≤ m
  pub held : Held node label

-- What a search from s has made of the nodes so far. `Settled v l`: v is settled at label l. `Held v l`: an entry of v at l waits in the queue. Every label,
-- settled or held, is the sum of a walk from a source. A seen node that is settled has its distance. A seen neighbour of an open node that is settled is
-- settled itself, or an entry of it waits, with no more than the label through that node. And each source is settled at 0, or waits there.
pub record Search (g : Network) (s : Origin) (Open Seen : ℕ → Type 0) (Settled : ℕ → ℕ → Type 0) (Held : ℕ → ℕ → Type 0) : Type 0 where
  pub lawful : Lawful g s
  pub settled_walk : (v l : ℕ) → Settled v l → s.From v l
  pub held_walk : (v l : ℕ) → Held v l → s.From v l
  pub exact : (v l : ℕ) → Settled v l → Seen v → l ≡ s.far v
  pub opened : (u v l w : ℕ) → Settled u l → Open u → Seen v → Arc g u v w → AtMost (Settled v) (l + w) ⊎ AtMost (Held v) (l + w)
  pub source : (v : ℕ) → s.Source v → Open v → Seen v → Settled v 0 ⊎ Held v 0

-- the search answers for the nodes whose arcs it follows, and no others
abbrev pub Explored : Network → Origin → (ℕ → Type 0) → (ℕ → ℕ → Type 0) → (ℕ → ℕ → Type 0) → Type 0
Explored g s Open Settled Held = Search g s Open Open Settled Held

-- a search that answers for some nodes answers for fewer
pub monotone : {g : Network} {s : Origin} {Open Open' Seen Seen' : ℕ → Type 0} {Settled : ℕ → ℕ → Type 0} {Held : ℕ → ℕ → Type 0} → ((v : ℕ) → Open' v → Open v) → ((v : ℕ) → Seen' v → Seen v) → Search g s Open Seen Settled Held → Search g s Open' Seen' Settled Held
monotone open' seen' e =
    record {
      lawful = e.lawful;
      settled_walk = e.settled_walk;
      held_walk = e.held_walk;
      exact = λ v l h o. e.exact v l h (seen' v o);
      opened = λ u v l w h o p r. e.opened u v l w h (open' u o) (seen' v p) r;
      source = λ v h o p. e.source v h (open' v o) (seen' v p);
    }

-- a shortest way to v on which the node before v is open and seen; every seen node that s reaches has one
pub record Through (g : Network) (s : Origin) (Open Seen : ℕ → Type 0) (v : ℕ) : Type 0 where
  pub last : Last g s v
  pub is_open : Open last.from
  pub is_seen : Seen last.from

pub record Leads (g : Network) (s : Origin) (Open Seen : ℕ → Type 0) : Type 0 where
  pub start : (v : ℕ) → s.Source v → Seen v → Open v
  pub through : (v : ℕ) → Seen v → (s.Source v → ⊥) → s.far v ≢ NONE → Through g s Open Seen v

-- the nodes before an open node are open
pub record ClosedBefore (g : Network) (s : Origin) (Open : ℕ → Type 0) : Type 0 where
  pub before : (u v w : ℕ) → Open v → Arc g u v w → s.far v ≡ s.far u + w → s.far u ≢ NONE → Open u

pub closed_leads : {g : Network} {s : Origin} {Open : ℕ → Type 0} → Lawful g s → ClosedBefore g s Open → Leads g s Open Open
closed_leads {g} {s} {Open} lawful closed = record { start = λ v h o. o; through = λ v o ne n. by v o (lawful.previous v ne n) }
  where
    by : (v : ℕ) → Open v → Last g s v → Through g s Open Open v
    by v o p =
        let h = closed.before p.from v p.weight o p.arc p.sum p.reach in
        record { last = p; is_open = h; is_seen = h }

-- v is settled at its distance, or an entry waits that is no farther
abbrev pub Reached : Network → Origin → (ℕ → ℕ → Type 0) → (ℕ → ℕ → Type 0) → ℕ → Type 0
Reached g s Settled Held v = Settled v (s.far v) ⊎ WaitsUpto Held (s.far v)

-- where v stands: it is settled at its distance; or an entry of it waits at its distance; or an entry waits that is nearer
pub data Whereabouts (g : Network) (s : Origin) (Settled : ℕ → ℕ → Type 0) (Held : ℕ → ℕ → Type 0) (v : ℕ) : Type 0 where
  is_settled : Settled v (s.far v) → Whereabouts g s Settled Held v
  is_held : Held v (s.far v) → Whereabouts g s Settled Held v
  is_behind : (x m : ℕ) → Held x m → m < s.far v → Whereabouts g s Settled Held v

module _ {g : Network} (ok : Accepted g) {s : Origin} {Open Seen : ℕ → Type 0} {Settled : ℕ → ℕ → Type 0} {Held : ℕ → ℕ → Type 0} (leads : Leads g s Open Seen) (e : Search g s Open Seen Settled Held) where
  at_source : (v : ℕ) → Seen v → s.Source v → Whereabouts g s Settled Held v
  at_source v o h =
      let z = e.lawful.zero v h in
      ⊎_elim (λ a. is_settled (rw z a)) (λ a. is_held (rw z a)) (e.source v h (leads.start v h o) o)

  -- where the node before v is settled, v is, or an entry of it waits; where an entry waits that is no farther than that node, it is nearer than v
  after : (v : ℕ) → Seen v → (t : Through g s Open Seen v) → Reached g s Settled Held t.last.from → Whereabouts g s Settled Held v
  after v o t =
      let p = t.last in
      let w = ok.weight_low p.arc in
      ⊎_elim
      (λ a.
      ⊎_elim
      (λ b. is_settled (rw (e.exact v b.label b.has o) at b.has))
      (λ b.
      let d : b.label ≡ s.far v = omega (arith, b.low, p.sum, (e.lawful.upto (e.held_walk v b.label b.has)).most) in
      is_held (rw d at b.has))
      (e.opened p.from v (s.far p.from) p.weight a t.is_open o p.arc))
      (λ a. is_behind a.node a.label a.held (omega (arith, a.low, p.sum)))

  reached : {v : ℕ} → Whereabouts g s Settled Held v → Reached g s Settled Held v
  reached (is_settled a) = inl a
  reached {v} (is_held a) = inr (record { node = v; label = s.far v; low = omega arith; held = a })
  reached (is_behind x m a h) = inr (record { node = x; label = m; low = omega arith; held = a })

  -- by the distance, which is below b
  below : (b v : ℕ) → s.far v < b → Seen v → s.far v ≢ NONE → Whereabouts g s Settled Held v
  below zero v h o n = absurd (omega arith)
  below (suc b) v h o n = elim (e.lawful.is_source v) [ yes q ↦ at_source v o q | no ne ↦ go (λ u. below b u) (leads.through v o ne n) ]
    where
      go : ((u : ℕ) → s.far u < b → Seen u → s.far u ≢ NONE → Whereabouts g s Settled Held u) → Through g s Open Seen v → Whereabouts g s Settled Held v
      go ih t =
          let p = t.last in
          let w = ok.weight_low p.arc in
          after v o t (reached (ih p.from (omega (arith, p.sum)) t.is_seen p.reach))

  -- where a node stands that s reaches; in short, it is settled, or an entry waits that is no farther
  pub stands : (v : ℕ) → Seen v → s.far v ≢ NONE → Whereabouts g s Settled Held v
  stands v o n = below (suc (s.far v)) v (omega arith) o n

  pub frontier : (v : ℕ) → Seen v → s.far v ≢ NONE → Reached g s Settled Held v
  frontier v o n = reached (stands v o n)

  -- the least entry of a node that is not settled has its distance
  pub pop_exact : (v l : ℕ) → Held v l → ((u x : ℕ) → Held u x → l ≤ x) → ((x : ℕ) → Settled v x → ⊥) → Seen v → l ≡ s.far v
  pop_exact v l h least new o =
      let d = e.lawful.upto (e.held_walk v l h) in
      ⊎_elim
      (λ a. absurd (new (s.far v) a))
      (λ a. omega (arith, d.most, a.low, least a.node a.label a.held))
      (frontier v o d.some)

  -- where no entry waits, each node that s reaches is settled
  pub finished : ((u x : ℕ) → Held u x → ⊥) → (v : ℕ) → Seen v → s.far v ≢ NONE → Settled v (s.far v)
  finished none v o n = ⊎_elim (λ a. a) (λ a. absurd (none a.node a.label a.held)) (frontier v o n)

  -- where each entry comes at or after (l, y), by label and then by node, each node that comes before (l, y) is settled
  pub settled_before : (l y : ℕ) → ((x m : ℕ) → Held x m → (l < m) ⊎ ((l ≡ m) × (y ≤ x))) → (v : ℕ) → Seen v → s.far v ≢ NONE → (s.far v < l) ⊎ ((s.far v ≡ l) × (v < y)) → Settled v (s.far v)
  settled_before l y first v o n before = by (stands v o n)
    where
      by : Whereabouts g s Settled Held v → Settled v (s.far v)
      by (is_settled a) = a
      by (is_held a) =
          absurd
          (⊎_elim
          (λ b. ⊎_elim (λ c. omega arith) (λ c. omega arith) before)
          (λ b. ⊎_elim (λ c. omega arith) (λ c. omega arith) before)
          (first v (s.far v) a))
      by (is_behind x m a h) =
          absurd
          (⊎_elim
          (λ b. ⊎_elim (λ c. omega arith) (λ c. omega arith) before)
          (λ b. ⊎_elim (λ c. omega arith) (λ c. omega arith) before)
          (first x m a))

  -- Where the nodes before an open node are open: the least entry of a node that is not settled and seen came along the arc of an open node. (Lazy drops
  -- an entry whose parent is beaten: its node is beaten too.)
  pub parent_open : ClosedBefore g s Seen → (v l u m w : ℕ) → Held v l → ((x y : ℕ) → Held x y → l ≤ y) → ((x : ℕ) → Settled v x → ⊥) → Seen v → s.From u m → Arc g u v w → l ≡ m + w → Seen u
  parent_open closed v l u m w h least new o k r q =
      let a : l ≡ s.far v = pop_exact v l h least new o in
      let d = e.lawful.upto k in
      let f = e.lawful.upto (e.lawful.along (e.lawful.attains u d.some) r) in
      closed.before u v w o r (omega (arith, d.most, f.most)) d.some
