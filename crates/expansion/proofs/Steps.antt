-- The steps of a search: an entry leaves the queue and is dropped, or its node is settled and what goes on from it along its arcs is put in.
-- The relations before and after a step are any that a representation gives.
-- Assumes nothing.
use Prim.Native.Nat.{ℕ, ◌+◌, ◌≤◌}
use mathlib.Core.Path.{◌≡◌}
use mathlib.Core.Logic.{◌⊎◌, inl, inr, ⊎_elim}
use native.Mathlib.Omega.{arith}
use Rattle.network.specs.Network.{Network, Arc}
use Rattle.network.specs.Accepted.{Accepted}
use Rattle.expansion.proofs.Origins.{Origin, Lawful}
use Rattle.expansion.proofs.Search.{Search, AtMost, Leads, pop_exact}

-- What becomes of an entry (x, m): it waits on, or one with no greater label does; or x is settled; or the search does not answer for x.
pub data AfterStep (Open Seen : ℕ → Type 0) (Settled : ℕ → ℕ → Type 0) (Held : ℕ → ℕ → Type 0) (x m : ℕ) : Type 0 where
  waits : (y : ℕ) → y ≤ m → Held x y → AfterStep Open Seen Settled Held x m
  has_label : (l : ℕ) → Settled x l → AfterStep Open Seen Settled Held x m
  not_seen : (Seen x → ⊥) → AfterStep Open Seen Settled Held x m

-- The search begins: the sources wait alone.
pub initial : {g : Network} {s : Origin} {Open Seen : ℕ → Type 0} {Settled : ℕ → ℕ → Type 0} {Held : ℕ → ℕ → Type 0} → Lawful g s → ((v l : ℕ) → Settled v l → ⊥) → ((v : ℕ) → s.Source v → Held v 0) → ((v l : ℕ) → Held v l → s.Source v × (l ≡ 0)) → Search g s Open Seen Settled Held
initial lawful none h only =
    record {
      lawful = lawful;
      settled_walk = λ v l a. absurd (none v l a);
      held_walk = λ v l a. let r = only v l a in rw r.1 (lawful.begins v r.0);
      exact = λ v l a o. absurd (none v l a);
      opened = λ u v l w a o p r. absurd (none u l a);
      source = λ v a o p. inr (h v a);
    }

-- The representation alone changes: the same nodes are settled at the same labels.
pub same_settled : {g : Network} {s : Origin} {Open Seen : ℕ → Type 0} {Settled Settled' : ℕ → ℕ → Type 0} {Held : ℕ → ℕ → Type 0} → ((v l : ℕ) → Settled v l → Settled' v l) → ((v l : ℕ) → Settled' v l → Settled v l) → Search g s Open Seen Settled Held → Search g s Open Seen Settled' Held
same_settled kept old e =
    record {
      lawful = e.lawful;
      settled_walk = λ v l a. e.settled_walk v l (old v l a);
      held_walk = e.held_walk;
      exact = λ v l a o. e.exact v l (old v l a) o;
      opened =
          λ u v l w a o p r.
          ⊎_elim
          (λ b. inl (record { label = b.label; low = b.low; has = kept v b.label b.has }))
          (λ b. inr b)
          (e.opened u v l w (old u l a) o p r);
      source = λ v h o p. ⊎_elim (λ a. inl (kept v 0 a)) (λ a. inr a) (e.source v h o p);
    }

-- An entry that is there no more is not missed: a node that is settled at its distance is reached by any walk at no less.
module _ {g : Network} {s : Origin} (lawful : Lawful g s) {Open Seen : ℕ → Type 0} {Settled : ℕ → ℕ → Type 0} {Held : ℕ → ℕ → Type 0} where
  reached : {x m j : ℕ} → ((l : ℕ) → Settled x l → Seen x → l ≡ s.far x) → Seen x → s.From x j → m ≤ j → AfterStep Open Seen Settled Held x m → AtMost (Settled x) j ⊎ AtMost (Held x) j
  reached exact p k h (waits y le a) = inr (record { label = y; low = omega arith; has = a })
  reached exact p k h (has_label l a) = inl (record { label = l; low = omega (arith, exact l a p, (lawful.upto k).most); has = a })
  reached exact p k h (not_seen n) = absurd (n p)

  begun : (v : ℕ) → s.Source v → ((l : ℕ) → Settled v l → Seen v → l ≡ s.far v) → Seen v → AfterStep Open Seen Settled Held v 0 → Settled v 0 ⊎ Held v 0
  begun v h exact p (waits y le a) = let e : y ≡ 0 = omega arith in inr (rw e at a)
  begun v h exact p (has_label l a) = inl (rw (exact l a p, lawful.zero v h) at a)
  begun v h exact p (not_seen n) = absurd (n p)

-- the queue alone changes
module _ {g : Network} (ok : Accepted g) {s : Origin} {Open Seen : ℕ → Type 0} {Settled : ℕ → ℕ → Type 0} {Held Held' : ℕ → ℕ → Type 0} (e : Search g s Open Seen Settled Held) where
  pub requeue : ((x m : ℕ) → Held x m → AfterStep Open Seen Settled Held' x m) → ((x m : ℕ) → Held' x m → s.From x m) → Search g s Open Seen Settled Held'
  requeue becomes walk =
      record {
        lawful = e.lawful;
        settled_walk = e.settled_walk;
        held_walk = walk;
        exact = e.exact;
        opened =
            λ u x l w h o p r.
            ⊎_elim
            (λ a. inl a)
            (λ a. reached e.lawful (e.exact x) p (e.lawful.along (e.settled_walk u l h) r) a.low (becomes x a.label a.has))
            (e.opened u x l w h o p r);
        source = λ v h o p. ⊎_elim (λ a. inl a) (λ a. begun e.lawful v h (e.exact v) p (becomes v 0 a)) (e.source v h o p);
      }

-- entries of v alone leave the queue
pub record Removes (Held Held' : ℕ → ℕ → Type 0) (v : ℕ) : Type 0 where
  pub kept : (x m : ℕ) → Held x m → AtMost (Held' x) m ⊎ (x ≡ v)
  pub old : (x m : ℕ) → Held' x m → Held x m

-- v is settled, at l
pub record Marks (Settled Settled' : ℕ → ℕ → Type 0) (v l : ℕ) : Type 0 where
  pub here : Settled' v l
  pub kept : (x m : ℕ) → Settled x m → Settled' x m
  pub old : (x m : ℕ) → Settled' x m → Settled x m ⊎ ((x ≡ v) × (m ≡ l))

-- an entry (x, m) that goes on from v, at l, along an arc
pub record Along (g : Network) (v l x m : ℕ) : Type 0 where
  pub weight : ℕ
  pub arc : Arc g v x weight
  pub sum : m ≡ l + weight

-- entries of v alone leave the queue, and such as go on from v come in
pub record Spreads (g : Network) (Held Held' : ℕ → ℕ → Type 0) (v l : ℕ) : Type 0 where
  pub kept : (x m : ℕ) → Held x m → AtMost (Held' x) m ⊎ (x ≡ v)
  pub old : (x m : ℕ) → Held' x m → Held x m ⊎ Along g v l x m

module _ {g : Network} (ok : Accepted g) {s : Origin} {Open Seen : ℕ → Type 0} {Settled Settled' : ℕ → ℕ → Type 0} {Held Held' : ℕ → ℕ → Type 0} (e : Search g s Open Seen Settled Held) (v l : ℕ) (walk : s.From v l) (marks : Marks Settled Settled' v l) (spreads : Spreads g Held Held' v l) where
  walks : (x m : ℕ) → Settled' x m → s.From x m
  walks x m h = ⊎_elim (λ a. e.settled_walk x m a) (λ q. rw (q.0, q.1) walk) (marks.old x m h)

  held_walks : (x m : ℕ) → Held' x m → s.From x m
  held_walks x m h =
      ⊎_elim (λ a. e.held_walk x m a) (λ a. rw a.sum (e.lawful.along walk a.arc)) (spreads.old x m h)

  becomes : (x m : ℕ) → Held x m → AfterStep Open Seen Settled' Held' x m
  becomes x m a = ⊎_elim (λ b. waits b.label b.low b.has) (λ q. has_label l (rw q marks.here)) (spreads.kept x m a)

  -- where l is the distance of v, if the search answers for it, and what goes on from v is in the queue, if v is open
  settle_by : (Seen v → l ≡ s.far v) → ((x w : ℕ) → Open v → Arc g v x w → AfterStep Open Seen Settled' Held' x (l + w)) → Search g s Open Seen Settled' Held'
  settle_by right arcs = record { lawful = e.lawful; settled_walk = walks; held_walk = held_walks; exact = exact; opened = opened; source = source }
    where
      exact : (x m : ℕ) → Settled' x m → Seen x → m ≡ s.far x
      exact x m h p = ⊎_elim (λ a. e.exact x m a p) (λ q. rw (q.0, q.1) (right (rw q.0 at p))) (marks.old x m h)

      opened : (u x j w : ℕ) → Settled' u j → Open u → Seen x → Arc g u x w → AtMost (Settled' x) (j + w) ⊎ AtMost (Held' x) (j + w)
      opened u x j w h o p r =
          let k = e.lawful.along (walks u j h) r in
          ⊎_elim
          (λ a.
          ⊎_elim
          (λ b. inl (record { label = b.label; low = b.low; has = marks.kept x b.label b.has }))
          (λ b. reached e.lawful (exact x) p k b.low (becomes x b.label b.has))
          (e.opened u x j w a o p r))
          (λ q.
          let b : AfterStep Open Seen Settled' Held' x (j + w) = rw q.1 (arcs x w (rw q.0 at o) (rw q.0 at r)) in
          reached e.lawful (exact x) p k (omega arith) b)
          (marks.old u j h)

      source : (x : ℕ) → s.Source x → Open x → Seen x → Settled' x 0 ⊎ Held' x 0
      source x h o p = ⊎_elim (λ a. inl (marks.kept x 0 a)) (λ a. begun e.lawful x h (exact x) p (becomes x 0 a)) (e.source x h o p)

-- an entry of v leaves the queue, with any others of v, and v is settled
module _ {g : Network} (ok : Accepted g) {s : Origin} {Open Seen : ℕ → Type 0} {Settled Settled' : ℕ → ℕ → Type 0} {Held Held' : ℕ → ℕ → Type 0} (e : Search g s Open Seen Settled Held) (v l : ℕ) (h : Held v l) (marks : Marks Settled Settled' v l) where
  removes_spreads : Removes Held Held' v → Spreads g Held Held' v l
  removes_spreads gone = record { kept = gone.kept; old = λ x m a. inl (gone.old x m a) }

  -- the entry is a least one, and v was not settled
  module _ (leads : Leads g s Open Seen) (least : (x m : ℕ) → Held x m → l ≤ m) (new : (m : ℕ) → Settled v m → ⊥) where
    pub settle_not_open : (Open v → ⊥) → Removes Held Held' v → Search g s Open Seen Settled' Held'
    settle_not_open n gone =
        settle_by ok e v l (e.held_walk v l h) marks (removes_spreads gone) (pop_exact ok leads e v l h least new) (λ x w o r. absurd (n o))

    -- what goes on from v is put in
    pub settle : Spreads g Held Held' v l → ((x w : ℕ) → Open v → Arc g v x w → AfterStep Open Seen Settled' Held' x (l + w)) → Search g s Open Seen Settled' Held'
    settle spreads arcs = settle_by ok e v l (e.held_walk v l h) marks spreads (pop_exact ok leads e v l h least new) arcs
