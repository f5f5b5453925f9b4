-- Laws of clearing an area: the queue first, then the settled nodes one by one.
-- Assumes nothing.
use Prim.Native.Nat.{ℕ, zero, suc, ◌+◌, ◌-◌, ◌≤◌, ◌<◌}
use mathlib.Core.Path.{◌≡◌, refl, sym, ap, ◌∙◌}
use mathlib.Core.Logic.{◌≢◌, ◌⊎◌, inl, inr, ⊎_elim}
use mathlib.Core.List.{List}
use native.Mathlib.Decide.{ℕ_discrete, dec_lt}
use native.Mathlib.Omega.{arith}
use lib.ListN.{length, get_or, set, length-set}
use lib.Seq.{get_or-set_same, get_or-set_other}
use Rattle.expansion.specs.Area.{queue_base, Wiped, Area}
use Rattle.expansion.specs.NodeQueue.{ClearedNodes}

-- node v is settled, and its place is i or behind
pub record Yet (n : ℕ) (xs : List ℕ) (b settled i v : ℕ) : Type 0 where
  pub place : ℕ
  pub from : i ≤ place
  pub low : place < settled
  pub is : get_or xs (b + n + place) 0 ≡ v

-- the first i settled nodes are cleared, and so is the queue
pub record Clearing (n : ℕ) (xs ys : List ℕ) (b settled i : ℕ) : Type 0 where
  pub size : length ys ≡ length xs
  pub before : (j : ℕ) → j < b → get_or ys j 0 ≡ get_or xs j 0
  pub places : (j : ℕ) → i ≤ j → j < n → get_or ys (b + n + j) 0 ≡ get_or xs (b + n + j) 0
  pub gone : (j : ℕ) → j < i → get_or ys (b + n + j) 0 ≡ 0
  pub seats : (v : ℕ) → v < n → (get_or ys (b + v) 0 ≡ 0) ⊎ Yet n xs b settled i v
  pub queue : (j : ℕ) → queue_base n b ≤ j → get_or ys j 0 ≡ 0

pub clearing_none : {n : ℕ} {xs ys : List ℕ} {b settled len : ℕ} → Area n xs b settled len → ClearedNodes n xs ys b (queue_base n b) → Clearing n xs ys b settled 0
clearing_none {n} {xs} {ys} {b} {settled} a c =
    record {
      size = c.size;
      before = c.before;
      places = λ j h l. c.between (b + n + j) (omega arith) (omega arith);
      gone = λ j h. absurd (omega arith);
      seats = λ v h. by v h (get_or xs (b + v) 0) refl;
      queue = c.zero;
    }
  where
    by : (v : ℕ) → v < n → (w : ℕ) → get_or xs (b + v) 0 ≡ w → (get_or ys (b + v) 0 ≡ 0) ⊎ Yet n xs b settled 0 v
    by v h zero e = inl (c.free v h (inl e) ∙ e)
    by v h (suc i) e =
        elim (dec_lt i n) [
          | yes l ↦ inl (c.waited v i h e l)
          | no l ↦ let s = a.labelled v h (omega arith) in inr (record { place = s.place; from = omega arith; low = s.low; is = s.is })
        ]

module _ {n : ℕ} {xs ys : List ℕ} {b settled len i : ℕ} (a : Area n xs b settled len) (c : Clearing n xs ys b settled i) (h : i < settled) where
  few : settled ≤ n
  few = omega (arith, a.counted)

  pub clearing_node : get_or ys (b + n + i) 0 < n
  clearing_node = rw (c.places i (omega arith) (omega (arith, few))) (a.nodes i h)

  node : ℕ
  node = get_or ys (b + n + i) 0

  zs : List ℕ
  zs = set (set ys (b + n + i) 0) (b + node) 0

  room : queue_base n b ≤ length ys
  room = omega (arith, a.queue.room, c.size)

  at_node : get_or zs (b + node) 0 ≡ 0
  unfolding zs node
  at_node = get_or-set_same (set ys (b + n + i) 0) (b + get_or ys (b + n + i) 0) 0 0 (simp length-set (omega (arith, room, clearing_node)))

  at_place : get_or zs (b + n + i) 0 ≡ 0
  unfolding zs node
  at_place =
      get_or-set_other (set ys (b + n + i) 0) (b + get_or ys (b + n + i) 0) (b + n + i) 0 0 (omega (arith, clearing_node))
      ∙ get_or-set_same ys (b + n + i) 0 0 (omega (arith, room, few))

  other : (j : ℕ) → j ≢ b + node → j ≢ b + n + i → get_or zs j 0 ≡ get_or ys j 0
  unfolding zs
  other j p q = get_or-set_other (set ys (b + n + i) 0) (b + node) j 0 0 p ∙ get_or-set_other ys (b + n + i) j 0 0 q

  inside : node < n
  unfolding node
  inside = clearing_node

  is_node : node ≡ get_or xs (b + n + i) 0
  unfolding node
  is_node = c.places i (omega arith) (omega (arith, few))

  size : length zs ≡ length ys
  unfolding zs
  size = simp length-set

  yet_next : (v : ℕ) → v ≢ node → Yet n xs b settled i v → Yet n xs b settled (i + 1) v
  yet_next v m y =
      elim (ℕ_discrete y.place i) [
        | yes e ↦ absurd (m (sym y.is ∙ ap (λ (x : ℕ). get_or xs (b + n + x) 0) e ∙ sym is_node))
        | no o ↦ record { place = y.place; from = omega (arith, y.from); low = y.low; is = y.is }
      ]

  more : Clearing n xs zs b settled (i + 1)
  more =
      record {
        size = size ∙ c.size;
        before = λ j l. other j (omega arith) (omega arith) ∙ c.before j l;
        places = λ j l m. other (b + n + j) (omega (arith, inside)) (omega arith) ∙ c.places j (omega arith) m;
        gone =
            λ j l.
            elim (ℕ_discrete j i) [
              | yes e ↦ ap (λ (x : ℕ). get_or zs (b + n + x) 0) e ∙ at_place
              | no m ↦ other (b + n + j) (omega (arith, inside)) (omega arith) ∙ c.gone j (omega arith)
            ];
        seats =
            λ v l.
            elim (ℕ_discrete v node) [
              | yes e ↦ inl (ap (λ (x : ℕ). get_or zs (b + x) 0) e ∙ at_node)
              | no m ↦
                  ⊎_elim
                  (λ z. inl (other (b + v) (omega arith) (omega arith) ∙ z))
                  (λ y. inr (yet_next v m y))
                  (c.seats v l)
            ];
        queue = λ j l. other j (omega (arith, inside)) (omega (arith, few)) ∙ c.queue j l;
      }

  pub clearing_more : Clearing n xs (set (set ys (b + n + i) 0) (b + get_or ys (b + n + i) 0) 0) b settled (i + 1)
  unfolding zs node
  clearing_more = more

pub clearing_done : {n : ℕ} {xs ys : List ℕ} {b settled len i : ℕ} → Area n xs b settled len → Clearing n xs ys b settled i → settled ≤ i → i ≤ settled → Wiped xs ys b
clearing_done {n} {xs} {ys} {b} {settled} {len} {i} a c h k =
    record { frame = record { size = c.size; words = c.before }; blank = record { zero = zero' } }
  where
    seat : (v : ℕ) → v < n → get_or ys (b + v) 0 ≡ 0
    seat v l = ⊎_elim (λ z. z) (λ y. absurd (omega (arith, y.from, y.low))) (c.seats v l)

    place : (j : ℕ) → j < n → get_or ys (b + n + j) 0 ≡ 0
    place j l = elim (dec_lt j i) [ yes m ↦ c.gone j m | no m ↦ c.places j (omega arith) l ∙ a.rest j (omega arith) l ]

    zero' : (j : ℕ) → b ≤ j → get_or ys j 0 ≡ 0
    zero' j l =
        elim (dec_lt j (b + n)) [
          | yes m ↦ let e : b + (j - b) ≡ j = omega arith in ap (λ (x : ℕ). get_or ys x 0) (sym e) ∙ seat (j - b) (omega arith)
          | no m ↦
              elim (dec_lt j (queue_base n b)) [
                | yes o ↦ let e : b + n + (j - (b + n)) ≡ j = omega arith in ap (λ (x : ℕ). get_or ys x 0) (sym e) ∙ place (j - (b + n)) (omega arith)
                | no o ↦ c.queue j (omega arith)
              ]
        ]
