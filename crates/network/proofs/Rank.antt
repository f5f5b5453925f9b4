-- The lockers nearer to node i than e, in order by distance and then by node: a node is Near i where fewer than k of them come before its own.
-- Assumes nothing.
use Prim.Native.Nat.{ℕ, suc, ◌+◌, ◌-◌, ◌≤◌, ◌<◌}
use mathlib.Core.Path.{◌≡◌, refl, sym, ap, ◌∙◌}
use mathlib.Core.Bool.{Bool, true, false, ◌&&◌}
use mathlib.Core.Logic.{◌≢◌, ◌↔◌, ◌⊎◌, inl, inr, ⊎_elim}
use mathlib.Core.List.{List}
use native.Mathlib.Decide.{dec_lt}
use native.Mathlib.Omega.{arith}
use lib.Dec.{ltb}
use lib.ListN.{length, get_or, get_or-eq_default}
use borrow.Author.Tests.{eq-eqb, ne_eqb, lt-ltb, le-ltb, ltb-true}
use Rattle.network.specs.Network.{Network, node_count}
use Rattle.network.specs.Accepted.{Accepted}
use Rattle.network.specs.Distance.{NONE, dist}
use Rattle.network.specs.Count.{bit, weighed, sum_over}
use Rattle.network.specs.Points.{lockers, marked, is_nearer, count_nearer, others_at, others_nearer}
use Rattle.network.specs.Nearest.{key}
use Rattle.network.specs.Order.{is_before, before, Nearer}
use Rattle.network.proofs.Tests.{alike, and_parts, and_intro}
use Rattle.network.proofs.Totals.{sum_le, sum_mono, total_at, total_same, weighed_none}

-- a number that is marked is a node
pub marked_inside : (P : List ℕ) (p : ℕ) → marked P p ≡ true → p < length P
marked_inside P p e =
    elim (dec_lt p (length P)) [
      | yes l ↦ l
      | no n ↦ absurd (omega (arith, ltb-true 0 (get_or P p 0) e, get_or-eq_default P 0 {n = p} (omega arith)))
    ]

-- whether a locker is there need not be asked where lockers are counted
pub weighed_there : (P : List ℕ) (p : ℕ) (b : Bool) → weighed b (lockers P p) ≡ weighed (marked P p && b) (lockers P p)
weighed_there P p b =
    elim (dec_lt 0 (lockers P p)) [
      | yes l ↦ rw (lt-ltb 0 (lockers P p) l)
      | no n ↦ let z : lockers P p ≡ 0 = omega arith in rw z (weighed_none b 0 (λ e. refl))
    ]

-- one of the first k of the points nearer to i than e; one with a key less than k
pub record Near (g : Network) (P : List ℕ) (i e k p : ℕ) : Type 0 where
  pub nearer : Nearer g P i e p
  pub few : before g P i e (key (p, dist g i p)) < k

pub record Before (g : Network) (P : List ℕ) (i e k p : ℕ) : Type 0 where
  pub nearer : Nearer g P i e p
  pub first : key (p, dist g i p) < k

-- the order by keys is the order by distance and then by node
pub key_order : (p d q e : ℕ) → p < 4294967296 → q < 4294967296 → (key (p, d) < key (q, e)) ↔ ((d < e) ⊎ ((d ≡ e) × (p < q)))
key_order p d q e h l = (
  λ k. elim (dec_lt d e) [ yes a ↦ inl a | no b ↦ inr (omega arith, omega arith) ],
  λ s. ⊎_elim (λ a. omega arith) (λ b. omega arith) s,
)

-- as code tests it: nodes where the distances are equal, else distances
pub key_by_node : (p d q e : ℕ) → d ≡ e → ltb p q ≡ ltb (key (p, d)) (key (q, e))
key_by_node p d q e h =
    elim (dec_lt p q) [
      | yes l ↦ lt-ltb p q l ∙ sym (lt-ltb (key (p, d)) (key (q, e)) (omega arith))
      | no l ↦ le-ltb p q (omega arith) ∙ sym (le-ltb (key (p, d)) (key (q, e)) (omega arith))
    ]

pub key_by_distance : (p d q e : ℕ) → p < 4294967296 → q < 4294967296 → d ≢ e → ltb d e ≡ ltb (key (p, d)) (key (q, e))
key_by_distance p d q e u v h =
    elim (dec_lt d e) [
      | yes l ↦ lt-ltb d e l ∙ sym (lt-ltb (key (p, d)) (key (q, e)) (omega arith))
      | no l ↦ le-ltb d e (omega arith) ∙ sym (le-ltb (key (p, d)) (key (q, e)) (omega arith))
    ]

-- two nodes never have one key
pub key_other : (x y : ℕ × ℕ) → x.0 < 4294967296 → y.0 < 4294967296 → x.0 ≢ y.0 → key x ≢ key y
key_other x y h l n e =
    elim (dec_lt x.1 y.1) [
      | yes a ↦ omega arith
      | no b ↦ elim (dec_lt y.1 x.1) [ yes a ↦ omega arith | no c ↦ n (omega arith) ]
    ]

-- the tests as facts
module _ {g : Network} {P : List ℕ} {i e p : ℕ} where
  pub nearer_passes : Nearer g P i e p → is_nearer g P i e p ≡ true
  unfolding is_nearer
  nearer_passes r = and_intro (marked P p) _ r.point (lt-ltb (dist g i p) e r.less)

  pub passes_nearer : p < node_count g → is_nearer g P i e p ≡ true → Nearer g P i e p
  unfolding is_nearer
  passes_nearer h a =
      let r = and_parts (marked P p) _ a in
      record { inside = h; point = r.0; less = ltb-true (dist g i p) e r.1 }

  pub before_passes : (k : ℕ) → Nearer g P i e p → key (p, dist g i p) < k → is_before g P i e k p ≡ true
  unfolding is_before
  before_passes k r h = and_intro (is_nearer g P i e p) _ (nearer_passes r) (lt-ltb (key (p, dist g i p)) k h)

  pub passes_before : (k : ℕ) → p < node_count g → is_before g P i e k p ≡ true → Before g P i e k p
  unfolding is_before
  passes_before k h a =
      let r = and_parts (is_nearer g P i e p) _ a in
      record { nearer = passes_nearer h r.0; first = ltb-true (key (p, dist g i p)) k r.1 }

pub before_is : (g : Network) (P : List ℕ) (i e k : ℕ) → before g P i e k ≡ sum_over (is_before g P i e k) (lockers P) (node_count g)
unfolding before
before_is g P i e k = refl

-- where what comes before k comes before l too, no fewer come before l; of other marks, where there are no fewer at each node
pub before_more : (g : Network) (P P' : List ℕ) (i j e f k l : ℕ) → ((x : ℕ) → Before g P i e k x → Before g P' j f l x × (lockers P x ≤ lockers P' x))
    → before g P i e k ≤ before g P' j f l
unfolding before
before_more g P P' i j e f k l h =
    sum_le (is_before g P i e k) (is_before g P' j f l) (lockers P) (lockers P') (node_count g)
    (λ x m a. let b = h x (passes_before k m a) in (before_passes l b.0.nearer b.0.first, b.1))

pub before_mono : (g : Network) (P : List ℕ) (i j e f k l : ℕ) → ((x : ℕ) → Before g P i e k x → Before g P j f l x) → before g P i e k ≤ before g P j f l
before_mono g P i j e f k l h = before_more g P P i j e f k l (λ x b. (h x b, omega arith))

pub before_up : (g : Network) (P : List ℕ) (i e k l : ℕ) → k ≤ l → before g P i e k ≤ before g P i e l
before_up g P i e k l h = before_mono g P i i e e k l (λ x b. record { nearer = b.nearer; first = omega (arith, b.first) })

pub before_most : (g : Network) (P : List ℕ) (i e k : ℕ) → before g P i e k ≤ count_nearer g P i e
unfolding before count_nearer
before_most g P i e k =
    sum_mono (is_before g P i e k) (is_nearer g P i e) (lockers P) (node_count g) (λ x m a. nearer_passes (passes_before k m a).nearer)

-- where all that is nearer comes before k
pub count_before : (g : Network) (P : List ℕ) (i e k : ℕ) → ((x : ℕ) → Nearer g P i e x → key (x, dist g i x) < k) → count_nearer g P i e ≤ before g P i e k
unfolding before count_nearer
count_before g P i e k h =
    sum_mono (is_nearer g P i e) (is_before g P i e k) (lockers P) (node_count g)
    (λ x m a. let r = passes_nearer {g = g} {P = P} {i = i} {e = e} {p = x} m a in before_passes k r (h x r))

-- where what is nearer to i is nearer to j, no fewer are nearer to j
pub count_nearer_mono : (g : Network) (P : List ℕ) (i j e f : ℕ) → ((x : ℕ) → Nearer g P i e x → Nearer g P j f x) → count_nearer g P i e ≤ count_nearer g P j f
unfolding count_nearer
count_nearer_mono g P i j e f h =
    sum_mono (is_nearer g P i e) (is_nearer g P j f) (lockers P) (node_count g) (λ x m a. nearer_passes (h x (passes_nearer m a)))

-- farther out no fewer are nearer
pub nearer_farther : (g : Network) (P : List ℕ) (m d e : ℕ) → d ≤ e → count_nearer g P m d ≤ count_nearer g P m e
nearer_farther g P m d e h =
    count_nearer_mono g P m m d e (λ x r. record { inside = r.inside; point = r.point; less = omega (arith, r.less) })

-- what is nearer than e comes before the key of e and node 0
pub before_distance : {g : Network} → Accepted g → (P : List ℕ) (i e : ℕ) → e ≤ NONE → before g P i NONE (key (0, e)) ≡ count_nearer g P i e
unfolding before count_nearer
before_distance {g} ok P i e most =
    total_same _ _ (node_count g)
    (λ x l. ap (λ b. weighed b (lockers P x)) (alike (is_before g P i NONE (key (0, e)) x) (is_nearer g P i e x) (nearer x l) (ahead x l)))
  where
    nearer : (x : ℕ) → x < node_count g → is_before g P i NONE (key (0, e)) x ≡ true → is_nearer g P i e x ≡ true
    nearer x l a =
        let b = passes_before {g = g} {P = P} {i = i} {e = NONE} {p = x} (key (0, e)) l a in
        nearer_passes {g = g} {P = P} {i = i} {e = e} {p = x} (record { inside = l; point = b.nearer.point; less = omega (arith, b.first) })

    ahead : (x : ℕ) → x < node_count g → is_nearer g P i e x ≡ true → is_before g P i NONE (key (0, e)) x ≡ true
    ahead x l a =
        let r = passes_nearer {g = g} {P = P} {i = i} {e = e} {p = x} l a in
        before_passes {g = g} {P = P} {i = i} {e = NONE} {p = x} (key (0, e))
        (record { inside = l; point = r.point; less = omega (arith, r.less) }) (omega (arith, r.less, ok.few))

-- the lockers of p come behind what is before its key
pub before_step : {g : Network} → Accepted g → (P : List ℕ) (i e p : ℕ) → Nearer g P i e p
    → before g P i e (suc (key (p, dist g i p))) ≡ before g P i e (key (p, dist g i p)) + lockers P p
unfolding before
before_step {g} ok P i e p r =
    let k = key (p, dist g i p) in
    let q =
    total_at (λ x. weighed (is_before g P i e k x) (lockers P x)) (λ x. weighed (is_before g P i e (suc k) x) (lockers P x)) p (node_count g) r.inside
    (λ x l n. ap (λ b. weighed b (lockers P x)) (other x l n)) in
    omega (
      arith,
      q,
      ap (λ b. weighed b (lockers P p)) (before_passes {g = g} {P = P} {i = i} {e = e} {p = p} (suc k) r (omega arith)),
      weighed_none (is_before g P i e k p) (lockers P p) (λ a. absurd (omega (arith, (passes_before {g = g} {P = P} {i = i} {e = e} {p = p} k r.inside a).first))),
    )
  where
    other : (x : ℕ) → x < node_count g → x ≢ p → is_before g P i e (suc (key (p, dist g i p))) x ≡ is_before g P i e (key (p, dist g i p)) x
    other x l n =
        alike
        (is_before g P i e (suc (key (p, dist g i p))) x)
        (is_before g P i e (key (p, dist g i p)) x)
        (λ a.
        let b = passes_before {g = g} {P = P} {i = i} {e = e} {p = x} (suc (key (p, dist g i p))) l a in
        before_passes (key (p, dist g i p)) b.nearer
        (omega (arith, b.first, key_other (x, dist g i x) (p, dist g i p) (omega (arith, ok.few)) (omega (arith, ok.few, r.inside)) n)))
        (λ a.
        let b = passes_before {g = g} {P = P} {i = i} {e = e} {p = x} (key (p, dist g i p)) l a in
        before_passes (suc (key (p, dist g i p))) b.nearer (omega (arith, b.first)))

-- farther out no fewer others are nearer
pub nearer_mono : (g : Network) (P : List ℕ) (p d e : ℕ) → d ≤ e → others_nearer g P p d ≤ others_nearer g P p e
unfolding others_nearer
nearer_mono g P p d e h =
    sum_mono (is_nearer g P p d) (is_nearer g P p e) (others_at P p) (node_count g)
    (λ x l a.
    let r = passes_nearer {g = g} {P = P} {i = p} {e = d} {p = x} l a in
    nearer_passes (record { inside = l; point = r.point; less = omega (arith, r.less) }))

-- the others of a node are its lockers and those of the nodes nearer, but for one
module _ (g : Network) (P : List ℕ) (p e : ℕ) where
  others_at_lem : (x : ℕ) → x ≢ p → others_at P p x ≡ lockers P x
  others_at_lem x n = ap (λ b. lockers P x - bit b) (ne_eqb x p n) ∙ omega arith

  own_others : others_at P p p ≡ lockers P p - 1
  own_others = ap (λ b. lockers P p - bit b) (eq-eqb p p refl)

  pub others_nearly : count_nearer g P p e ≤ suc (others_nearer g P p e)
  unfolding count_nearer others_nearer
  others_nearly =
      elim (dec_lt p (node_count g)) [
        | yes l ↦
            let q =
            total_at (λ x. weighed (is_nearer g P p e x) (others_at P p x)) (λ x. weighed (is_nearer g P p e x) (lockers P x)) p (node_count g) l
            (λ x i n. ap (weighed (is_nearer g P p e x)) (sym (others_at_lem x n))) in
            omega (arith, q, one (is_nearer g P p e p) (lockers P p) (others_at P p p) (omega (arith, own_others)))
        | no n ↦
            omega (
              arith,
              total_same (λ x. weighed (is_nearer g P p e x) (others_at P p x)) (λ x. weighed (is_nearer g P p e x) (lockers P x)) (node_count g)
                  (λ x i. ap (weighed (is_nearer g P p e x)) (sym (others_at_lem x (omega arith)))),
            )
      ]
    where
      one : (b : Bool) (v w : ℕ) → v ≤ suc w → weighed b v ≤ suc (weighed b w)
      one true v w h = h
      one false v w h = omega arith

  pub others_less : Nearer g P p e p → suc (others_nearer g P p e) ≤ count_nearer g P p e
  unfolding count_nearer others_nearer
  others_less r =
      let q =
      total_at (λ x. weighed (is_nearer g P p e x) (others_at P p x)) (λ x. weighed (is_nearer g P p e x) (lockers P x)) p (node_count g) r.inside
      (λ x i n. ap (weighed (is_nearer g P p e x)) (sym (others_at_lem x n))) in
      let t = nearer_passes r in
      omega (
        arith,
        q,
        own_others,
        ltb-true 0 (lockers P p) r.point,
        ap (λ b. weighed b (lockers P p)) t,
        ap (λ b. weighed b (others_at P p p)) t,
      )

  -- lockers M that are no more than those of P, on other nodes than p, are others
  pub others_part : (M : List ℕ) (i f : ℕ) → ((x : ℕ) → Nearer g M i f x → (x ≢ p) × (lockers M x ≤ lockers P x) × Nearer g P p e x)
      → count_nearer g M i f ≤ others_nearer g P p e
  unfolding count_nearer others_nearer
  others_part M i f h =
      sum_le (is_nearer g M i f) (is_nearer g P p e) (lockers M) (others_at P p) (node_count g)
      (λ x l a. let r = h x (passes_nearer l a) in (nearer_passes r.2, omega (arith, r.1, others_at_lem x r.0)))
