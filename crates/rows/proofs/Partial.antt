-- A table under way: rows that are sorted and sound, and sourced and closed under arcs up to what is still held. What is near a node stands in its
-- row, or something that is no farther is held. With nothing held these are all rows of the exact table (proofs/Exact.antt).
-- Assumes nothing.
use Prim.Native.Nat.{ℕ, zero, suc, ◌+◌, ◌≤◌, ◌<◌, min}
use mathlib.Core.Path.{◌≡◌, refl, sym, ap}
use mathlib.Core.Bool.{Bool, true, false}
use mathlib.Core.Logic.{◌≢◌, ◌⊎◌, inl, inr, ⊎_elim}
use mathlib.Core.List.Memᴰ
use mathlib.Core.List.{List, [], ◌∷◌, Memᴰ}
use native.Mathlib.Decide.{ℕ_discrete, dec_lt}
use native.Mathlib.Omega.{arith}
use lib.ListN.{length}
use Rattle.network.specs.Network.{Network, Arc, node_count}
use Rattle.network.specs.Accepted.{Accepted}
use Rattle.network.specs.Distance.{NONE, dist}
use Rattle.network.specs.Count.{weighed}
use Rattle.network.specs.Points.{lockers, marked}
use Rattle.network.specs.Nearest.{key}
use Rattle.network.specs.Order.{is_before, before, Nearer, times}
use Rattle.network.proofs.Totals.{total_le}
use Rattle.network.proofs.Distances.{Next, dist_at_most, dist_walk, dist_self, dist_next}
use Rattle.network.proofs.Ordered.{below, below_most, below_up, all_below, copies, copies_most, copies_all, copies_some, sum_copies}
use Rattle.network.proofs.Rank.{Near, Before, key_other, before_passes, passes_before, before_is}
use Rattle.network.proofs.Prefix.{near_next}
use Rattle.rows.specs.Exact.{Sorted, Sound, Placed, stands, full}

-- `Held i p d`: (p, d) is still to be offered to the row of i
pub record Partial (g : Network) (P : List ℕ) (K : ℕ) (T : ℕ → List (ℕ × ℕ)) (Held : ℕ → ℕ → ℕ → Type 0) : Type 0 where
  pub sorted : (i : ℕ) → i < node_count g → Sorted P K (T i)
  pub sound : (i p d : ℕ) → i < node_count g → Memᴰ (p, d) (T i) → Sound g P i p d
  pub source : (i : ℕ) → i < node_count g → marked P i ≡ true → Memᴰ (i, 0) (T i) ⊎ Held i i 0
  pub closed : {i c w : ℕ} → Arc g i c w → (p d : ℕ) → Memᴰ (p, d) (T c) → Placed K (T i) p (d + w) ⊎ Held i p (d + w)

-- something that is no farther than e is held
pub record HeldWithin (Held : ℕ → ℕ → ℕ → Type 0) (e : ℕ) : Type 0 where
  pub node : ℕ
  pub point : ℕ
  pub far : ℕ
  pub held : Held node point far
  pub low : far ≤ e

-- whether a point stands in a row
pub record Has (p : ℕ) (xs : List (ℕ × ℕ)) : Type 0 where
  pub far : ℕ
  pub mem : Memᴰ (p, far) xs

has_or_not : (p : ℕ) (xs : List (ℕ × ℕ)) → Has p xs ⊎ ((d : ℕ) → Memᴰ (p, d) xs → ⊥)
has_or_not p [] = inr (λ d m. Memᴰ.not-nil m)
has_or_not p (x ∷ xs) =
    elim (ℕ_discrete p x.0) [
      | yes e ↦ inl (record { far = x.1; mem = Memᴰ.head (λ k. (e k, x.1)) })
      | no n ↦
          ⊎_elim
          (λ h. inl (record { far = h.far; mem = Memᴰ.tail h.mem }))
          (λ f. inr (λ d m. ⊎_elim (λ q. n (ap (λ (y : ℕ × ℕ). y.0) q)) (λ t. f d t) (Memᴰ.cases_cons m)))
          (has_or_not p xs)
    ]

-- A row in order of what is reached, at no less than its distance: how many of it come before a key.
module _ {g : Network} (ok : Accepted g) {P : List ℕ} {K i : ℕ} {xs : List (ℕ × ℕ)} (s : Sorted P K xs)
    (reach : (p d : ℕ) → Memᴰ (p, d) xs → Nearer g P i NONE p × (dist g i p ≤ d)) where
  inside : (y : ℕ × ℕ) → Memᴰ y xs → y.0 < node_count g
  inside y m = (reach y.0 y.1 m).0.inside

  -- no more than come before it of all
  pub no_more_before : (k : ℕ) → below k xs ≤ before g P i NONE k
  no_more_before k =
      omega (
        arith,
        before_is g P i NONE k,
        sum_copies k (node_count g) xs inside,
        total_le (λ p. copies k p xs) (λ p. weighed (is_before g P i NONE k p) (lockers P p)) (node_count g) (λ p l. each p),
      )
    where
      each : (p : ℕ) → copies k p xs ≤ weighed (is_before g P i NONE k p) (lockers P p)
      each p =
          ⊎_elim
          (λ (z : copies k p xs ≡ 0). omega arith)
          (λ c.
          let r = reach p c.far c.mem in
          let b = before_passes k r.0 (omega (arith, r.1, c.low)) in
          rw b (omega (arith, copies_most k p xs, s.most p)))
          (copies_some k p xs)

  -- and as many, or K, where what is near stands there
  fill_up : (b k : ℕ) → k < b → ((y : ℕ) → Near g P i NONE K y → key (y, dist g i y) < k → Memᴰ (y, dist g i y) xs)
      → min K (before g P i NONE k) ≤ below k xs
  fill_up zero k l stand = absurd (omega arith)
  fill_up (suc b) k l stand =
      elim (dec_lt (below k xs) K) [
        | no n ↦ omega arith
        | yes h ↦ omega (arith, all (λ j o. fill_up b j o) h)
      ]
    where
      each : ((j : ℕ) → j < b → ((y : ℕ) → Near g P i NONE K y → key (y, dist g i y) < j → Memᴰ (y, dist g i y) xs) → min K (before g P i NONE j) ≤ below j xs)
          → below k xs < K → (y : ℕ) → Before g P i NONE k y → lockers P y ≤ copies k y xs
      each ih h y r =
          elim (dec_lt (before g P i NONE (key (y, dist g i y))) K) [
            | no n ↦
                absurd
                (omega (
                  arith,
                  ih (key (y, dist g i y)) (omega (arith, r.first)) (λ x u o. stand x u (omega (arith, r.first, o))),
                  below_up (key (y, dist g i y)) k xs (omega (arith, r.first)),
                ))
            | yes f ↦
                let m = stand y (record { nearer = r.nearer; few = f }) r.first in
                let c = copies_all k y xs (λ d n. let e = s.once y d (dist g i y) n m in omega (arith, e, r.first)) in
                elim (dec_lt (times y xs) (lockers P y)) [
                  | no n ↦ omega arith
                  | yes w ↦
                      let q = s.whole y (dist g i y) m w in
                      absurd (omega (arith, q.filled, all_below k xs (λ z n. omega (arith, q.ends z n, r.first))))
                ]
          ]

      all : ((j : ℕ) → j < b → ((y : ℕ) → Near g P i NONE K y → key (y, dist g i y) < j → Memᴰ (y, dist g i y) xs) → min K (before g P i NONE j) ≤ below j xs)
          → below k xs < K → before g P i NONE k ≤ below k xs
      all ih h =
          omega (
            arith,
            before_is g P i NONE k,
            sum_copies k (node_count g) xs inside,
            total_le (λ p. weighed (is_before g P i NONE k p) (lockers P p)) (λ p. copies k p xs) (node_count g)
                (λ p o. by p o (is_before g P i NONE k p) refl),
          )
        where
          by : (p : ℕ) → p < node_count g → (t : Bool) → is_before g P i NONE k p ≡ t → weighed t (lockers P p) ≤ copies k p xs
          by p o true e = each ih h p (passes_before k o e)
          by p o false e = omega arith

  pub as_many_before : (k : ℕ) → ((y : ℕ) → Near g P i NONE K y → key (y, dist g i y) < k → Memᴰ (y, dist g i y) xs)
      → min K (before g P i NONE k) ≤ below k xs
  as_many_before k = fill_up (suc k) k (omega arith)

module _ {g : Network} (ok : Accepted g) {P : List ℕ} {K : ℕ} {T : ℕ → List (ℕ × ℕ)} {Held : ℕ → ℕ → ℕ → Type 0} (tab : Partial g P K T Held) where
  -- an entry is reached, and it is no nearer than it is
  pub reached : (i p d : ℕ) → i < node_count g → Memᴰ (p, d) (T i) → Nearer g P i NONE p
  reached i p d h m =
      let s = tab.sound i p d h m in
      record { inside = s.inside; point = s.point; less = omega (arith, (dist_walk ok s.walk).some, dist_at_most g i p) }

  no_nearer : (i p d : ℕ) → i < node_count g → Memᴰ (p, d) (T i) → dist g i p ≤ d
  no_nearer i p d h m = (dist_walk ok (tab.sound i p d h m).walk).most

  pub reaches : (i : ℕ) → i < node_count g → (p d : ℕ) → Memᴰ (p, d) (T i) → Nearer g P i NONE p × (dist g i p ≤ d)
  reaches i h p d m = (reached i p d h m, no_nearer i p d h m)

  -- a row without p, of what does not come behind p, is all before p
  many : (i p : ℕ) → i < node_count g → Nearer g P i NONE p → ((d : ℕ) → Memᴰ (p, d) (T i) → ⊥)
      → ((y : ℕ × ℕ) → Memᴰ y (T i) → key y ≤ key (p, dist g i p)) → length (T i) ≤ before g P i NONE (key (p, dist g i p))
  many i p h r n a =
      omega (
        arith,
        no_more_before ok (tab.sorted i h) (reaches i h) (key (p, dist g i p)),
        all_below (key (p, dist g i p)) (T i) (λ y m. less y m (reached i y.0 y.1 h m)),
      )
    where
      less : (y : ℕ × ℕ) → Memᴰ y (T i) → Nearer g P i NONE y.0 → key y < key (p, dist g i p)
      less y m s =
          let other : y.0 ≢ p = λ e. n y.1 (Memᴰ.cast (λ k. (sym e k, y.1)) m) in
          let apart = key_other y (p, dist g i p) (omega (arith, s.inside, ok.few)) (omega (arith, r.inside, ok.few)) other in
          omega (arith, a y m)

  placed : (i p : ℕ) → i < node_count g → Near g P i NONE K p → Placed K (T i) p (dist g i p) → Memᴰ (p, dist g i p) (T i)
  placed i p h r (stands {e} l m) =
      let q : e ≡ dist g i p = omega (arith, no_nearer i p e h m) in
      rw q at m
  placed i p h r (full a) =
      ⊎_elim
      (λ f. let q : f.far ≡ dist g i p = omega (arith, no_nearer i p f.far h f.mem, a.ends (p, f.far) f.mem) in rw q at f.mem)
      (λ n. absurd (omega (arith, r.few, a.filled, many i p h r.nearer n a.ends)))
      (has_or_not p (T i))

  -- what is near stands in its row, or something that is no farther is held: by the next node of a shortest way, from the nearest on
  by_next : (i p : ℕ) → i < node_count g → Near g P i NONE K p → (x : Next g i p) → Memᴰ (p, dist g x.to p) (T x.to)
      → Memᴰ (p, dist g i p) (T i) ⊎ HeldWithin Held (dist g i p)
  by_next i p h r x m =
      let q : dist g x.to p + x.weight ≡ dist g i p = omega (arith, x.sum) in
      ⊎_elim
      (λ a. inl (placed i p h r (rw q at a)))
      (λ a. inr (record { node = i; point = p; far = dist g i p; held = rw q at a; low = omega arith }))
      (tab.closed x.arc p (dist g x.to p) m)

  complete : (b i p : ℕ) → dist g i p < b → i < node_count g → Near g P i NONE K p → Memᴰ (p, dist g i p) (T i) ⊎ HeldWithin Held (dist g i p)
  complete zero i p l h r = absurd (omega arith)
  complete (suc b) i p l h r =
      elim (ℕ_discrete p i) [
        | yes e ↦
            ⊎_elim
            (λ m. inl (rw (e, dist_self ok i) m))
            (λ a. inr (record { node = i; point = i; far = 0; held = a; low = omega arith }))
            (tab.source i h (rw e at r.nearer.point))
        | no n ↦
            let x = dist_next ok i p (λ q. n (sym q)) (omega (arith, r.nearer.less)) in
            let c = near_next ok P x.arc K p x.sum r in
            ⊎_elim
            (λ m. by_next i p h r x m)
            (λ a. inr (record { node = a.node; point = a.point; far = a.far; held = a.held; low = omega (arith, a.low, x.sum) }))
            (complete b x.to p (omega (arith, x.sum, ok.weight_low x.arc)) (ok.leads_in x.arc) c)
      ]

  pub near_or_held : (i p : ℕ) → i < node_count g → Near g P i NONE K p → Memᴰ (p, dist g i p) (T i) ⊎ HeldWithin Held (dist g i p)
  near_or_held i p h r = complete (suc (dist g i p)) i p (omega arith) h r

  -- What is held at d or more: a point that a row with a free place lacks is no nearer than that. Were it nearer, the row would have it, or, where it
  -- is not near, all K points that come before it.
  module _ (i p d : ℕ) (h : i < node_count g) (inside : p < 4294967296) (least : (j q e : ℕ) → Held j q e → d ≤ e) where
    near_stands : (x : ℕ) → Near g P i NONE K x → dist g i x < d → Memᴰ (x, dist g i x) (T i)
    near_stands x r l =
        ⊎_elim (λ m. m) (λ a. absurd (omega (arith, least a.node a.point a.far a.held, a.low))) (near_or_held i x h r)

    pub no_shorter : length (T i) < K → ((e : ℕ) → Memᴰ (p, e) (T i) → ⊥) → Nearer g P i NONE p → d ≤ dist g i p
    no_shorter free lacks r =
        elim (dec_lt (dist g i p) d) [
          | no n ↦ omega arith
          | yes l ↦
              elim (dec_lt (before g P i NONE (key (p, dist g i p))) K) [
                | yes b ↦ absurd (lacks (dist g i p) (near_stands p (record { nearer = r; few = b }) l))
                | no b ↦
                    absurd
                    (omega (
                      arith,
                      below_most (key (p, dist g i p)) (T i),
                      as_many_before ok (tab.sorted i h) (reaches i h) (key (p, dist g i p)) (λ y u o. near_stands y u (omega (arith, o, inside))),
                    ))
              ]
        ]
