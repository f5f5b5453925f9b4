-- A table while it is built, over rows T and what the queue holds: a partial table whose entries came before all that is held. An offer is taken out:
-- where its row needs it no more it is dropped, else the row takes it and the node's neighbours are offered it. Both keep the table partial. An
-- offer that is taken has the exact distance.
-- Assumes nothing.
use Prim.Native.Nat.{ℕ, zero, suc, ◌+◌, ◌-◌, ◌≤◌, ◌<◌, min}
use mathlib.Core.Path.{◌≡◌, refl, sym, ap, ◌∙◌}
use mathlib.Core.Logic.{◌≢◌, ◌⊎◌, inl, inr, ⊎_elim}
use mathlib.Core.List.Memᴰ
use mathlib.Core.List.{List, [], ◌∷◌, ◌++◌, Memᴰ}
use native.Mathlib.Decide.{ℕ_discrete}
use native.Mathlib.Omega.{arith}
use lib.ListN.{length, replicate}
use borrow.Author.Tests.{ltb-true}
use Rattle.network.specs.Network.{Network, Arc, node_count}
use Rattle.network.specs.Accepted.{Accepted}
use Rattle.network.specs.Walk.{step}
use Rattle.network.specs.Distance.{NONE, dist}
use Rattle.network.specs.Points.{lockers}
use Rattle.network.specs.Nearest.{key}
use Rattle.network.specs.Order.{Nearer}
use Rattle.network.proofs.NodeArcs.{arc_source}
use Rattle.network.proofs.Distances.{dist_at_most, dist_walk, dist_zero}
use Rattle.network.proofs.Rows.{padding}
use Rattle.rows.specs.Exact.{Sorted, Sound, Placed, stands, full, Table}
use Rattle.rows.proofs.Partial.{Partial, no_shorter}
use Rattle.table.proofs.Append.{appended_sorted}

-- ---- A list with some more of one entry.
more_cases : (n : ℕ) (y x : ℕ × ℕ) (xs : List (ℕ × ℕ)) → Memᴰ y (xs ++ replicate n x) → Memᴰ y xs ⊎ (y ≡ x)
more_cases n y x xs m = ⊎_elim (λ a. inl a) (λ b. inr (padding n x y b)) (Memᴰ.append_cases xs m)

some_like : (n : ℕ) (x : ℕ × ℕ) → 1 ≤ n → Memᴰ x (replicate n x)
some_like zero x h = absurd (omega arith)
some_like (suc n) x h = Memᴰ.head refl

record Member (xs : List (ℕ × ℕ)) : Type 0 where
  it : ℕ × ℕ
  mem : Memᴰ it xs

some_member : (xs : List (ℕ × ℕ)) → 0 < length xs → Member xs
some_member [] h = absurd (omega arith)
some_member (x ∷ xs) h = record { it = x; mem = Memᴰ.head refl }

-- ---- The table under way. `last` is the key, by distance and point, of the offer that was taken out last.
pub record Offer (g : Network) (P : List ℕ) (i p d : ℕ) : Type 0 where
  pub node : i < node_count g
  pub sound : Sound g P i p d

pub record Building (g : Network) (P : List ℕ) (K : ℕ) (T : ℕ → List (ℕ × ℕ)) (Held : ℕ → ℕ → ℕ → Type 0) (last : ℕ) : Type 0 where
  pub rows : Partial g P K T Held
  pub passed : (i : ℕ) → i < node_count g → (y : ℕ × ℕ) → Memᴰ y (T i) → key y ≤ last
  pub ahead : (i p d : ℕ) → Held i p d → last ≤ key (p, d)
  pub held : (i p d : ℕ) → Held i p d → Offer g P i p d

-- the offer (p, d) to the row of i is taken out: it comes before or at all others
pub record OfferOut (Held Left : ℕ → ℕ → ℕ → Type 0) (i p d : ℕ) : Type 0 where
  pub was : Held i p d
  pub least : (j q e : ℕ) → Held j q e → key (p, d) ≤ key (q, e)
  pub old : (j q e : ℕ) → Left j q e → Held j q e
  pub kept : (j q e : ℕ) → Held j q e → Left j q e ⊎ ((j ≡ i) × (q ≡ p) × (e ≡ d))

-- it is taken: the row of i has it behind its entries, once for each locker or as often as there is room for, and the nodes that i's arcs lead to
-- are offered it, but for those whose rows have the point or are full
pub record RowTakes (g : Network) (P : List ℕ) (K : ℕ) (T T' : ℕ → List (ℕ × ℕ)) (i p d : ℕ) : Type 0 where
  pub here : T' i ≡ T i ++ replicate (min (lockers P p) (K - length (T i))) (p, d)
  pub other : (j : ℕ) → j < node_count g → j ≢ i → T' j ≡ T j

pub record OverArc (g : Network) (i p d j q e : ℕ) : Type 0 where
  pub weight : ℕ
  pub arc : Arc g i j weight
  pub point : q ≡ p
  pub far : e ≡ d + weight

-- a row has p, or is full
pub data Served (K : ℕ) (xs : List (ℕ × ℕ)) (p : ℕ) : Type 0 where
  has : {e : ℕ} → Memᴰ (p, e) xs → Served K xs p
  filled : length xs ≡ K → Served K xs p

pub record OffersOn (g : Network) (K : ℕ) (T' : ℕ → List (ℕ × ℕ)) (Left New : ℕ → ℕ → ℕ → Type 0) (i p d : ℕ) : Type 0 where
  pub kept : (j q e : ℕ) → Left j q e → New j q e
  pub old : (j q e : ℕ) → New j q e → Left j q e ⊎ OverArc g i p d j q e
  pub new : {j w : ℕ} → Arc g i j w → Served K (T' j) p ⊎ New j p (d + w)

module _ {g : Network} (ok : Accepted g) {P : List ℕ} {K : ℕ} where
  -- rows that are the same
  pub building_same : {T T' : ℕ → List (ℕ × ℕ)} {Held : ℕ → ℕ → ℕ → Type 0} {last : ℕ} → ((i : ℕ) → i < node_count g → T' i ≡ T i)
      → Building g P K T Held last → Building g P K T' Held last
  building_same same b =
      record {
        rows = record {
          sorted = λ i h. rw (same i h) (b.rows.sorted i h);
          sound = λ i p d h m. b.rows.sound i p d h (rw (same i h) at m);
          source = λ i h a. rw (same i h) (b.rows.source i h a);
          closed = λ {i} {c} r p d m. rw (same i (arc_source r)) (b.rows.closed r p d (rw (same c (ok.leads_in r)) at m));
        };
        passed = λ i h y m. b.passed i h y (rw (same i h) at m);
        ahead = b.ahead;
        held = b.held;
      }

  -- where nothing is held, the table is whole
  pub building_done : {T : ℕ → List (ℕ × ℕ)} {Held : ℕ → ℕ → ℕ → Type 0} {last : ℕ} → Building g P K T Held last → ((i p d : ℕ) → Held i p d → ⊥) → Table g P K T
  building_done b none =
      record {
        sorted = b.rows.sorted;
        sound = b.rows.sound;
        source = λ i h a. ⊎_elim (λ m. m) (λ o. absurd (none i i 0 o)) (b.rows.source i h a);
        closed = λ {i} {c} {w} r p d m. ⊎_elim (λ a. a) (λ o. absurd (none i p (d + w) o)) (b.rows.closed r p d m);
      }

  module _ {T : ℕ → List (ℕ × ℕ)} {Held Left : ℕ → ℕ → ℕ → Type 0} {last i p d : ℕ} (some : 1 ≤ K) (b : Building g P K T Held last) (o : OfferOut Held Left i p d) where
    pub offer : Offer g P i p d
    offer = b.held i p d o.was

    fits : (q : ℕ) → q < node_count g → q < 4294967296
    fits q h = omega (arith, ok.few)

    -- a row that has p, or is full, needs (p, d) no more
    pub stands_placed : (e : ℕ) → Memᴰ (p, e) (T i) → Placed K (T i) p d
    stands_placed e m = stands {e = e} (omega (arith, b.passed i offer.node (p, e) m, b.ahead i p d o.was)) m

    pub full_placed : length (T i) ≡ K → Placed K (T i) p d
    full_placed l = full (record { filled = l; ends = λ y m. omega (arith, b.passed i offer.node y m, b.ahead i p d o.was) })

    -- a row that needs (i, 0) no more has it
    own_placed : (j : ℕ) → j < node_count g → Placed K (T j) j 0 → Memᴰ (j, 0) (T j)
    own_placed j h (stands {e} l m) = let z : e ≡ 0 = omega arith in rw z at m
    own_placed j h (full a) =
        let y = some_member (T j) (omega (arith, a.filled)) in
        let s = b.rows.sound j y.it.0 y.it.1 h y.mem in
        let z : y.it.1 ≡ 0 = omega (arith, a.ends y.it y.mem, fits j h) in
        let q : j ≡ y.it.0 = dist_zero ok j y.it.0 (omega (arith, (dist_walk ok s.walk).most)) in
        Memᴰ.cast (λ k. (q k, sym z k)) y.mem

    placed_there : (j q e : ℕ) → Placed K (T i) p d → (j ≡ i) × (q ≡ p) × (e ≡ d) → Placed K (T j) q e
    placed_there j q e a (x, y, z) = rw (x, y, z) a

    pub building_dropped : Placed K (T i) p d → Building g P K T Left (key (p, d))
    building_dropped a =
        record {
          rows = record {
            sorted = b.rows.sorted;
            sound = b.rows.sound;
            source =
                λ j h m.
                ⊎_elim
                (λ n. inl n)
                (λ n. ⊎_elim (λ l. inr l) (λ e. inl (own_placed j h (placed_there j j 0 a e))) (o.kept j j 0 n))
                (b.rows.source j h m);
            closed =
                λ {i = j} {c} {w} r q e m.
                ⊎_elim
                (λ n. inl n)
                (λ n. ⊎_elim (λ l. inr l) (λ z. inl (placed_there j q (e + w) a z)) (o.kept j q (e + w) n))
                (b.rows.closed r q e m);
          };
          passed = λ j h y m. omega (arith, b.passed j h y m, b.ahead i p d o.was);
          ahead = λ j q e l. o.least j q e (o.old j q e l);
          held = λ j q e l. b.held j q e (o.old j q e l);
        }

    module _ (free : length (T i) < K) (lacks : (e : ℕ) → Memᴰ (p, e) (T i) → ⊥) where
      -- an offer that is taken has the exact distance
      pub taken_exact : d ≡ dist g i p
      taken_exact =
          let s = offer.sound in
          let u = dist_walk ok s.walk in
          let r : Nearer g P i NONE p = record { inside = s.inside; point = s.point; less = omega (arith, u.some, dist_at_most g i p) } in
          omega (
            arith,
            u.most,
            no_shorter ok b.rows i p d offer.node (fits p s.inside)
                (λ j q e x. omega (arith, o.least j q e x, fits q (b.held j q e x).sound.inside)) free lacks r,
          )

      module _ {T' : ℕ → List (ℕ × ℕ)} {New : ℕ → ℕ → ℕ → Type 0} (t : RowTakes g P K T T' i p d) (f : OffersOn g K T' Left New i p d) where
        abbrev room : ℕ
        room = min (lockers P p) (K - length (T i))

        new_cases : (j : ℕ) → j < node_count g → (y : ℕ × ℕ) → Memᴰ y (T' j) → Memᴰ y (T j) ⊎ ((j ≡ i) × (y ≡ (p, d)))
        new_cases j h y m =
            elim (ℕ_discrete j i) [
              | yes e ↦
                  ⊎_elim
                  (λ a. inl (rw e a))
                  (λ q. inr (e, q))
                  (more_cases room y (p, d) (T i) (rw (ap T' e ∙ t.here) at m))
              | no n ↦ inl (rw (t.other j h n) at m)
            ]

        new_old : (j : ℕ) → j < node_count g → (y : ℕ × ℕ) → Memᴰ y (T j) → Memᴰ y (T' j)
        new_old j h y m =
            elim (ℕ_discrete j i) [
              | yes e ↦ rw (ap T' e ∙ t.here) (Memᴰ.append_left (replicate room (p, d)) (rw e at m))
              | no n ↦ rw (t.other j h n) m
            ]

        new_last : Memᴰ (p, d) (T' i)
        new_last = rw t.here (Memᴰ.append_right (T i) (some_like room (p, d) (omega (arith, free, ltb-true 0 (lockers P p) offer.sound.point))))

        row_sorted : Sorted P K (T i ++ replicate room (p, d))
        row_sorted =
            appended_sorted (b.rows.sorted i offer.node) p d free lacks
            (λ y m. omega (arith, b.passed i offer.node y m, b.ahead i p d o.was))

        new_sorted : (j : ℕ) → j < node_count g → Sorted P K (T' j)
        new_sorted j h =
            elim (ℕ_discrete j i) [
              | yes e ↦ rw (ap T' e ∙ t.here) row_sorted
              | no n ↦ rw (t.other j h n) (b.rows.sorted j h)
            ]

        new_placed : (j q e : ℕ) → j < node_count g → Placed K (T j) q e → Placed K (T' j) q e
        new_placed j q e h (stands l m) = stands l (new_old j h _ m)
        new_placed j q e h (full a) =
            let n : j ≢ i = λ z. absurd (omega (arith, free, a.filled, ap (λ (x : ℕ). length (T x)) z)) in
            rw (t.other j h n) (full a)

        new_held : (j q e : ℕ) → j < node_count g → Held j q e → New j q e ⊎ Memᴰ (q, e) (T' j)
        new_held j q e h n =
            ⊎_elim (λ l. inl (f.kept j q e l)) (λ z. inr (there z)) (o.kept j q e n)
          where
            there : (j ≡ i) × (q ≡ p) × (e ≡ d) → Memᴰ (q, e) (T' j)
            there (x, y, z) = rw (x, y, z) new_last

        new_passed : (j : ℕ) → j < node_count g → (y : ℕ × ℕ) → Memᴰ y (T' j) → key y ≤ key (p, d)
        new_passed j h y m =
            ⊎_elim
            (λ a. omega (arith, b.passed j h y a, b.ahead i p d o.was))
            (λ a. omega (arith, ap key a.1))
            (new_cases j h y m)

        -- a row that has p, or is full, needs no offer of p that comes from here
        served : (j w : ℕ) → j < node_count g → Served K (T' j) p → Placed K (T' j) p (d + w)
        served j w h (has {e} m) = stands {e = e} (omega (arith, new_passed j h (p, e) m)) m
        served j w h (filled l) = full (record { filled = l; ends = λ y m. omega (arith, new_passed j h y m) })

        new_closed : {j c w : ℕ} → Arc g j c w → (q e : ℕ) → Memᴰ (q, e) (T' c) → Placed K (T' j) q (e + w) ⊎ New j q (e + w)
        new_closed {j} {c} {w} r q e m =
            ⊎_elim
            (λ a.
            ⊎_elim
            (λ l. inl (new_placed j q (e + w) (arc_source r) l))
            (λ l. ⊎_elim (λ x. inr x) (λ x. inl (stands (omega arith) x)) (new_held j q (e + w) (arc_source r) l))
            (b.rows.closed r q e a))
            (λ a. given a)
            (new_cases c (ok.leads_in r) (q, e) m)
          where
            given : (c ≡ i) × (◌≡◌ {A = ℕ × ℕ} (q, e) (p, d)) → Placed K (T' j) q (e + w) ⊎ New j q (e + w)
            given (x, y) =
                rw (ap (λ (z : ℕ × ℕ). z.0) y, ap (λ (z : ℕ × ℕ). z.1) y)
                (⊎_elim (λ s. inl (served j w (arc_source r) s)) (λ n. inr n) (f.new (rw x at (ok.returns r))))

        pub building_taken : Building g P K T' New (key (p, d))
        building_taken =
            record {
              rows = record {
                sorted = new_sorted;
                sound =
                    λ j q e h m.
                    ⊎_elim
                    (λ a. b.rows.sound j q e h a)
                    (λ a. rw (a.0, ap (λ (z : ℕ × ℕ). z.0) a.1, ap (λ (z : ℕ × ℕ). z.1) a.1) offer.sound)
                    (new_cases j h (q, e) m);
                source =
                    λ j h m.
                    ⊎_elim
                    (λ a. inl (new_old j h (j, 0) a))
                    (λ a. ⊎_elim (λ x. inr x) (λ x. inl x) (new_held j j 0 h a))
                    (b.rows.source j h m);
                closed = new_closed;
              };
              passed = new_passed;
              ahead =
                  λ j q e x.
                  ⊎_elim
                  (λ l. o.least j q e (o.old j q e l))
                  (λ a. omega (arith, a.point, a.far))
                  (f.old j q e x);
              held =
                  λ j q e x.
                  ⊎_elim (λ l. b.held j q e (o.old j q e l)) (λ a. over j q e a) (f.old j q e x);
            }
          where
            over : (j q e : ℕ) → OverArc g i p d j q e → Offer g P j q e
            over j q e a =
                let z : a.weight + d ≡ e = omega (arith, a.far) in
                record {
                  node = ok.leads_in a.arc;
                  sound = record {
                    inside = omega (arith, offer.sound.inside, a.point);
                    point = rw a.point offer.sound.point;
                    walk = rw a.point (rw z at (step (ok.returns a.arc) offer.sound.walk));
                  };
                }
