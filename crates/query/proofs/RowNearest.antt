-- What a row of the table says. Its first places that are nearer than e, cut after k, are the k nearest within e; each is the end of a way from the
-- site, through the row's node, and none is the site itself. And the place of a point's k-th other point tells that the point lists a site which is no farther.
-- Assumes nothing.
use Prim.Native.Nat.{ℕ, suc, ◌+◌, ◌*◌, ◌≤◌, ◌<◌, min}
use mathlib.Core.Path.{◌≡◌, refl, sym, ap, ◌∙◌}
use mathlib.Core.Bool.{true}
use mathlib.Core.Logic.{◌≢◌}
use mathlib.Core.List.{List, Memᴰ}
use native.Mathlib.Decide.{dec_lt, ℕ_discrete}
use native.Mathlib.Omega.{arith}
use lib.ListN.{length, get_or, take}
use lib.Seq.{get_or-take, length-take-le}
use Rattle.network.specs.Network.{Network, node_count}
use Rattle.network.specs.Accepted.{Accepted}
use Rattle.network.specs.Walk.{Walk}
use Rattle.network.specs.Distance.{NONE, dist}
use Rattle.network.specs.Points.{marked, count_nearer, others_nearer, verified}
use Rattle.network.specs.Nearest.{key, by_distance, nearest}
use Rattle.network.specs.Order.{Ordered, before, Nearer}
use Rattle.network.specs.Rows.{table_ids, table_distances, IsTable}
use Rattle.network.proofs.Counts.{member_at}
use Rattle.network.proofs.Distances.{dist_at_most, dist_walk, dist_self, dist_symmetric, dist_triangle}
use Rattle.network.proofs.Ordered.{AllIn, below, below_most, same_below, take_all_in, take_ordered, take_few, at_above, at_below}
use Rattle.network.proofs.Rank.{before_mono, before_up, count_before, nearer_mono, others_less}
use Rattle.network.proofs.Rows.{nearest_ordered, nearest_small, nearest_below, nearest_length, listed_near}
use Rattle.expansion.proofs.VisitLaws.{nearer_none}
use Rattle.searches.proofs.Listed.{verified_parts}
use Rattle.searches.proofs.LookLaws.{place_of}
use Rattle.rows.specs.Flat.{place}
use Rattle.rows.proofs.Laid.{table_entry, table_padding}
use Rattle.query.specs.Query.{Way, Exact}

-- Within l: a key below l × 2^32 is one of a distance below l.
module _ {g : Network} (ok : Accepted g) (P : List ℕ) (v l : ℕ) (most : l ≤ NONE) where
  before_within : (m : ℕ) → before g P v l m ≡ before g P v NONE (min m (l * 4294967296))
  before_within m = omega (arith, into, back)
    where
      into : before g P v l m ≤ before g P v NONE (min m (l * 4294967296))
      into =
          before_mono g P v v l NONE m (min m (l * 4294967296))
          (λ x b.
          record {
            nearer = record { inside = b.nearer.inside; point = b.nearer.point; less = omega (arith, b.nearer.less) };
            first = omega (arith, b.first, b.nearer.less, b.nearer.inside, ok.few);
          })

      back : before g P v NONE (min m (l * 4294967296)) ≤ before g P v l m
      back =
          before_mono g P v v NONE l (min m (l * 4294967296)) m
          (λ x b.
          record {
            nearer = record { inside = b.nearer.inside; point = b.nearer.point; less = omega (arith, b.first) };
            first = omega (arith, b.first);
          })

  -- what is nearer than l comes before a key that is no nearer
  nearer_before : (m : ℕ) → l * 4294967296 ≤ m → count_nearer g P v l ≤ before g P v NONE m
  nearer_before m h =
      omega (
        arith,
        before_within m,
        before_up g P v NONE (min m (l * 4294967296)) m (omega arith),
        all_nearer,
      )
    where
      all_nearer : count_nearer g P v l ≤ before g P v l m
      all_nearer = count_before g P v l m (λ x r. omega (arith, r.less, r.inside, ok.few))

-- the first places that are below a key are as many as come before it
below_cut : (m : ℕ) (xs : List (ℕ × ℕ)) → Ordered xs → (r : ℕ) → r ≤ length xs → ((i : ℕ) → i < r → key (get_or xs i (0, 0)) < m)
    → (r < length xs → m ≤ key (get_or xs r (0, 0))) → below m xs ≡ r
below_cut m xs o r h less stop =
    elim (dec_lt (below m xs) r) [
      | yes a ↦ absurd (omega (arith, less (below m xs) a, at_below m xs o (below m xs) (omega arith) (omega arith)))
      | no a ↦
          elim (dec_lt r (below m xs)) [
            | yes b ↦ absurd (omega (arith, at_above m xs o r b, stop (omega (arith, b, below_most m xs))))
            | no b ↦ omega arith
          ]
    ]

-- place i of a row holds p
pub record StandsAt (ids : List ℕ) (at r p : ℕ) : Type 0 where
  pub index : ℕ
  pub low : index < r
  pub is : get_or ids (at + index) 0 ≡ p

-- the first k places of the row of v: its k nearest, and padding
module _ {g : Network} (ok : Accepted g) {P : List ℕ} {K : ℕ} {ids dists : List ℕ} (t : IsTable g P K ids dists) (v k : ℕ) (h : v < node_count g) (low : k ≤ K) where
  cut : (j : ℕ) → j < k → get_or (nearest g P v NONE K) j (0, 0) ≡ get_or (nearest g P v NONE k) j (0, 0)
  unfolding nearest
  cut j l =
      get_or-take K (by_distance g P v NONE (node_count g)) j (0, 0) (omega arith)
      ∙ sym (get_or-take k (by_distance g P v NONE (node_count g)) j (0, 0) l)

  place_entry : (j : ℕ) → j < k → j < length (nearest g P v NONE k) → place ids dists (v * K + j) ≡ get_or (nearest g P v NONE k) j (0, 0)
  place_entry j a b =
      table_entry t v j h (omega arith) (omega (arith, nearest_length g P v NONE k, nearest_length g P v NONE K)) ∙ cut j a

  place_padding : (j : ℕ) → j < k → length (nearest g P v NONE k) ≤ j → place ids dists (v * K + j) ≡ (NONE, NONE)
  place_padding j a b =
      table_padding t v j h (omega arith) (omega (arith, nearest_length g P v NONE k, nearest_length g P v NONE K))

  -- a place that is nearer than some distance is no padding
  entered : {l : ℕ} → l ≤ NONE → (j : ℕ) → j < k → get_or dists (v * K + j) 0 < l → j < length (nearest g P v NONE k)
  entered most j a b =
      elim (dec_lt j (length (nearest g P v NONE k))) [
        | yes m ↦ m
        | no m ↦ absurd (omega (arith, ap (λ (x : ℕ × ℕ). x.1) (place_padding j a (omega arith))))
      ]

  distance_at : (j : ℕ) → j < k → j < length (nearest g P v NONE k) → get_or dists (v * K + j) 0 ≡ (get_or (nearest g P v NONE k) j (0, 0)).1
  distance_at j a b = ap (λ (x : ℕ × ℕ). x.1) (place_entry j a b)

  -- the first r of them, and no more, are nearer than l
  module _ {l r : ℕ} (most : l ≤ NONE) (few : r ≤ k) (less : (i : ℕ) → i < r → get_or dists (v * K + i) 0 < l)
      (stop : r < k → l ≤ get_or dists (v * K + r) 0) where
    fits : r ≤ length (nearest g P v NONE k)
    fits =
        elim (dec_lt (length (nearest g P v NONE k)) r) [
          | yes m ↦
              absurd
              (omega (
                arith,
                entered most (length (nearest g P v NONE k)) (omega arith) (less (length (nearest g P v NONE k)) m),
              ))
          | no m ↦ omega arith
        ]

    taken : (i : ℕ) → i < r → get_or (take r (nearest g P v NONE k)) i (0, 0) ≡ get_or (nearest g P v NONE k) i (0, 0)
    taken i a = get_or-take r (nearest g P v NONE k) i (0, 0) a

    cut_at : below (l * 4294967296) (nearest g P v NONE k) ≡ r
    cut_at =
        below_cut (l * 4294967296) (nearest g P v NONE k) (nearest_ordered ok P v NONE k) r fits
        (λ i a.
        let z = get_or (nearest g P v NONE k) i (0, 0) in
        omega (
          arith,
          less i a,
          distance_at i (omega arith) (omega (arith, fits)),
          nearest_small ok P v NONE k z (member_at (0, 0) (nearest g P v NONE k) i (omega (arith, fits))),
        ))
        (λ a.
        let b : r < k = omega (arith, nearest_length g P v NONE k) in
        omega (arith, stop b, distance_at r b a))

    first : nearest g P v l k ≡ take r (nearest g P v NONE k)
    first =
        same_below (nearest g P v l k) (take r (nearest g P v NONE k)) (nearest_ordered ok P v l k)
        (take_ordered r (nearest g P v NONE k) (nearest_ordered ok P v NONE k)) (nearest_small ok P v l k)
        (λ y m. nearest_small ok P v NONE k y (take_all_in r (nearest g P v NONE k) y m))
        (λ m.
        omega (
          arith,
          nearest_below ok P v l k m,
          take_few r m (nearest g P v NONE k) (nearest_ordered ok P v NONE k),
          nearest_below ok P v NONE k m,
          nearest_below ok P v NONE k (l * 4294967296),
          cut_at,
          before_within ok P v l most m,
          before_least m (l * 4294967296),
        ))
      where
        before_least : (m top : ℕ) → before g P v NONE (min m top) ≡ min (before g P v NONE m) (before g P v NONE top)
        before_least m top =
            elim (dec_lt m top) [
              | yes a ↦
                  let q : min m top ≡ m = omega arith in
                  omega (arith, before_up g P v NONE m top (omega arith), ap (before g P v NONE) q)
              | no a ↦
                  let q : min m top ≡ top = omega arith in
                  omega (arith, before_up g P v NONE top m (omega arith), ap (before g P v NONE) q)
            ]

    outer : AllIn (nearest g P v l k) (take r (nearest g P v NONE k))
    outer z m = rw first at m

    pub row_count : r ≡ length (nearest g P v l k)
    row_count = sym (ap length first ∙ length-take-le r (nearest g P v NONE k) fits)

    pub row_stands : (p d : ℕ) → Memᴰ (p, d) (nearest g P v l k) → StandsAt ids (v * K) r p
    row_stands p d m =
        let i = place_of (take r (nearest g P v NONE k)) (p, d) (outer (p, d) m) in
        let a : i.0 < r = omega (arith, i.1.low, length-take-le r (nearest g P v NONE k) fits) in
        record {
          index = i.0;
          low = a;
          is =
              ap (λ (x : ℕ × ℕ). x.0)
              (place_entry i.0 (omega arith) (omega (arith, fits)) ∙ sym (taken i.0 a) ∙ i.1.is);
        }

  -- one of the k nearest that is nearer than the label is not on the site: where fewer than k are nearer to v than the site the label is the distance, and
  -- else those come first
  nearest_other : {q l : ℕ} → Exact g P q k v l → (j : ℕ) → (m : j < length (nearest g P v NONE k))
      → (get_or (nearest g P v NONE k) j (0, 0)).1 < l → (get_or (nearest g P v NONE k) j (0, 0)).0 ≢ q
  nearest_other {q} {l} exact j m b e =
      let z = get_or (nearest g P v NONE k) j (0, 0) in
      let n = listed_near ok P v NONE k z.0 z.1 (member_at (0, 0) (nearest g P v NONE k) j m) in
      elim (dec_lt (count_nearer g P v (dist g v q)) k) [
        | yes f ↦ omega (arith, b, exact f, n.far, ap (dist g v) e, dist_symmetric ok v q)
        | no y ↦
            omega (
              arith,
              n.near.few,
              nearer_before ok P v (dist g v q) (dist_at_most g v q) (key (z.0, dist g v z.0)) (omega (arith, ap (dist g v) e)),
            )
      ]

  -- a place that is nearer than the sum of a walk from the site to v: the way from its point over v
  pub row_way : {q l : ℕ} → l ≤ NONE → Walk g q v l → Exact g P q k v l → (j : ℕ) → j < k → get_or dists (v * K + j) 0 < l
      → Way g (get_or ids (v * K + j) 0) q (l + get_or dists (v * K + j) 0)
  row_way {q} {l} most walk exact j a b =
      let m = entered most j a b in
      let e = place_entry j a m in
      let z = get_or (nearest g P v NONE k) j (0, 0) in
      let n = listed_near ok P v NONE k z.0 z.1 (member_at (0, 0) (nearest g P v NONE k) j m) in
      let w = dist_walk ok walk in
      let u =
      dist_triangle ok z.0 v q (omega (arith, n.near.nearer.less, dist_symmetric ok z.0 v)) (omega (arith, w.some, dist_symmetric ok v q))
      in
      rw (ap (λ (x : ℕ × ℕ). x.0) e)
      (record {
        other = nearest_other exact j m (omega (arith, b, ap (λ (x : ℕ × ℕ). x.1) e));
        upto =
            record {
              some = u.some;
              most =
                  omega (
                    arith,
                    u.most,
                    w.most,
                    n.far,
                    ap (λ (x : ℕ × ℕ). x.1) e,
                    dist_symmetric ok z.0 v,
                    dist_symmetric ok v q,
                  );
            };
      })

-- a point p and the others that are nearer to it than e
module _ {g : Network} (ok : Accepted g) (P : List ℕ) (p e : ℕ) (low : p < node_count g) where
  others_none : e ≡ 0 → others_nearer g P p e ≡ 0
  others_none z = ap (others_nearer g P p) z ∙ nearer_none g P p

  -- no more are nearer than the k-th other point of p's row
  module _ (mark : marked P p ≡ true) {K : ℕ} {dists : List ℕ} (same : dists ≡ table_distances g P K) (k : ℕ) (some : 1 ≤ k) (few : k < K) (h : e ≤ get_or dists (p * K + k) 0) (reach : e < NONE) where
    t : IsTable g P K (table_ids g P K) dists
    t = record { same_ids = refl; same_dists = same }

    own : Nearer g P p NONE p
    own = record { inside = low; point = mark; less = omega (arith, dist_self ok p) }

    -- the row has no k-th other point
    no_other : length (nearest g P p NONE (suc k)) ≤ k → others_nearer g P p e < k
    no_other m =
        omega (
          arith,
          nearest_length g P p NONE (suc k),
          others_less g P p NONE own,
          nearer_mono g P p e NONE (omega arith),
        )

    -- it has one: of those before it one is p's own
    other : k < length (nearest g P p NONE (suc k)) → others_nearer g P p e < k
    other m =
        let z = get_or (nearest g P p NONE (suc k)) k (0, 0) in
        let n = listed_near ok P p NONE (suc k) z.0 z.1 (member_at (0, 0) (nearest g P p NONE (suc k)) k m) in
        let d = distance_at ok t p (suc k) low few k (omega arith) m in
        elim (ℕ_discrete e 0) [
          | yes w ↦ omega (arith, others_none w)
          | no y ↦
              omega (
                arith,
                n.near.few,
                nearer_before ok P p e (omega arith) (key (z.0, dist g p z.0)) (omega (arith, h, d, n.far)),
                others_less g P p e (record { inside = low; point = mark; less = omega (arith, dist_self ok p) }),
              )
        ]

    pub others_few : others_nearer g P p e < k
    others_few = elim (dec_lt k (length (nearest g P p NONE (suc k)))) [ yes m ↦ other m | no m ↦ no_other (omega arith) ]

-- a point lists a site that is no farther than its k-th other point
pub listed_at_once : {g : Network} → Accepted g → (P : List ℕ) (p q k : ℕ) {K : ℕ} {dists : List ℕ} → dists ≡ table_distances g P K → p < node_count g
    → marked P p ≡ true → 1 ≤ k → k < K → {s : ℕ} → Way g p q s → s ≤ get_or dists (p * K + k) 0 → verified g P p q k ≡ true
listed_at_once {g} ok P p q k same low mark some few w h =
    let u = w.upto in
    (verified_parts g P p q k).1 (
      w.other,
      u.some,
      others_few ok P p (dist g p q) low mark same k some few (omega (arith, u.most)) (omega (arith, u.some, dist_at_most g p q)),
    )
