-- One household. Its j-th nearest site has fewer than j before its distance, and at least j up to it; so its lists are those of the sites that are no farther
-- than the k-th.
-- Assumes nothing.
use Prim.Native.Nat.{ℕ, ◌+◌, ◌-◌, ◌≤◌, ◌<◌, min}
use mathlib.Core.Path.{◌≡◌, sym, ap, ◌∙◌}
use mathlib.Core.Bool.{Bool, true, not}
use mathlib.Core.Logic.{◌≢◌, ◌↔◌, ◌⊎◌, inl, inr}
use mathlib.Core.List.{List, Memᴰ}
use native.Mathlib.Decide.{dec_lt, dec_le}
use native.Mathlib.Omega.{arith}
use lib.Dec.{eqb, ltb}
use lib.ListN.{length, get_or}
use borrow.Author.Tests.{lt-ltb, ltb-true}
use Rattle.network.specs.Network.{Network, node_count}
use Rattle.network.specs.Accepted.{Accepted}
use Rattle.network.specs.Distance.{NONE, dist}
use Rattle.network.specs.Count.{bit, weighed}
use Rattle.network.specs.Points.{lockers, marked, is_nearer, count_nearer, is_expanded}
use Rattle.network.specs.Nearest.{key, nearest}
use Rattle.network.specs.Households.{is_won}
use Rattle.network.proofs.Tests.{alike, and_intro, and_parts}
use Rattle.network.proofs.Counts.{member_at, get_or_either}
use Rattle.network.proofs.Totals.{total_same, weighed_bit}
use Rattle.network.proofs.Distances.{reached_less}
use Rattle.network.proofs.Ordered.{below, at_above, at_below}
use Rattle.network.proofs.Rank.{weighed_there, nearer_farther, before_distance}
use Rattle.network.proofs.Rows.{nearest_length, nearest_ordered, nearest_small, nearest_below, listed_near}
use Rattle.network.proofs.Households.{won_parts, parts_won}
use Rattle.sums.specs.Sums.{added_over, sites_reached, lists_of, site_distance}

module _ (g : Network) (T : List ℕ) (h : ℕ) where
  -- the sites that pass a test, where these are the nearer ones
  nearer_sites : (t : ℕ → Bool) (e : ℕ) → ((s : ℕ) → t s ≡ ltb (dist g h s) e) → added_over g T (λ s. bit (t s)) ≡ count_nearer g T h e
  unfolding added_over count_nearer is_nearer
  nearer_sites t e same =
      total_same _ _ (node_count g)
      (λ s l.
      weighed_bit (t s) (lockers T s)
      ∙ ap (λ b. weighed b (lockers T s)) (same s)
      ∙ weighed_there T s (ltb (dist g h s) e))

  pub all_reached : sites_reached g T h ≡ count_nearer g T h NONE
  unfolding sites_reached
  all_reached = nearer_sites (λ s. not (eqb (dist g h s) NONE)) NONE (λ s. reached_less g h s)

  -- the lists, where e parts the distances with fewer than k sites before them from the others
  lists_nearer : (H : List ℕ) (k e : ℕ) → marked H h ≡ true → e ≤ NONE → ((d : ℕ) → d < e → count_nearer g T h d < k)
      → ((d : ℕ) → e ≤ d → d < NONE → k ≤ count_nearer g T h d) → lists_of g H T k h ≡ count_nearer g T h e
  unfolding lists_of is_expanded
  lists_nearer H k e there most few many =
      nearer_sites (λ s. is_won g H T s k h) e
      (λ s.
      let d = dist g h s in
      alike (is_won g H T s k h) (ltb d e)
      (λ w.
      let p = and_parts (not (eqb d NONE)) _ (won_parts g H T s k h w).1 in
      let less = ltb-true d NONE (sym (reached_less g h s) ∙ p.0) in
      elim (dec_lt d e) [
        | yes l ↦ lt-ltb d e l
        | no n ↦ absurd (omega (arith, many d (omega arith) less, ltb-true (count_nearer g T h d) k p.1))
      ])
      (λ l.
      let near = ltb-true d e l in
      parts_won g H T s k h there
      (and_intro (not (eqb d NONE)) _
      (reached_less g h s ∙ lt-ltb d NONE (omega arith))
      (lt-ltb (count_nearer g T h d) k (few d near)))))

-- what is known of the distance of the j-th nearest site
pub record Place (g : Network) (T : List ℕ) (h j d : ℕ) : Type 0 where
  pub less : d < NONE
  pub few : count_nearer g T h d < j
  pub many : j ≤ count_nearer g T h (d + 1)

module _ {g : Network} (ok : Accepted g) (T : List ℕ) (h : ℕ) where
  -- the last of the j nearest
  module _ (j : ℕ) (some : 1 ≤ j) (enough : j ≤ count_nearer g T h NONE) where
    abbrev near : List (ℕ × ℕ)
    near = nearest g T h NONE j

    abbrev last : ℕ × ℕ
    last = get_or near (j - 1) (0, 0)

    there : j - 1 < length near
    there = omega (arith, nearest_length g T h NONE j)

    own : Memᴰ last near
    own = member_at (0, 0) near (j - 1) there

    -- how many of them are nearer than e
    before_last : (e : ℕ) → e ≤ NONE → below (key (0, e)) near ≡ min j (count_nearer g T h e)
    before_last e most = nearest_below ok T h NONE j (key (0, e)) ∙ ap (min j) (before_distance ok T h e most)

    less : last.1 < NONE
    less = let r = listed_near ok T h NONE j last.0 last.1 own in omega (arith, r.far, r.near.nearer.less)

    few : count_nearer g T h last.1 < j
    few =
        elim (dec_lt (count_nearer g T h last.1) j) [
          | yes l ↦ l
          | no n ↦
              let b = before_last last.1 (omega (arith, less)) in
              absurd (omega (arith, at_above (key (0, last.1)) near (nearest_ordered ok T h NONE j) (j - 1) (omega arith)))
        ]

    many : j ≤ count_nearer g T h (last.1 + 1)
    many =
        elim (dec_le j (count_nearer g T h (last.1 + 1))) [
          | yes l ↦ l
          | no n ↦
              let b = before_last (last.1 + 1) (omega (arith, less)) in
              absurd
              (omega (
                arith,
                at_below (key (0, last.1 + 1)) near (nearest_ordered ok T h NONE j) (j - 1) there (omega arith),
                nearest_small ok T h NONE j last own,
              ))
        ]

    last_distance : site_distance g T h j ≡ last.1
    unfolding site_distance
    last_distance = ap (λ (x : ℕ × ℕ). x.1) (get_or_either (NONE, NONE) (0, 0) near (j - 1) there)

    pub place : Place g T h j (site_distance g T h j)
    place = rw last_distance (record { less = less; few = few; many = many })

  -- the lists, where there are as many sites as k, and where there are fewer
  module _ (H : List ℕ) (k : ℕ) (household : marked H h ≡ true) where
    lists_upto : 1 ≤ k → k ≤ count_nearer g T h NONE → lists_of g H T k h ≡ count_nearer g T h (site_distance g T h k + 1)
    lists_upto some enough =
        let p = place k some enough in
        lists_nearer g T h H k (site_distance g T h k + 1) household (omega (arith, p.less))
        (λ d l. omega (arith, nearer_farther g T h d (site_distance g T h k) (omega arith), p.few))
        (λ d l m. omega (arith, nearer_farther g T h (site_distance g T h k + 1) d l, p.many))

    lists_all : count_nearer g T h NONE < k → lists_of g H T k h ≡ count_nearer g T h NONE
    lists_all fewer =
        lists_nearer g T h H k NONE household (omega arith)
        (λ d l. omega (arith, nearer_farther g T h d NONE (omega arith)))
        (λ d l m. absurd (omega arith))

    pub at_least : min k (sites_reached g T h) ≤ lists_of g H T k h
    at_least =
        rw (all_reached g T h)
        (elim (dec_lt (count_nearer g T h NONE) k) [
          | yes l ↦ omega (arith, lists_all l)
          | no n ↦
              elim (dec_lt 0 k) [
                | yes s ↦ omega (arith, lists_upto s (omega arith), (place k s (omega arith)).many)
                | no z ↦ omega arith
              ]
        ])

    -- where the next is as near as the k-th, it has a list too; where it is not, it is farther, and has none
    next_as_near : 1 ≤ k → k < count_nearer g T h NONE → site_distance g T h k ≡ site_distance g T h (k + 1) → k < lists_of g H T k h
    next_as_near some more e =
        let p = place (k + 1) (omega arith) (omega arith) in
        omega (arith, lists_upto some (omega arith), p.many, ap (λ d. count_nearer g T h (d + 1)) e)

    next_farther : 1 ≤ k → k < count_nearer g T h NONE → site_distance g T h k ≢ site_distance g T h (k + 1) → lists_of g H T k h ≤ k
    next_farther some more n =
        let p = place k some (omega arith) in
        let q = place (k + 1) (omega arith) (omega arith) in
        elim (dec_lt (site_distance g T h k) (site_distance g T h (k + 1))) [
          | yes l ↦
              omega (arith, lists_upto some (omega arith), nearer_farther g T h (site_distance g T h k + 1) (site_distance g T h (k + 1)) (omega arith), q.few)
          | no m ↦
              absurd
              (omega (
                arith,
                nearer_farther g T h (site_distance g T h (k + 1) + 1) (site_distance g T h k) (omega (arith, n)),
                p.few,
                q.many,
              ))
        ]

    pub exactly : 1 ≤ k → (lists_of g H T k h ≡ min k (sites_reached g T h)) ↔ ((sites_reached g T h ≤ k) ⊎ (site_distance g T h k ≢ site_distance g T h (k + 1)))
    exactly some = (to, from)
      where
        to : lists_of g H T k h ≡ min k (sites_reached g T h) → (sites_reached g T h ≤ k) ⊎ (site_distance g T h k ≢ site_distance g T h (k + 1))
        to e =
            elim (dec_le (sites_reached g T h) k) [
              | yes l ↦ inl l
              | no n ↦ inr (λ q. omega (arith, all_reached g T h, next_as_near some (omega (arith, all_reached g T h)) q))
            ]

        -- no more lists than sites
        most : lists_of g H T k h ≤ sites_reached g T h
        most =
            elim (dec_lt (count_nearer g T h NONE) k) [
              | yes l ↦ omega (arith, all_reached g T h, lists_all l)
              | no m ↦
                  let p = place k some (omega arith) in
                  omega (
                    arith,
                    all_reached g T h,
                    lists_upto some (omega arith),
                    nearer_farther g T h (site_distance g T h k + 1) NONE (omega (arith, p.less)),
                  )
            ]

        from : (sites_reached g T h ≤ k) ⊎ (site_distance g T h k ≢ site_distance g T h (k + 1)) → lists_of g H T k h ≡ min k (sites_reached g T h)
        from (inl l) = omega (arith, at_least, most)
        from (inr n) =
            elim (dec_le (sites_reached g T h) k) [
              | yes l ↦ omega (arith, at_least, most)
              | no m ↦ omega (arith, at_least, next_farther some (omega (arith, all_reached g T h)) n)
            ]
