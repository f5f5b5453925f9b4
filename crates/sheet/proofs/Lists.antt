-- For one nearest, the nodes that a site's list covers are those to which it is as near as any site. So the labels of one expansion from all sites tell
-- which they are.
-- Assumes nothing.
use Prim.Native.Nat.{ℕ, ◌≤◌, ◌<◌}
use mathlib.Core.Path.{◌≡◌, refl, sym, ap, ◌∙◌}
use mathlib.Core.Bool.{true, false, not, ◌&&◌}
use mathlib.Core.Logic.{◌≢◌}
use mathlib.Core.List.{List}
use native.Mathlib.Decide.{ℕ_discrete}
use native.Mathlib.Omega.{arith}
use lib.Dec.{eqb, ltb}
use borrow.Author.Tests.{eq-eqb, ne_eqb, lt-ltb, le-ltb, ltb-true}
use Rattle.network.specs.Network.{Network, node_count}
use Rattle.network.specs.Accepted.{Accepted}
use Rattle.network.specs.Distance.{NONE, dist, dist_from}
use Rattle.network.specs.Count.{weighed}
use Rattle.network.specs.Points.{lockers, marked, is_nearer, count_nearer, is_expanded}
use Rattle.network.specs.Households.{sheet_k, sheet_entry}
use Rattle.network.proofs.NodeArcs.{arc_source}
use Rattle.network.proofs.Counts.{selected, select_passed}
use Rattle.network.proofs.Totals.{total_same, total_more, sum_none}
use Rattle.network.proofs.Rank.{nearer_passes, passes_nearer}
use Rattle.network.proofs.Least.{distance}
use Rattle.network.proofs.Distances.{dist_at_most, dist_symmetric}
use Rattle.network.proofs.Households.{won_length_lem}
use Rattle.network.proofs.DistancesFrom.{from_any, from_nearest}
use Rattle.expansion.proofs.Several.{several_lawful}
use Rattle.sheet.specs.List.{is_nearest, LabelsAlong, CanList, ListLeft}
use Rattle.sheet.specs.Sheet.{site_nodes, CanEnter, EntryLeft}

module _ {g : Network} (ok : Accepted g) (T : List ℕ) where
  abbrev near : ℕ → ℕ
  near v = dist_from g (site_nodes g T) v

  -- a site is no nearer than the nearest; and the nearest is a site
  near_least : (s v : ℕ) → s < node_count g → marked T s ≡ true → near v ≤ dist g v s
  near_least s v h a =
      omega (arith, from_any g (site_nodes g T) s v (selected (marked T) (node_count g) s h a), dist_symmetric ok v s)

  record NearestSite (v : ℕ) : Type 0 where
    site : ℕ
    inside : site < node_count g
    mark : marked T site ≡ true
    is : near v ≡ dist g v site

  near_is : (v : ℕ) → near v ≢ NONE → NearestSite v
  near_is v n =
      let r = from_nearest g (site_nodes g T) v n in
      let p = select_passed (marked T) (node_count g) r.source r.member in
      record { site = r.source; inside = p.0; mark = p.1; is = r.is ∙ dist_symmetric ok r.source v }

  -- no site is nearer to v than e exactly if e is at most the distance of the nearest
  some_nearer : (v e : ℕ) → near v < e → e ≤ NONE → 1 ≤ count_nearer g T v e
  unfolding count_nearer
  some_nearer v e h top =
      let r = near_is v (omega arith) in
      let passes = nearer_passes {g = g} {P = T} {i = v} {e = e} (record { inside = r.inside; point = r.mark; less = omega (arith, r.is) }) in
      omega (
        arith,
        total_more (λ _. 0) (λ x. weighed (is_nearer g T v e x) (lockers T x)) r.site 1 (node_count g) r.inside (λ x l. omega arith)
            (rw passes (omega (arith, ltb-true 0 (lockers T r.site) r.mark))),
      )

  none_nearer : (v e : ℕ) → e ≤ near v → count_nearer g T v e ≡ 0
  unfolding count_nearer
  none_nearer v e h =
      sum_none (is_nearer g T v e) (lockers T) (node_count g)
      (λ x l a. let r = passes_nearer {P = T} l a in absurd (omega (arith, r.less, near_least x v l r.point)))

  module _ (q : ℕ) (inside : q < node_count g) (mark : marked T q ≡ true) where
    -- v is on q's list exactly if q is reached and as near as any site
    on_list : (v : ℕ) → is_expanded g T q sheet_k v ≡ (not (eqb (dist g q v) NONE) && eqb (near v) (dist g q v))
    unfolding is_expanded
    on_list v = ap (λ (d : ℕ). not (eqb d NONE) && ltb (count_nearer g T v d) sheet_k) (dist_symmetric ok v q) ∙ ap (λ b. not (eqb (dist g q v) NONE) && b) same
      where
        same : ltb (count_nearer g T v (dist g q v)) 1 ≡ eqb (near v) (dist g q v)
        same =
            let least = near_least q v inside mark in
            let s = dist_symmetric ok v q in
            elim (ℕ_discrete (near v) (dist g q v)) [
              | yes e ↦
                  lt-ltb (count_nearer g T v (dist g q v)) 1 (omega (arith, none_nearer v (dist g q v) (omega arith)))
                  ∙ sym (eq-eqb (near v) (dist g q v) e)
              | no n ↦
                  le-ltb (count_nearer g T v (dist g q v)) 1 (some_nearer v (dist g q v) (omega arith) (dist_at_most g q v))
                  ∙ sym (ne_eqb (near v) (dist g q v) n)
            ]

-- ---- What a list needs of the labels, and what its length is.
module _ {g : Network} {T xs : List ℕ} {q : ℕ} (c : CanEnter g T xs q) (mark : marked T q ≡ true) where
  labels_along : LabelsAlong g xs q
  labels_along =
      let lawful = several_lawful c.accepted (site_nodes g T) in
      record {
        own = c.labels q c.inside ∙ lawful.zero q (selected (marked T) (node_count g) q c.inside mark);
        along =
            λ {u} {v} r n.
            let a = c.labels u (arc_source r) in
            let b = c.labels v (c.accepted.leads_in r) in
            omega (arith, a, b, (lawful.upto (lawful.along (lawful.attains u (λ z. n (a ∙ z))) r)).most);
        fits =
            λ v h n.
            let a = c.labels v h in
            let r = from_nearest g (site_nodes g T) v (λ z. n (a ∙ z)) in
            omega (arith, a, r.is, (distance c.accepted r.source v).limit (λ z. n (a ∙ r.is ∙ z)));
      }

  pub can_list : CanList g xs q
  can_list = record { accepted = c.accepted; room = c.room; site = c.inside; labels = labels_along; marks = c.marks }

  there : (v : ℕ) → v < node_count g → is_nearest g xs q v ≡ is_expanded g T q sheet_k v
  there v h =
      ap (λ (l : ℕ). not (eqb (dist g q v) NONE) && eqb l (dist g q v)) (c.labels v h) ∙ sym (on_list c.accepted T q c.inside mark v)

  pub entry_there : {H ys : List ℕ} {r : ℕ} → ListLeft g xs ys H q r → EntryLeft g H T xs ys q r
  unfolding sheet_entry
  entry_there {H} l =
      record {
        frame = l.frame;
        marks = l.marks;
        entry =
            rw mark
            (l.summed
            ∙ total_same _ _ (node_count g) (λ v h. ap (λ b. weighed b (lockers H v)) (there v h))
            ∙ won_length_lem g H T q sheet_k);
      }

-- without a site the entry is 0
pub entry_none : {g : Network} {H T xs : List ℕ} {q : ℕ} → CanEnter g T xs q → marked T q ≡ false → EntryLeft g H T xs xs q 0
unfolding sheet_entry
entry_none c no-mark =
    record {
      frame = record { size = refl; words = λ i h. refl };
      marks = λ u h. omega (arith, c.marks u h);
      entry = rw no-mark;
    }
