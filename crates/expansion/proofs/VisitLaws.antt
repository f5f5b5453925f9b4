-- Verify counts the other lockers that an expansion from p settles: those at a label below the present one, and those at it. When an entry of
-- label l is taken, every node nearer than l is settled, so the count below l is the rule's count of other lockers nearer than l. The site is a list of
-- nodes S, one or those of a route.
-- Assumes nothing.
use Prim.Native.Nat.{ℕ, suc, ◌+◌, ◌≤◌, ◌<◌}
use mathlib.Core.Path.{◌≡◌, refl, sym, ap, ◌∙◌}
use mathlib.Core.Bool.{Bool, true, false, not, ◌&&◌, ◌||◌, true≢false}
use mathlib.Core.Logic.{◌≢◌, ◌⊎◌, inl, inr, ⊎_elim}
use mathlib.Core.List.{List, Memᴰ}
use native.Mathlib.Decide.{ℕ_discrete, dec_lt, dec_le}
use native.Mathlib.Omega.{arith}
use lib.Dec.{eqb, ltb}
use lib.ListN.{length, get_or}
use borrow.Author.Tests.{eqb-true, ltb-true, lt-ltb, le-ltb, eq-eqb, ne_eqb}
use Rattle.network.specs.Network.{Network, node_count, neighbours_of}
use Rattle.network.specs.Accepted.{Accepted}
use Rattle.network.specs.Distance.{NONE, dist, dist_from}
use Rattle.network.specs.Count.{weighed, sum_over}
use Rattle.network.specs.Points.{lockers, marked, is_nearer, others_at, others_nearer}
use Rattle.network.specs.Routes.{on_route, verified_from}
use Rattle.network.proofs.Counts.{bit_most, select_same}
use Rattle.network.proofs.Totals.{total_same, total_split, total_at, sum_none}
use Rattle.network.proofs.Tests.{bool_cases, and_right}
use Rattle.network.proofs.Distances.{dist_self, dist_zero, dist_symmetric}
use Rattle.network.proofs.DistancesFrom.{from_any, from_nearest}
use Rattle.network.proofs.Rank.{nearer_mono}
use Rattle.network.proofs.Routes.{on_member, on_selected, verified_one}
use Rattle.expansion.specs.declared.verify.Site.{Site}
use Rattle.expansion.specs.declared.verify.Site.TheVariants.{One, Stops}
use Rattle.expansion.specs.declared.verify.Tally.{Tally}
use Rattle.expansion.specs.Area.{LabelAt, Area, Kept, Moved, Blank, Took, Followed}
use Rattle.expansion.specs.Visited.{is_stop, stops_in, is_site, nodes_of_site, SiteInside, verified_at, CameTo, Visited}
use Rattle.expansion.proofs.Search.{frontier}
use Rattle.expansion.proofs.Origins.{one}
use Rattle.expansion.proofs.AreaLaws.{settled_as, others_settle, kept_trans}
use Rattle.expansion.proofs.AreaSearch.{label_back, search_took, search_finished, took_least, took_exact, took_moved, took_waited, took_word, took_area, settle_marks}
use Rattle.expansion.proofs.Progress.{All, all_leads, Progress, took_small}

-- ---- The rule's count.

-- a node without a locker adds nothing, so the distance alone is tested
others_are : (g : Network) (P : List ℕ) (p e : ℕ) → others_nearer g P p e ≡ sum_over (λ x. ltb (dist g p x) e) (others_at P p) (node_count g)
unfolding others_nearer is_nearer
others_are g P p e =
    total_same (λ x. weighed (ltb (dist g p x) e) (others_at P p x)) (λ x. weighed (marked P x && ltb (dist g p x) e) (others_at P p x)) (node_count g)
    (λ x l. elim (dec_lt 0 (lockers P x)) [
      | yes h ↦ rw (lt-ltb 0 (lockers P x) h)
      | no n ↦ none (marked P x && ltb (dist g p x) e) (ltb (dist g p x) e) (others_at P p x) (omega (arith, bit_most (eqb x p)))
    ])
  where
    none : (a b : Bool) (w : ℕ) → w ≡ 0 → weighed a w ≡ weighed b w
    none true true w z = refl
    none true false w z = z
    none false true w z = sym z
    none false false w z = refl

pub nearer_none : (g : Network) (P : List ℕ) (p : ℕ) → others_nearer g P p 0 ≡ 0
nearer_none g P p =
    others_are g P p 0
    ∙ sum_none (λ x. ltb (dist g p x) 0) (others_at P p) (node_count g) (λ x i t. absurd (omega (arith, ltb-true (dist g p x) 0 t)))

-- the rule: the site can't be reached; k other points are nearer; fewer are, and p is not on it; it is
not_reached : (g : Network) (P : List ℕ) (p : ℕ) (S : List ℕ) (k : ℕ) → dist_from g S p ≡ NONE → false ≡ verified_from g P p S k
unfolding verified_from
not_reached g P p S k e = rw (eq-eqb (dist_from g S p) NONE e) (sym (and_right (not (on_route S p)) false refl))

too_many : (g : Network) (P : List ℕ) (p : ℕ) (S : List ℕ) (k : ℕ) → k ≤ others_nearer g P p (dist_from g S p) → false ≡ verified_from g P p S k
unfolding verified_from
too_many g P p S k h =
    sym
    (and_right (not (on_route S p)) _
    (and_right (not (eqb (dist_from g S p) NONE)) (ltb (others_nearer g P p (dist_from g S p)) k) (le-ltb (others_nearer g P p (dist_from g S p)) k h)))

few_enough : (g : Network) (P : List ℕ) (p : ℕ) (S : List ℕ) (k : ℕ) → on_route S p ≡ false → dist_from g S p ≢ NONE → others_nearer g P p (dist_from g S p) < k → true ≡ verified_from g P p S k
unfolding verified_from
few_enough g P p S k m n h = rw (m, ne_eqb (dist_from g S p) NONE n, lt-ltb (others_nearer g P p (dist_from g S p)) k h)

on_site : (g : Network) (P : List ℕ) (p : ℕ) (S : List ℕ) (k : ℕ) → on_route S p ≡ true → false ≡ verified_from g P p S k
unfolding verified_from
on_site g P p S k e = rw e

-- ---- The nodes of the site.

-- what the code tests is whether a node is one of them
pub site_member : (g : Network) (xs : List ℕ) (site : Site) (v : ℕ) → v < node_count g → is_site xs site v ≡ on_route (nodes_of_site (node_count g) xs site) v
unfolding on_route stops_in
site_member g xs (One q) v h = sym (or_none (eqb v q))
  where
    or_none : (b : Bool) → (b || false) ≡ b
    or_none true = refl
    or_none false = refl
site_member g xs Stops v h = sym (on_selected (is_stop xs) (node_count g) v ∙ ap (λ b. b && is_stop xs v) (lt-ltb v (node_count g) h))

-- the same word, the same answer; the words before the area stay, and so do they
pub stop_same : (xs ys : List ℕ) (v : ℕ) → get_or ys v 0 ≡ get_or xs v 0 → is_stop ys v ≡ is_stop xs v
stop_same xs ys v e = ap (λ (w : ℕ). eqb w 2) e

pub site_kept : {n b : ℕ} {xs ys : List ℕ} (site : Site) (v : ℕ) → SiteInside n b site → v < n → Kept xs ys b → is_site ys site v ≡ is_site xs site v
site_kept (One q) v i h k = refl
site_kept {xs = xs} {ys = ys} Stops v i h k = stop_same xs ys v (k.words v (omega arith))

pub stops_same : (n : ℕ) (xs ys : List ℕ) → ((v : ℕ) → v < n → is_stop ys v ≡ is_stop xs v) → stops_in n ys ≡ stops_in n xs
unfolding stops_in
stops_same n xs ys same = select_same (is_stop ys) (is_stop xs) n same

-- the rule with their distance is what verify answers
site_verified : {g : Network} → Accepted g → (P xs : List ℕ) (p : ℕ) (site : Site) (k : ℕ)
    → verified_from g P p (nodes_of_site (node_count g) xs site) k ≡ verified_at g P xs p site k
site_verified ok P xs p (One q) k = verified_one ok P p q k
site_verified ok P xs p Stops k = refl

-- the same of the nodes as they are after words that keep those before the area
pub site_answer : {g : Network} → Accepted g → (P : List ℕ) (p : ℕ) (site : Site) (k : ℕ) {b : ℕ} {xs ys : List ℕ} → SiteInside (node_count g) b site → Kept xs ys b
    → verified_from g P p (nodes_of_site (node_count g) ys site) k ≡ verified_at g P xs p site k
site_answer {g} ok P p (One q) k {xs = xs} i h = site_verified ok P xs p (One q) k
site_answer {g} ok P p Stops k {xs = xs} {ys = ys} i h =
    ap (λ (S : List ℕ). verified_from g P p S k) (stops_same (node_count g) xs ys (λ v l. site_kept Stops v i l h)) ∙ site_verified ok P xs p Stops k

-- whether the code says that a node is one of the site's
told : (g : Network) (site : Site) (v : ℕ) {b : ℕ} {xs ys : List ℕ} {here : Bool} → SiteInside (node_count g) b site → v < node_count g → Kept xs ys b → here ≡ is_site ys site v
    → here ≡ on_route (nodes_of_site (node_count g) xs site) v
told g site v {xs = xs} inside h kept e = e ∙ site_kept site v inside h kept ∙ site_member g xs site v h

-- ---- The count under way.

-- a node that is settled at label l
abbrev pub at_level : ℕ → List ℕ → ℕ → ℕ → ℕ → Bool
at_level n xs b l x = eqb (get_or xs (b + x) 0) (suc (n + l))

-- The expansion has come to label l. Every node nearer than l is settled, at no more than l; no node of the site is.
pub record Counted (g : Network) (P : List ℕ) (p : ℕ) (S xs : List ℕ) (b l below level : ℕ) : Type 0 where
  pub before : (x : ℕ) → x < node_count g → dist g p x < l → node_count g < get_or xs (b + x) 0
  pub low : (x m : ℕ) → LabelAt (node_count g) xs b x m → m ≤ l
  pub nearer : below ≡ others_nearer g P p l
  pub here : level ≡ sum_over (at_level (node_count g) xs b l) (others_at P p) (node_count g)
  pub new : (x : ℕ) → x < node_count g → Memᴰ x S → get_or xs (b + x) 0 ≤ node_count g

-- the words of nodes that are not settled move, and no level changes
level_moved : {n : ℕ} {xs ys : List ℕ} {b : ℕ} (l : ℕ) → Moved n xs ys b → (x : ℕ) → x < n → eqb (get_or ys (b + x) 0) (suc (n + l)) ≡ eqb (get_or xs (b + x) 0) (suc (n + l))
level_moved {n} {xs} {ys} {b} l m x h =
    elim (dec_le (get_or xs (b + x) 0) n) [
      | yes k ↦
          ne_eqb (get_or ys (b + x) 0) (suc (n + l)) (λ e. absurd (omega (arith, m.others x h k)))
          ∙ sym (ne_eqb (get_or xs (b + x) 0) (suc (n + l)) (λ e. absurd (omega arith)))
      | no k ↦ ap (λ (w : ℕ). eqb w (suc (n + l))) (m.settled x h (omega arith))
    ]

-- the tally counts as many when the expansion comes to a label
pub came_sum : {t r : Tally} {l : ℕ} → CameTo t l r → r.below + r.level ≡ t.below + t.level
came_sum {t} {r} {l} c =
    elim (dec_lt t.label l) [
      | yes h ↦ omega (arith, c.below h, c.level h)
      | no n ↦ rw (c.same (omega arith))
    ]

-- nothing is settled yet
pub counted_start : (g : Network) (P : List ℕ) (p : ℕ) (S : List ℕ) {xs ys : List ℕ} {b : ℕ} → Blank xs b → Moved (node_count g) xs ys b
    → Counted g P p S ys b 0 0 0
counted_start g P p S {xs} {ys} {b} blank t =
    record {
      before = λ x h e. absurd (omega arith);
      low = λ x m h. absurd (omega (arith, h.is, blank_word x h.inside));
      nearer = sym (nearer_none g P p);
      here =
          sym
          (sum_none (at_level (node_count g) ys b 0) (others_at P p) (node_count g)
          (λ x h e. absurd (omega (arith, eqb-true (get_or ys (b + x) 0) (suc (node_count g + 0)) e, blank_word x h))));
      new = λ x h m. blank_word x h;
    }
  where
    blank_word : (x : ℕ) → x < node_count g → get_or ys (b + x) 0 ≤ node_count g
    blank_word x h = t.others x h (omega (arith, blank.zero (b + x) (omega arith)))

-- the queue alone changes
counted_same : {g : Network} {P : List ℕ} {p : ℕ} {S xs ys : List ℕ} {b l below level : ℕ} → Moved (node_count g) xs ys b
    → Counted g P p S xs b l below level → Counted g P p S ys b l below level
counted_same {g} {P} {p} {S} {xs} {ys} {b} {l} same c =
    record {
      before = λ x h e. let k = c.before x h e in omega (arith, same.settled x h k);
      low = λ x m h. c.low x m (label_back same x m h);
      nearer = c.nearer;
      here =
          c.here
          ∙ sym
          (total_same (λ x. weighed (at_level (node_count g) xs b l x) (others_at P p x)) (λ x. weighed (at_level (node_count g) ys b l x) (others_at P p x)) (node_count g)
          (λ x h. ap (λ (w : Bool). weighed w (others_at P p x)) (level_moved l same x h)));
      new = λ x h m. same.others x h (c.new x h m);
    }

-- An entry of label l is taken, of node v.
module _ {g : Network} (ok : Accepted g) {p : ℕ} {xs ys : List ℕ} {b settled len left l v u : ℕ} (e : Progress g (one g p) All All xs b settled len)
    (t : Took (node_count g) xs ys b len left l v u) where
  -- its label is the distance, and every node that is nearer is settled
  pub taken_exact : l ≡ dist g p v
  taken_exact = took_exact ok e.area e.searched t (all_leads ok p) tt

  pub taken_small : l < NONE
  taken_small = omega (arith, took_small ok e t)

  pub nearer_settled : (x : ℕ) → dist g p x < l → LabelAt (node_count g) ys b x (dist g p x)
  nearer_settled x h =
      ⊎_elim
      (λ a. a)
      (λ a. absurd (omega (arith, a.low, took_least ok e.area e.searched t a.node a.label a.held)))
      (frontier ok (all_leads ok p) (search_took ok e.area e.searched t) x tt (λ z. omega (arith, taken_small)))

  pub labels_exact : (x m : ℕ) → LabelAt (node_count g) ys b x m → m ≡ dist g p x
  labels_exact x m h = e.searched.exact x m (label_back (took_moved ok e.area e.searched t) x m h) tt

  module _ {P S : List ℕ} {at below level : ℕ} (c : Counted g P p S xs b at below level) where
    pub taken_high : at ≤ l
    taken_high =
        elim (dec_lt l at) [
          | yes h ↦ absurd (omega (arith, c.before v t.inside (omega (arith, taken_exact)), took_waited ok e.area e.searched t))
          | no n ↦ omega arith
        ]

    same_queue : Counted g P p S ys b at below level
    same_queue = counted_same (took_moved ok e.area e.searched t) c

    -- above the present label, a node is nearer than l where it is nearer than the present label, or settled at it
    split : at < l → (x w : ℕ) → x < node_count g → weighed (ltb (dist g p x) l) w ≡ weighed (ltb (dist g p x) at) w + weighed (eqb (get_or ys (b + x) 0) (suc (node_count g + at))) w
    split h x w i =
        elim (dec_lt (dist g p x) at) [
          | yes k ↦
              let u = nearer_settled x (omega arith) in
              rw (lt-ltb (dist g p x) l (omega arith), lt-ltb (dist g p x) at k, ne_eqb (get_or ys (b + x) 0) (suc (node_count g + at)) (λ z. omega (arith, u.is))) (omega arith)
          | no k ↦
              elim (ℕ_discrete (get_or ys (b + x) 0) (suc (node_count g + at))) [
                | yes z ↦
                    let d = labels_exact x at (record { inside = i; is = z }) in
                    rw (lt-ltb (dist g p x) l (omega arith), le-ltb (dist g p x) at (omega arith), eq-eqb (get_or ys (b + x) 0) (suc (node_count g + at)) z) (omega arith)
                | no z ↦
                    rw (le-ltb (dist g p x) l (far k z), le-ltb (dist g p x) at (omega arith), ne_eqb (get_or ys (b + x) 0) (suc (node_count g + at)) z)
              ]
        ]
      where
        far : (dist g p x < at → ⊥) → get_or ys (b + x) 0 ≢ suc (node_count g + at) → l ≤ dist g p x
        far k z =
            elim (dec_lt (dist g p x) l) [
              | yes y ↦
                  let w = nearer_settled x y in
                  absurd (z (omega (arith, w.is, same_queue.low x (dist g p x) w)))
              | no y ↦ omega arith
            ]

    nearer_risen : at < l → others_nearer g P p l ≡ below + level
    nearer_risen h =
        omega (
          arith,
          same_queue.nearer,
          same_queue.here,
          others_are g P p l,
          others_are g P p at,
          total_split (λ x. weighed (ltb (dist g p x) l) (others_at P p x)) (λ x. weighed (ltb (dist g p x) at) (others_at P p x))
              (λ x. weighed (at_level (node_count g) ys b at x) (others_at P p x)) (node_count g) (λ x i. split h x (others_at P p x) i),
        )

    risen : at < l → Counted g P p S ys b l (below + level) 0
    risen h =
        record {
          before = λ x i k. omega (arith, (nearer_settled x k).is);
          low = λ x m k. omega (arith, same_queue.low x m k);
          nearer = sym (nearer_risen h);
          here =
              sym
              (sum_none (at_level (node_count g) ys b l) (others_at P p) (node_count g)
              (λ x i e. absurd (omega (arith, h, same_queue.low x l (record { inside = i; is = eqb-true (get_or ys (b + x) 0) (suc (node_count g + l)) e })))));
          new = same_queue.new;
        }

  -- the tally when the expansion has come to l
  module _ {P S : List ℕ} {y z : Tally} (c : Counted g P p S xs b y.label y.below y.level) (r : CameTo y l z) where
    pub came_label : z.label ≡ l
    came_label =
        elim (dec_lt y.label l) [
          | yes h ↦ r.label h
          | no n ↦ let q : l ≡ y.label = omega (arith, taken_high c) in rw (r.same (omega arith)) (sym q)
        ]

    pub came : Counted g P p S ys b l z.below z.level
    came =
        elim (dec_lt y.label l) [
          | yes h ↦ rw (r.below h, r.level h) (risen c h)
          | no n ↦
              let q : y.label ≡ l = omega (arith, taken_high c) in
              rw (r.same (omega arith)) (rw q at (same_queue c))
        ]

  -- the entry's node is settled at l, and its arcs are followed
  module _ {P S : List ℕ} {below level : ℕ} (other : Memᴰ v S → ⊥) (c : Counted g P p S ys b l below level) {ws : List ℕ} {more : ℕ}
      (f : Followed g (settled_as (node_count g) ys b settled v l) ws b left more v l (length (neighbours_of g v))) where
    area : Area (node_count g) ys b settled left
    area = took_area ok e.area e.searched t

    new : get_or ys (b + v) 0 ≡ 0
    new = took_word ok e.area e.searched t

    word_v : get_or ws (b + v) 0 ≡ suc (node_count g + l)
    word_v = (settle_marks ok area l t.inside new f.frame).here.is

    others : (x : ℕ) → x < node_count g → x ≢ v → get_or (settled_as (node_count g) ys b settled v l) (b + x) 0 ≡ get_or ys (b + x) 0
    others = others_settle area v l t.inside new

    level_settled : sum_over (at_level (node_count g) ws b l) (others_at P p) (node_count g) ≡ level + others_at P p v
    level_settled =
        let z =
        total_at (λ x. weighed (at_level (node_count g) ys b l x) (others_at P p x)) (λ x. weighed (at_level (node_count g) ws b l x) (others_at P p x)) v (node_count g) t.inside
        (λ x h n.
        ap (λ (w : Bool). weighed w (others_at P p x))
        (level_moved l f.frame x h ∙ ap (λ (w : ℕ). eqb w (suc (node_count g + l))) (others x h n))) in
        let was : weighed (at_level (node_count g) ys b l v) (others_at P p v) ≡ 0 = rw (ne_eqb (get_or ys (b + v) 0) (suc (node_count g + l)) (λ k. omega (arith, new))) in
        let is : weighed (at_level (node_count g) ws b l v) (others_at P p v) ≡ others_at P p v = rw (eq-eqb (get_or ws (b + v) 0) (suc (node_count g + l)) word_v) in
        omega (arith, z, was, is, c.here)

    pub counted_settled : Counted g P p S ws b l below (level + others_at P p v)
    counted_settled =
        record {
          before =
              λ x h k.
              elim (ℕ_discrete x v) [
                | yes y ↦ omega (arith, word_v, ap (λ (m : ℕ). get_or ws (b + m) 0) y)
                | no n ↦ let d = c.before x h k in omega (arith, others x h n, f.frame.settled x h (omega (arith, others x h n)))
              ];
          low =
              λ x m h.
              elim (ℕ_discrete x v) [
                | yes y ↦ omega (arith, word_v, ap (λ (m : ℕ). get_or ws (b + m) 0) y, h.is)
                | no n ↦ c.low x m (record { inside = h.inside; is = sym (others x h.inside n) ∙ (label_back f.frame x m h).is })
              ];
          nearer = c.nearer;
          here = sym level_settled;
          new = λ x h m. f.frame.others x h (omega (arith, others x h (λ y. other (rw y at m)), c.new x h m));
        }

  -- ---- The answer.
  module _ {P S : List ℕ} {below level : ℕ} (k : ℕ) (c : Counted g P p S ys b l below level) where
    -- no node of the site is nearer than l
    site_far : l ≤ dist_from g S p
    site_far =
        elim (dec_lt (dist_from g S p) l) [
          | yes h ↦
              let r = from_nearest g S p (λ z. omega (arith, taken_small)) in
              let d = nearer_settled r.source (omega (arith, r.is, dist_symmetric ok p r.source)) in
              absurd (omega (arith, d.is, c.new r.source d.inside r.member))
          | no n ↦ omega arith
        ]

    -- so where one is taken, l is its distance
    site_taken : Memᴰ v S → l ≡ dist_from g S p
    site_taken m = omega (arith, site_far, from_any g S v p m, dist_symmetric ok p v, taken_exact)

    -- behind label 0 p is settled, and so not on the site
    off_site : 0 < l → on_route S p ≡ false
    off_site h =
        let d = nearer_settled p (omega (arith, dist_self ok p)) in
        ⊎_elim
        (λ e. absurd (omega (arith, d.is, c.new p d.inside ((on_member S p).0 e))))
        (λ e. e)
        (bool_cases (on_route S p))

    -- k other points are nearer than l, and so nearer than the site; or it is taken, and fewer are
    answer_many : k ≤ below → false ≡ verified_from g P p S k
    answer_many h = too_many g P p S k (omega (arith, c.nearer, nearer_mono g P p l (dist_from g S p) site_far))

    answer_few : 0 < l → Memᴰ v S → below < k → true ≡ verified_from g P p S k
    answer_few low m h =
        let d = site_taken m in
        few_enough g P p S k (off_site low) (λ z. omega (arith, taken_small)) (omega (arith, c.nearer, ap (others_nearer g P p) d))

    pub answer_taken : 0 < l → (k ≤ below) ⊎ Memᴰ v S → ltb below k ≡ verified_from g P p S k
    answer_taken low known =
        elim (dec_lt below k) [
          | yes h ↦ lt-ltb below k h ∙ ⊎_elim (λ y. absurd (omega arith)) (λ y. answer_few low y h) known
          | no m ↦ le-ltb below k (omega arith) ∙ answer_many (omega arith)
        ]

    -- the first node, p itself, ends it
    pub answer_first : l ≡ 0 → (k ≤ below) ⊎ Memᴰ v S → false ≡ verified_from g P p S k
    answer_first z known =
        ⊎_elim
        answer_many
        (λ m. on_site g P p S k ((on_member S p).1 (rw (dist_zero ok p v (omega (arith, taken_exact))) m)))
        known

    -- as the code tests it
    answer_at : (k ≤ below) ⊎ Memᴰ v S → (ltb 0 l && ltb below k) ≡ verified_from g P p S k
    answer_at known =
        elim (dec_lt 0 l) [
          | yes h ↦ rw (lt-ltb 0 l h) (answer_taken h known)
          | no n ↦ rw (le-ltb 0 l (omega arith)) (answer_first (omega arith) known)
        ]

  -- ---- The expansion has come to l, and the code has tested whether v is one of the site's nodes.
  module _ {P ws : List ℕ} (site : Site) {y z : Tally} {here : Bool} (inside : SiteInside (node_count g) b site) (kept : Kept ws xs b)
      (c : Counted g P p (nodes_of_site (node_count g) ws site) xs b y.label y.below y.level) (r : CameTo y l z) (said : here ≡ is_site ys site v) where
    frame : Kept ws ys b
    frame = kept_trans kept (record { size = t.popped.frame.size; words = t.popped.frame.before })

    on : here ≡ on_route (nodes_of_site (node_count g) ws site) v
    on = told g site v inside t.inside frame said

    -- it ends here
    pub visit_ends : {yes : Bool} (k : ℕ) → (k ≤ z.below) ⊎ (here ≡ true) → yes ≡ (ltb 0 l && ltb z.below k)
        → Visited g P p site k ws ys b (record { yes = yes; settled = settled; len = left })
    visit_ends k known is =
        record {
          answer =
              is
              ∙ answer_at k (came c r) (⊎_elim (λ h. inl h) (λ h. inr ((on_member (nodes_of_site (node_count g) ws site) v).0 (sym on ∙ h))) known)
              ∙ site_verified ok P ws p site k;
          frame = frame;
          area = took_area ok e.area e.searched t;
          exact = labels_exact;
        }

    -- it goes on: v is settled, and the arcs of its node are followed
    pub visit_counts : {us : List ℕ} {more r : ℕ} → here ≡ false
        → Followed g (settled_as (node_count g) ys b settled v l) us b left more v l (length (neighbours_of g v)) → r ≡ others_at P p v
        → Counted g P p (nodes_of_site (node_count g) ws site) us b z.label z.below (z.level + r)
    visit_counts off f count =
        rw (came_label c r, count)
        (counted_settled (λ m. true≢false (sym ((on_member (nodes_of_site (node_count g) ws site) v).1 m) ∙ sym on ∙ off)) (came c r) f)

-- no entry is left: the site can't be reached
pub answer_none : {g : Network} (ok : Accepted g) {P : List ℕ} {p : ℕ} {S xs : List ℕ} {b settled len l below level : ℕ} (k : ℕ)
    → Progress g (one g p) All All xs b settled len → len ≡ 0 → Counted g P p S xs b l below level → false ≡ verified_from g P p S k
answer_none {g} ok {P} {p} {S} k e t c =
    not_reached g P p S k
    (elim (ℕ_discrete (dist_from g S p) NONE) [
      | yes z ↦ z
      | no n ↦
          let r = from_nearest g S p n in
          let d = search_finished ok e.area e.searched t (all_leads ok p) r.source tt (omega (arith, r.is, dist_symmetric ok p r.source)) in
          absurd (omega (arith, d.is, c.new r.source d.inside r.member))
    ])

pub visit_none : {g : Network} (ok : Accepted g) {P : List ℕ} {p : ℕ} {site : Site} {ws xs : List ℕ} {b settled len l below level : ℕ} (k : ℕ)
    → Kept ws xs b → Progress g (one g p) All All xs b settled len → Counted g P p (nodes_of_site (node_count g) ws site) xs b l below level → len ≡ 0
    → Visited g P p site k ws xs b (record { yes = false; settled = settled; len = 0 })
visit_none ok {P} {p} {site} {ws} k kept e c none =
    record {
      answer = answer_none ok k e none c ∙ site_verified ok P ws p site k;
      frame = kept;
      area = rw none at e.area;
      exact = λ v m h. e.searched.exact v m h tt;
    }
