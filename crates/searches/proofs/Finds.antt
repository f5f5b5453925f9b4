-- Where a search finds the points that its origin receives, a site or the nodes of a route: it follows the arcs of the unbeaten nodes, and looks at the marks
-- that are nearer than the nearest source to each node that it comes to.
-- Assumes nothing.
use Prim.Native.Nat.{ℕ, zero, suc, ◌+◌, ◌≤◌, ◌<◌}
use mathlib.Core.Path.{◌≡◌, ap}
use mathlib.Core.Bool.{true}
use mathlib.Core.Logic.{◌≢◌, ◌⊎◌, inl, inr}
use mathlib.Core.List.{List}
use native.Mathlib.Decide.{dec_lt}
use native.Mathlib.Omega.{arith}
use Rattle.network.specs.Network.{Network}
use Rattle.network.specs.Accepted.{Accepted}
use Rattle.network.specs.Distance.{NONE, dist}
use Rattle.network.specs.Points.{marked, count_nearer, others_nearer, is_listed}
use Rattle.network.specs.Order.{Nearer}
use Rattle.network.proofs.Distances.{dist_self, dist_symmetric, dist_triangle, dist_arc}
use Rattle.network.proofs.Rank.{count_nearer_mono, others_nearly, others_part}
use Rattle.expansion.proofs.Origins.{Origin, Last, Lawful, one, far_through}
use Rattle.expansion.proofs.Search.{Through, Leads}
use Rattle.searches.proofs.Beaten.{Beaten, Unbeaten, dec_beaten, unbeaten_closed, source_unbeaten}
use Rattle.searches.proofs.Listed.{listed_parts}

-- what the origin receives: a point that is no source and can be reached, and fewer than k others are nearer to it than its nearest source
pub record Receives (g : Network) (P : List ℕ) (o : Origin) (k p : ℕ) : Type 0 where
  pub mark : marked P p ≡ true
  pub other : o.Source p → ⊥
  pub reach : o.far p ≢ NONE
  pub few : others_nearer g P p (o.far p) < k

-- a site receives what it lists
pub site_receives : {g : Network} → Accepted g → (P : List ℕ) (q k p : ℕ) → is_listed g P q k p ≡ true → Receives g P (one g q) k p
site_receives {g} ok P q k p e =
    let h = (listed_parts g P q k p).0 e in
    let s = dist_symmetric ok q p in
    record { mark = h.mark; other = h.other; reach = omega (arith, s, h.reach); few = omega (arith, h.few, ap (others_nearer g P p) s) }

-- an arc from an unbeaten node, on a shortest way from a source
pub record BehindUnbeaten (g : Network) (P : List ℕ) (o : Origin) (k c : ℕ) : Type 0 where
  pub last : Last g o c
  pub unbeaten : Unbeaten g P o k last.from

-- what a search comes to that follows the arcs of the unbeaten nodes
abbrev pub Met : Network → List ℕ → Origin → ℕ → ℕ → Type 0
Met g P o k c = Unbeaten g P o k c ⊎ BehindUnbeaten g P o k c

pub met_leads : {g : Network} → Accepted g → {o : Origin} → Lawful g o → (P : List ℕ) (k : ℕ) → 1 ≤ k → Leads g o (Unbeaten g P o k) (Met g P o k)
met_leads {g} ok {o} lawful P k some =
    record { start = λ v s m. source_unbeaten ok lawful P k some v s; through = λ v m ne n. by v m (lawful.previous v ne n) }
  where
    by : (v : ℕ) → Met g P o k v → Last g o v → Through g o (Unbeaten g P o k) (Met g P o k) v
    by v (inl n) p =
        let h = (unbeaten_closed ok lawful P k).before p.from v p.weight n p.arc p.sum p.reach in
        record { last = p; is_open = h; is_seen = inl h }
    by v (inr b) p = record { last = b.last; is_open = b.unbeaten; is_seen = inl b.unbeaten }

-- a node from which p is found: it is unbeaten or behind one that is, p is nearer to it than its nearest source, and at most k marks are
pub record Finds (g : Network) (P : List ℕ) (o : Origin) (k p : ℕ) : Type 0 where
  pub node : ℕ
  pub reach : o.far node ≢ NONE
  pub met : Met g P o k node
  pub nearer : dist g node p < o.far node
  pub few : count_nearer g P node (o.far node) ≤ k

-- node c is on a shortest way from a source to p
record On (g : Network) (o : Origin) (p c : ℕ) : Type 0 where
  reach : o.far c ≢ NONE
  rest : dist g c p ≢ NONE
  sum : o.far p ≡ o.far c + dist g c p

module _ {g : Network} (ok : Accepted g) {o : Origin} (lawful : Lawful g o) (P : List ℕ) (k p : ℕ) (h : Receives g P o k p) where
  -- what is nearer to such a node than its source is nearer to p than its own
  nearer_too : (c x : ℕ) → On g o p c → dist g c x < o.far c → dist g p x < o.far p
  nearer_too c x r l =
      let a = dist_symmetric ok p c in
      let t = dist_triangle ok p c x (omega (arith, r.rest)) (omega (arith, lawful.most c)) in
      omega (arith, t.most, r.sum)

  nearer_there : (c x : ℕ) → On g o p c → Nearer g P c (o.far c) x → Nearer g P p (o.far p) x
  nearer_there c x r a = record { inside = a.inside; point = a.point; less = nearer_too c x r a.less }

  -- so at most k lockers are nearer to it than its source
  few_nearer : (c : ℕ) → On g o p c → count_nearer g P c (o.far c) ≤ k
  few_nearer c r =
      omega (
        arith,
        h.few,
        others_nearly g P p (o.far p),
        count_nearer_mono g P c p (o.far c) (o.far p) (λ x a. nearer_there c x r a),
      )

  -- and where it is beaten, p is among them
  among : (c : ℕ) → On g o p c → Beaten g P o k c → dist g c p < o.far c
  among c r b =
      elim (dec_lt (dist g c p) (o.far c)) [
        | yes l ↦ l
        | no n ↦
            absurd
            (omega (
              arith,
              h.few,
              others_part g P p (o.far p) P c (o.far c)
                  (λ x a. (λ e. n (rw e at a.less), omega arith, nearer_there c x r a)),
            ))
      ]

  -- the first beaten node on a way to a beaten node
  previous_on : (c : ℕ) → On g o p c → (u : Last g o c) → On g o p u.from
  previous_on c r u =
      let a = dist_arc ok p u.arc r.rest in
      let t = far_through ok lawful u.from p u.reach a.some in
      record { reach = u.reach; rest = a.some; sum = omega (arith, a.most, t.most, r.sum, u.sum) }

  back_from : (b c : ℕ) → o.far c < b → On g o p c → Beaten g P o k c → Finds g P o k p
  back_from zero c l r h = absurd (omega arith)
  back_from (suc b) c l r y =
      elim (lawful.is_source c) [
        | yes s ↦ absurd (source_unbeaten ok lawful P k (omega (arith, h.few)) c s y)
        | no ne ↦ go (λ u. back_from b u) (lawful.previous c ne r.reach)
      ]
    where
      go : ((u : ℕ) → o.far u < b → On g o p u → Beaten g P o k u → Finds g P o k p) → Last g o c → Finds g P o k p
      go ih u =
          elim (dec_beaten g P o k u.from) [
            | yes z ↦ ih u.from (omega (arith, u.sum, ok.weight_low u.arc)) (previous_on c r u) z
            | no n ↦
                record { node = c; reach = r.reach; met = inr (record { last = u; unbeaten = n }); nearer = among c r y; few = few_nearer c r }
          ]

  -- p itself, where it is unbeaten
  itself : Unbeaten g P o k p → Finds g P o k p
  itself n =
      let r = lawful.previous p h.other h.reach in
      let z = dist_self ok p in
      record { node = p; reach = h.reach; met = inl n; nearer = omega (arith, r.sum, ok.weight_low r.arc); few = omega arith }

  pub eager_finds : Finds g P o k p
  eager_finds =
      elim (dec_beaten g P o k p) [
        | yes b ↦ back_from (suc (o.far p)) p (omega arith) (record { reach = h.reach; rest = omega (arith, dist_self ok p); sum = omega (arith, dist_self ok p) }) b
        | no n ↦ itself n
      ]
