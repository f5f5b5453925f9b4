-- The arcs of a node: as a relation, as a list of pairs, and as parts of the two arrays.
-- Assumes nothing.
use Prim.Native.Nat.{ℕ, zero, suc, ◌+◌, ◌-◌, ◌≤◌, ◌<◌}
use mathlib.Core.Path.{◌≡◌, sym, ap, ◌∙◌}
use mathlib.Core.Logic.{◌↔◌, ⊎_elim}
use mathlib.Core.List.Memᴰ
use mathlib.Core.List.{List, Memᴰ}
use native.Mathlib.Nat.{eq-or-lt_of_le}
use native.Mathlib.Decide.{dec_lt}
use native.Mathlib.Omega.{arith}
use lib.ListN.{length, get_or, get_or-eq_default}
use borrow.Rule.Slice.PartMut.{mid_len}
use Rattle.network.specs.Network.{Network, Arc, node_count, start_of, target, weight_of, arcs_from, arcs_of, part_of}
use Rattle.network.specs.Parts.{HasPart}
use Rattle.network.proofs.Lends.{mid_at}

-- only a node has arcs: past the last start there is 0
pub arc_source : {g : Network} {a b w : ℕ} → Arc g a b w → a < node_count g
arc_source {g} {a} r =
    elim (dec_lt a (node_count g)) [
      | yes l ↦ l
      | no n ↦ absurd (omega (arith, r.below, get_or-eq_default g.starts 0 {n = suc a} (omega arith)))
    ]

-- The relation and the list agree. Of the list: every index of the range gives a member, and every member has an index.
arcs_have : (g : Network) (e k i : ℕ) → e ≤ i → i < e + k → Memᴰ (target g i, weight_of g i) (arcs_from g e k)
unfolding arcs_from
arcs_have g e zero i h l = absurd (omega arith)
arcs_have g e (suc k) i h l =
    ⊎_elim
    (λ (q : e ≡ i). Memᴰ.head (ap (λ (x : ℕ). (target g x, weight_of g x)) (sym q)))
    (λ (q : e < i). Memᴰ.tail (arcs_have g (suc e) k i q (omega arith)))
    (eq-or-lt_of_le h)

arcs_from_lem : (g : Network) (e k b w : ℕ) → Memᴰ (b, w) (arcs_from g e k) → (i : ℕ) × (e ≤ i) × (i < e + k) × (target g i ≡ b) × (weight_of g i ≡ w)
unfolding arcs_from
arcs_from_lem g e zero b w m = absurd (Memᴰ.not-nil m)
arcs_from_lem g e (suc k) b w m =
    ⊎_elim
    (λ q. (e, omega arith, omega arith, ap (λ (x : ℕ × ℕ). x.0) (sym q), ap (λ (x : ℕ × ℕ). x.1) (sym q)))
    (λ t. let r = arcs_from_lem g (suc e) k b w t in (r.0, omega arith, omega arith, r.3, r.4))
    (Memᴰ.cases_cons m)

pub arc_listed : {g : Network} {a b w : ℕ} → Arc g a b w → Memᴰ (b, w) (arcs_of g a)
unfolding arcs_of
arc_listed {g} {a} r = rw (← r.leads, ← r.weighs) (arcs_have g (start_of g a) (start_of g (suc a) - start_of g a) r.index r.from (omega arith))

pub listed_arc : {g : Network} {a b w : ℕ} → Memᴰ (b, w) (arcs_of g a) → Arc g a b w
unfolding arcs_of
listed_arc {g} {a} {b} {w} m =
    let r = arcs_from_lem g (start_of g a) (start_of g (suc a) - start_of g a) b w m in
    record { index = r.0; from = r.1; below = omega arith; leads = r.3; weighs = r.4 }

pub arcs_agree : {g : Network} {a b w : ℕ} → Arc g a b w ↔ Memᴰ (b, w) (arcs_of g a)
arcs_agree = (λ r. arc_listed r, λ m. listed_arc m)

-- Node i's part of an array. The entry at place j is that of arc starts[i] + j.
pub part_length : {starts entries : List ℕ} {i : ℕ} → HasPart starts entries i → length (part_of starts entries i) ≡ get_or starts (i + 1) 0 - get_or starts i 0
unfolding part_of
part_length {starts} {entries} {i} h = mid_len (get_or starts i 0) (get_or starts (i + 1) 0) entries h.within

pub part_at : (starts entries : List ℕ) (i j : ℕ) → j < get_or starts (i + 1) 0 - get_or starts i 0 → get_or (part_of starts entries i) j 0 ≡ get_or entries (get_or starts i 0 + j) 0
unfolding part_of
part_at starts entries i = mid_at (get_or starts i 0) (get_or starts (i + 1) 0 - get_or starts i 0) entries

pub parts_even : {starts xs ys : List ℕ} {i : ℕ} → HasPart starts xs i → HasPart starts ys i → length (part_of starts xs i) ≡ length (part_of starts ys i)
parts_even h k = part_length h ∙ sym (part_length k)
