-- Where an expansion of everything ends: each node's seat is that of its distance.
-- Assumes nothing.
use Prim.Native.Nat.{ℕ, suc, ◌+◌, ◌-◌, ◌<◌}
use mathlib.Core.Path.{◌≡◌, sym, ap, ◌∙◌}
use mathlib.Core.Logic.{◌≢◌}
use mathlib.Core.List.{List}
use native.Mathlib.Nat.{zero-add}
use native.Mathlib.Decide.{ℕ_discrete, dec_lt, dec_le}
use native.Mathlib.Omega.{arith}
use lib.ListN.{get_or, replicate, get_or-replicate, length-replicate, get_or-eq_default}
use borrow.Author.Tests.{eq-eqb, ne_eqb, le-leb, lt-leb}
use Rattle.network.specs.Network.{Network, node_count}
use Rattle.network.specs.Distance.{NONE, dist, distances_from}
use Rattle.network.specs.Count.{tabulate}
use Rattle.network.proofs.Tabulate.{tabulate_same}
use Rattle.expansion.specs.Area.{LabelAt, Kept, Blank, Wiped}
use Rattle.expansion.specs.Expand.{label_word, word_distance, label_in, SettledAll}
use Rattle.expansion.proofs.AreaLaws.{kept_trans}

pub label_none : (n d : ℕ) → d ≡ NONE → label_word n d ≡ 0
unfolding label_word
label_none n d e = rw (eq-eqb d NONE e)

pub label_some : (n d : ℕ) → d ≢ NONE → label_word n d ≡ suc (n + d)
unfolding label_word
label_some n d h = rw (ne_eqb d NONE h)

-- a seat stands for its distance
pub word_some : (n d : ℕ) → word_distance n (suc (n + d)) ≡ d
unfolding word_distance
word_some n d = rw (lt-leb (suc (n + d)) n (omega arith)) (omega arith)

pub word_distance_lem : (n d : ℕ) → word_distance n (label_word n d) ≡ d
unfolding word_distance
word_distance_lem n d =
    elim (ℕ_discrete d NONE) [
      | yes e ↦ rw (label_none n d e, le-leb 0 n (omega arith)) (sym e)
      | no h ↦ rw (label_some n d h, lt-leb (suc (n + d)) n (omega arith)) (omega arith)
    ]

-- what the reader of a label says: a settled node's label; and a label that is not NONE is that of a settled node
pub label_settled : {n : ℕ} {xs : List ℕ} {b v l : ℕ} → LabelAt n xs b v l → label_in n xs b v ≡ l
label_settled {n} {l} a = ap (word_distance n) a.is ∙ word_some n l

pub label_known : (n : ℕ) (xs : List ℕ) (b v l : ℕ) → v < n → l ≡ label_in n xs b v → l ≢ NONE → LabelAt n xs b v l
unfolding word_distance
label_known n xs b v l h e some =
    elim (dec_le (get_or xs (b + v) 0) n) [
      | yes z ↦ absurd (some (rw (le-leb (get_or xs (b + v) 0) n z) at e))
      | no s ↦
          let m : l ≡ get_or xs (b + v) 0 - n - 1 = rw (lt-leb (get_or xs (b + v) 0) n (omega arith)) at e in
          record { inside = h; is = omega (arith, m, s) }
    ]

-- the answers that the seats stand for, and the blank area
pub settled_distances : {g : Network} {source settled : ℕ} {xs ys : List ℕ} → SettledAll g xs ys 0 source settled
    → tabulate (λ v. word_distance (node_count g) (get_or ys v 0)) (node_count g) ≡ distances_from g source
unfolding distances_from
settled_distances {g} {source} {ys} s =
    tabulate_same (λ v. word_distance (node_count g) (get_or ys v 0)) (dist g source) (node_count g)
    (λ v h.
    ap (λ (w : ℕ). word_distance (node_count g) w) (ap (λ (i : ℕ). get_or ys i 0) (sym (zero-add v)) ∙ s.labels v h) ∙ word_distance_lem (node_count g) (dist g source v))

pub wiped_after : {xs ys zs : List ℕ} {b : ℕ} → Kept xs ys b → Wiped ys zs b → Wiped xs zs b
wiped_after k w = record { frame = kept_trans k w.frame; blank = w.blank }

-- words that are all 0 are a blank area
zeros : (n j : ℕ) → ◌≡◌ {A = ℕ} (get_or (replicate n 0) j 0) 0
zeros n j =
    elim (dec_lt j n) [
      | yes h ↦ get_or-replicate n j 0 0 h
      | no h ↦ get_or-eq_default (replicate n 0) 0 (simp length-replicate (omega arith))
    ]

pub zero_blank : {xs : List ℕ} (n b : ℕ) → xs ≡ replicate n 0 → Blank xs b
zero_blank n b e = record { zero = λ j h. ap (λ (l : List ℕ). get_or l j 0) e ∙ zeros n j }
