-- Lazy's counts: a verification adds its lockers to the counts of the nodes that it has settled, one after another.
-- Assumes nothing.
use Prim.Native.Nat.{ℕ, ◌+◌, ◌<◌}
use mathlib.Core.Path.{◌≡◌, refl, sym, ap, ◌∙◌}
use mathlib.Core.Bool.{true}
use mathlib.Core.Logic.{◌⊎◌, inl, inr, ⊎_elim}
use mathlib.Core.List.{List}
use native.Mathlib.Decide.{ℕ_discrete}
use native.Mathlib.Omega.{arith}
use lib.ListN.{length, get_or, set, length-set}
use lib.Seq.{get_or-set_same, get_or-set_other}
use Rattle.expansion.specs.Area.{AmongSettled}
use Rattle.expansion.specs.Expand.{label_in, settled_in}
use Rattle.lazy_searches.specs.Lazy.{visit_base, is_less, CanCount, Rises, CountedNode, CountedAll}

-- the node is not counted, or is
pub counted_same : {n : ℕ} {xs : List ℕ} {b l c u : ℕ} → CountedNode n xs xs b l c u
counted_same = record { size = refl; words = λ i h. refl; count = inl refl }

pub counted_more : {n : ℕ} {xs : List ℕ} {b l c u : ℕ} {near far : ℕ} → near ≡ label_in n xs (visit_base n) u → far ≡ label_in n xs b u
    → is_less near far l ≡ true → u < length xs → CountedNode n xs (set xs u (get_or xs u 0 + c)) b l c u
counted_more {xs} {c} {u} p q e h =
    record {
      size = length-set xs u (get_or xs u 0 + c);
      words = λ i m. get_or-set_other xs u i (get_or xs u 0 + c) 0 m;
      count = inr (record { more = get_or-set_same xs u (get_or xs u 0 + c) 0 h; less = rw (← p, ← q) e });
    }

pub counted_none : {n : ℕ} {xs : List ℕ} {b l c : ℕ} → CountedAll n xs xs b 0 l c
counted_none = record { size = refl; words = λ i h. refl; counts = λ u h. inl refl }

-- the nodes before the i-th are counted
module _ {n : ℕ} {xs : List ℕ} {b settled more : ℕ} (c : CanCount n xs b settled more) {l : ℕ} {ys : List ℕ} {i : ℕ} (w : CountedAll n xs ys b i l more) (h : i < settled) where
  place_same : settled_in n ys (visit_base n) i ≡ settled_in n xs (visit_base n) i
  place_same = w.words (visit_base n + n + i) (omega arith)

  pub place_node : settled_in n ys (visit_base n) i < n
  place_node = rw place_same (c.nodes i h)

  -- the next one was not counted before
  fresh : (u : ℕ) → u < n → u ≡ settled_in n ys (visit_base n) i → get_or ys u 0 ≡ get_or xs u 0
  fresh u m e =
      ⊎_elim
      (λ a. a)
      (λ a.
      let s = a.0 in
      absurd (omega (arith, s.low, c.distinct s.place i (omega (arith, s.low)) h (s.is ∙ e ∙ place_same))))
      (w.counts u m)

  pub place_small : get_or ys (settled_in n ys (visit_base n) i) 0 + more < 4294967296
  place_small = rw (fresh (settled_in n ys (visit_base n) i) place_node refl) (c.small (settled_in n ys (visit_base n) i) place_node)

  pub counted_next : {zs : List ℕ} → CountedNode n ys zs b l more (settled_in n ys (visit_base n) i) → CountedAll n xs zs b (i + 1) l more
  counted_next {zs} v =
      record {
        size = v.size ∙ w.size;
        words = λ j m. v.words j (λ e. omega (arith, place_node)) ∙ w.words j m;
        counts = counts;
      }
    where
      stays : (u : ℕ) → AmongSettled n xs (visit_base n) i u → AmongSettled n xs (visit_base n) (i + 1) u
      stays u s = record { place = s.place; low = omega (arith, s.low); is = s.is }

      counts : (u : ℕ) → u < n → (get_or zs u 0 ≡ get_or xs u 0) ⊎ (AmongSettled n xs (visit_base n) (i + 1) u × Rises n xs zs b l more u)
      counts u m =
          elim (ℕ_discrete u (settled_in n ys (visit_base n) i)) [
            | yes e ↦
                ⊎_elim
                (λ a. inl (rw (← e) at a ∙ fresh u m e))
                (λ a.
                let r = rw (← e) at a in
                inr (
                  record { place = i; low = omega arith; is = sym (e ∙ place_same) },
                  record {
                    more = r.more ∙ ap (λ x. x + more) (fresh u m e);
                    less = rw (← w.words (visit_base n + u) (omega arith), ← w.words (b + u) (omega (arith, c.low))) r.less;
                  },
                ))
                v.count
            | no ne ↦
                ⊎_elim
                (λ a. inl (v.words u ne ∙ a))
                (λ a. inr (stays u a.0, record { more = v.words u ne ∙ a.1.more; less = a.1.less }))
                (w.counts u m)
          ]
