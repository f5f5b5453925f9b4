-- What a loop keeps that goes over places, turn by turn, and puts in the entries of some (`Entered`).
-- Assumes nothing.
use Prim.Native.Nat.{ℕ, ◌+◌, ◌<◌}
use mathlib.Core.Path.{◌≡◌, refl, ap, ◌∙◌}
use mathlib.Core.Logic.{◌⊎◌, inl, inr, ⊎_elim}
use mathlib.Core.List.{List}
use native.Mathlib.Decide.{ℕ_discrete}
use native.Mathlib.Omega.{arith}
use lib.ListN.{drop}
use Rattle.expansion.specs.Queue.{Holds, Queue, PushedAt}
use Rattle.expansion.specs.Area.{PutAmong, Entered}

module _ {base : ℕ} {xs : List ℕ} {len : ℕ} {key : ℕ → ℕ} {Puts : ℕ → Type 0} where
  pub entered_none : Queue (drop base xs) len → Entered base xs xs len len 0 key Puts
  entered_none q =
      record {
        frame = record { size = refl; words = λ i h. refl };
        queue = q;
        grown = omega arith;
        holds = λ k. (λ h. inl h, ⊎_elim (λ h. h) (λ (p : PutAmong key Puts 0 k). absurd (omega (arith, p.low))));
      }

  module _ {ys : List ℕ} {more j : ℕ} (f : Entered base xs ys len more j key Puts) where
    further : {k : ℕ} → PutAmong key Puts j k → PutAmong key Puts (j + 1) k
    further p = record { place = p.place; low = omega (arith, p.low); puts = p.puts; is = p.is }

    earlier : {k : ℕ} → PutAmong key Puts (j + 1) k → PutAmong key Puts j k ⊎ (Puts j × (k ≡ key j))
    earlier p =
        elim (ℕ_discrete p.place j) [
          | yes e ↦ inr (rw e at p.puts, p.is ∙ ap key e)
          | no n ↦ inl (record { place = p.place; low = omega (arith, p.low); puts = p.puts; is = p.is })
        ]

    -- what a place before j put in is there
    pub entered_held : (i : ℕ) → i < j → Puts i → Holds (drop base ys) more (key i)
    entered_held i h y = (f.holds (key i)).1 (inr (record { place = i; low = h; puts = y; is = refl }))

    -- the place j does not put in
    pub entered_passed : (Puts j → ⊥) → Entered base xs ys len more (j + 1) key Puts
    entered_passed n =
        record {
          frame = f.frame;
          queue = f.queue;
          grown = omega (arith, f.grown);
          holds = λ k. (
            λ h. ⊎_elim (λ o. inl o) (λ p. inr (further p)) ((f.holds k).0 h),
            ⊎_elim
                (λ o. (f.holds k).1 (inl o))
                (λ p. ⊎_elim (λ o. (f.holds k).1 (inr o)) (λ o. absurd (n o.0)) (earlier p)),
          );
        }

    -- its entry is put in
    pub entered_pushed : {zs : List ℕ} → Puts j → PushedAt ys zs base more (key j) → Entered base xs zs len (more + 1) (j + 1) key Puts
    entered_pushed y t =
        record {
          frame = record { size = t.size ∙ f.frame.size; words = λ i h. t.before i h ∙ f.frame.words i h };
          queue = t.queue.queue;
          grown = omega (arith, f.grown);
          holds = λ k. (
            λ h.
                ⊎_elim
                (λ o. ⊎_elim (λ x. inl x) (λ x. inr (further x)) ((f.holds k).0 o))
                (λ e. inr (record { place = j; low = omega arith; puts = y; is = e }))
                ((t.queue.holds k).0 h),
            ⊎_elim
                (λ o. (t.queue.holds k).1 (inl ((f.holds k).1 (inl o))))
                (λ p. (t.queue.holds k).1 (⊎_elim (λ o. inl ((f.holds k).1 (inr o))) (λ o. inr o.1) (earlier p))),
          );
        }
