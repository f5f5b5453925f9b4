-- The outcome of a replay: an unfit list, a refused build, and the run that demand 3 speaks of.
-- Assumes nothing.
use Rattle.std.specs.Prelude.{Ok, Err}
use Prim.Native.Nat.{ℕ}
use mathlib.Core.Path.{◌≡◌, sym, ap, ◌∙◌}
use mathlib.Core.Bool.{true, false, not, ◌||◌}
use mathlib.Core.Logic.{◌≢◌}
use mathlib.Core.List.{List, ◌++◌, map, append-nil}
use native.Mathlib.Decide.{ℕ_discrete}
use native.Mathlib.Omega.{arith}
use lib.Dec.{eqb}
use lib.ListN.{length, get_or, drop, replicate, length-replicate, drop_of_length-le}
use borrow.Author.Tests.{eq-eqb, ne_eqb, eqb-true, not-false, ltb-false}
use Rattle.network.specs.Count.{any}
use Rattle.network.specs.Network.{Network}
use Rattle.network.specs.Rows.{table_ids, table_distances}
use Rattle.network.proofs.Tests.{or_parts, any_none}
use Rattle.conditions.specs.declared.answers.Update.{Update}
use Rattle.table_calls.specs.Build.{BuildOutcome, build_outcome}
use Rattle.demands.proofs.Demand3.{demand}
use Rattle.replay.specs.declared.ReplayError.TheVariants.{Unfit, Refused}
use Rattle.replay.specs.Calls.{CallArrays, calls_of}
use Rattle.replay.specs.Outcome.{Lent, Outcome, asks_more_at, is_unfit, unfit_of, build_of, replay_outcome}
use Rattle.replay.specs.Followed.{ListFits, CallsFollowed}

module _ (g : Network) (K : ℕ) (list : CallArrays) (old : Lent) where
  pub replay_unfit : unfit_of list old ≡ true → ◌≡◌ {A = Outcome} (record { answer = Err Unfit; left = old }) (replay_outcome g K list old)
  unfolding replay_outcome
  replay_unfit e = rw e

  -- build's outcome, and the arrays behind it
  abbrev built : BuildOutcome
  built = build_outcome g old.points K old.scratch old.ids old.distances

  abbrev behind : BuildOutcome → Lent
  behind o = record { points = old.points; scratch = o.scratch; ids = o.ids; distances = o.distances; numbers = old.numbers; counts = old.counts }

  built_number : built.number ≡ build_of g K old
  unfolding build_outcome
  built_number =
      elim (ℕ_discrete (build_of g K old) 0) [
        | yes e ↦ rw (eq-eqb (build_of g K old) 0 e) (sym e)
        | no n ↦ rw (ne_eqb (build_of g K old) 0 n)
      ]

  built_refused : build_of g K old ≢ 0 → behind built ≡ old
  unfolding build_outcome
  built_refused n = rw (ne_eqb (build_of g K old) 0 n)

  built_zero : build_of g K old ≡ 0 → built.scratch ≡ replicate (length old.scratch) 0
  unfolding build_outcome
  built_zero e = rw (eq-eqb (build_of g K old) 0 e)

  module _ (fits : unfit_of list old ≡ false) (o : BuildOutcome) (e : o ≡ built) where
    number_is : o.number ≡ build_of g K old
    number_is = ap (λ (x : BuildOutcome). x.number) e ∙ built_number

    pub replay_refused : o.number ≢ 0 → ◌≡◌ {A = Outcome} (record { answer = Err (Refused o.number); left = behind o }) (replay_outcome g K list old)
    unfolding replay_outcome
    replay_refused n =
        let m : build_of g K old ≢ 0 = λ z. n (number_is ∙ z) in
        rw (fits, ne_eqb (build_of g K old) 0 m)
        (λ i. record { answer = Err (Refused (number_is i)); left = (ap behind e ∙ built_refused m) i })

    module _ (accepted : o.number ≡ 0) where
      zeroed : o.scratch ≡ replicate (length old.scratch) 0
      zeroed = ap (λ (x : BuildOutcome). x.scratch) e ∙ built_zero (sym number_is ∙ accepted)

      -- an accepted build leaves what the calls ask: the list fits, and the scratch is zero
      pub replay_fit : ListFits list (behind o)
      unfolding is_unfit asks_more_at
      replay_fit =
          let n = length list.kinds in
          let a = not (eqb (length list.nodes) n) in
          let b = not (eqb (length list.places) n) in
          let c = not (eqb (length list.lengths) n) in
          let d = not (eqb (length old.numbers) n) in
          let f = not (eqb (length old.counts) n) in
          let t6 = or_parts (a || b || c || d || f) (any (asks_more_at (length old.scratch) list.lengths) (length list.lengths)) fits in
          let t5 = or_parts (a || b || c || d) f t6.0 in
          let t4 = or_parts (a || b || c) d t5.0 in
          let t3 = or_parts (a || b) c t4.0 in
          let t2 = or_parts a b t3.0 in
          let long = same (length list.lengths) n t3.1 in
          let size = ap length zeroed ∙ length-replicate (length old.scratch) 0 in
          record {
            nodes = same (length list.nodes) n t2.0;
            places = same (length list.places) n t2.1;
            lengths = long;
            numbers = same (length old.numbers) n t4.1;
            counts = same (length old.counts) n t5.1;
            room =
                λ j h.
                let low = ltb-false (length old.scratch) (get_or list.lengths j 0) (any_none (asks_more_at (length old.scratch) list.lengths) (length list.lengths) j t6.1 (omega (arith, long, h))) in
                omega (arith, low, size);
            zero = zeroed ∙ ap (λ (k : ℕ). replicate k 0) (sym size);
          }
        where
          same : (x y : ℕ) → not (eqb x y) ≡ false → x ≡ y
          same x y h = eqb-true x y (not-false (eqb x y) h)

      -- an answer array of as many entries holds nothing else
      whole : (xs ys zs : List ℕ) → xs ≡ ys ++ drop (length list.kinds) zs → length zs ≡ length list.kinds → xs ≡ ys
      whole xs ys zs p q = p ∙ rw (drop_of_length-le zs {i = length list.kinds} (omega arith)) (append-nil ys)

      -- demand 3 of the run that the calls are
      pub replay_done : (new : Lent) → CallsFollowed g list (length list.kinds) (behind o) new
          → ◌≡◌ {A = Outcome} (record { answer = Ok tt; left = new }) (replay_outcome g K list old)
      unfolding replay_outcome
      replay_done new f =
          let z = sym number_is ∙ accepted in
          let fit = replay_fit in
          let d = demand g old.points K old.scratch old.ids old.distances z (calls_of list) f.answers new.points new.ids new.distances (rw e at f.run) in
          rw (fits, eq-eqb (build_of g K old) 0 z)
          (λ i.
          record {
            answer = Ok tt;
            left =
                record {
                  points = d.marks i;
                  scratch = (f.zero ∙ ap (λ (xs : List ℕ). replicate (length xs) 0) zeroed ∙ ap (λ (k : ℕ). replicate k 0) (length-replicate (length old.scratch) 0)) i;
                  ids = (d.table_ids_lem ∙ ap (λ (P : List ℕ). table_ids g P K) d.marks) i;
                  distances = (d.table_distances_lem ∙ ap (λ (P : List ℕ). table_distances g P K) d.marks) i;
                  numbers = (whole new.numbers _ old.numbers f.numbers fit.numbers ∙ ap (map (λ (u : Update). u.number)) d.answered_so) i;
                  counts = (whole new.counts _ old.counts f.counts fit.counts ∙ ap (map (λ (u : Update). u.changed)) d.answered_so) i;
                };
          })
