-- The theorem of Ask 13. A household on a site's list is a pair, which both sums count; what the sheet's call leaves has the lengths of the lists at the sites.
-- Assumes nothing.
use Prim.Native.Nat.{ℕ, ◌*◌, ◌<◌}
use mathlib.Core.Path.{◌≡◌, refl, sym, ap, ◌∙◌}
use mathlib.Core.Bool.{Bool}
use mathlib.Core.List.{List}
use native.Mathlib.Nat.{mul_left_comm}
use native.Mathlib.Decide.{ℕ_discrete}
use native.Mathlib.Omega.{arith}
use lib.ListN.{length, get_or, drop, get_or-append}
use borrow.Author.Tests.{lt-ltb}
use Rattle.network.specs.Network.{Network, node_count}
use Rattle.network.specs.Count.{bit, weighed, tabulate}
use Rattle.network.specs.Points.{lockers}
use Rattle.network.specs.Answers.{answered}
use Rattle.network.specs.Households.{is_won, won_length, sheet_entry, sheet}
use Rattle.network.proofs.Totals.{total_same, total_times, total_order, weighed_bit}
use Rattle.network.proofs.Tabulate.{tabulate_length, tabulate_at}
use Rattle.site_calls.specs.Shared.{EntriesOutcome}
use Rattle.site_calls.proofs.Outcomes.{entries_refused, entries_done}
use Rattle.household_calls.specs.Numbers.{sheet_number}
use Rattle.household_calls.specs.Sheet.{sheet_outcome}
use Rattle.sums.specs.Sums.{added_over, lists_of, all_lengths, all_lists_of, column_sum, SheetWritten, SheetAddsUp}
use Rattle.sums.proofs.Sites.{at_least, exactly}

-- the households of h on the lists of the sites of s, from either side
pairs : (a c : ℕ) (b : Bool) → a * weighed b c ≡ c * (a * bit b)
pairs a c b = ap (λ x. a * x) (sym (weighed_bit b c)) ∙ mul_left_comm a c (bit b)

module _ (g : Network) (H T : List ℕ) where
  lengths : (k : ℕ) → all_lengths g H T k ≡ all_lists_of g H T k
  unfolding all_lengths all_lists_of added_over won_length lists_of
  lengths k =
      total_same _ _ n (λ s l. sym (total_times (lockers T s) (λ h. weighed (is_won g H T s k h) (lockers H h)) n))
      ∙ total_order (λ s h. lockers T s * weighed (is_won g H T s k h) (lockers H h)) n n
      ∙ total_same _ _ n
      (λ h l.
      total_same _ _ n (λ s m. pairs (lockers T s) (lockers H h) (is_won g H T s k h))
      ∙ total_times (lockers H h) (λ s. lockers T s * bit (is_won g H T s k h)) n)
    where
      n : ℕ
      n = node_count g

  -- what an accepted call leaves
  written : (scratch old scratch' new : List ℕ) → SheetWritten g H T scratch old scratch' new → new ≡ answered (sheet g H T) old
  unfolding sheet_outcome
  written scratch old scratch' new e =
      elim (ℕ_discrete (sheet_number g H T scratch old) 0) [
        | yes z ↦ ap (λ (o : EntriesOutcome). o.answers) (e ∙ sym (entries_done (sheet g H T) scratch old z refl refl))
        | no n ↦
            absurd (n (sym (ap (λ (o : EntriesOutcome). o.number) (e ∙ sym (entries_refused (sheet g H T) scratch old (sheet_number g H T scratch old) refl n)))))
      ]

  entry_at : (old : List ℕ) (s : ℕ) → s < node_count g → get_or (answered (sheet g H T) old) s 0 ≡ sheet_entry g H T s
  unfolding answered sheet
  entry_at old s l =
      let f = sheet_entry g H T in
      get_or-append (tabulate f (node_count g)) (drop (length (tabulate f (node_count g))) old) 0 s (omega (arith, tabulate_length f (node_count g)))
      ∙ tabulate_at f (node_count g) s l

  -- where no site is, none is taken
  at_site : (s : ℕ) → lockers T s * sheet_entry g H T s ≡ lockers T s * won_length g H T s 1
  unfolding sheet_entry
  at_site s =
      elim (ℕ_discrete (lockers T s) 0) [
        | yes z ↦ rw z (omega arith)
        | no n ↦ rw (lt-ltb 0 (lockers T s) (omega arith))
      ]

  column : (scratch old scratch' new : List ℕ) → SheetWritten g H T scratch old scratch' new → column_sum g T new ≡ all_lengths g H T 1
  unfolding column_sum all_lengths added_over
  column scratch old scratch' new e =
      rw (written scratch old scratch' new e)
      (total_same _ _ (node_count g) (λ s l. ap (λ x. lockers T s * x) (entry_at old s l) ∙ at_site s))

pub adds_up : SheetAddsUp
adds_up g ok H T =
    record {
      at_least = λ k h. at_least ok T h H k;
      exactly = λ k h some household. exactly ok T h H k household some;
      lengths = lengths g H T;
      column = column g H T;
    }
