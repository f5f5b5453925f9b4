-- What a number 0 leaves: both arrays have row `junction`. The row and the struct, refused and accepted; and the part that the struct names is the row.
-- Assumes nothing.
use Prim.Native.Nat.{ℕ, ◌+◌, ◌*◌, ◌≤◌}
use mathlib.Core.Path.{◌≡◌, refl, sym, ap, ◌∙◌}
use mathlib.Core.Bool.{Bool, true, false}
use mathlib.Core.Logic.{◌≢◌}
use mathlib.Core.List.{List, []}
use native.Mathlib.Decide.{ℕ_discrete}
use native.Mathlib.Omega.{arith}
use lib.ListN.{length}
use borrow.Author.Tests.{eq-eqb, ne_eqb}
use Rattle.network.specs.Network.{Network, node_count}
use Rattle.network.specs.Rows.{row_entries}
use Rattle.network.specs.Refusal.{number_of}
use Rattle.network.specs.declared.refusal.Refusal.{Refusal}
use Rattle.network.specs.Check.{network_number}
use Rattle.network.proofs.NumberZero.{number_zero}
use Rattle.network.proofs.Lends.{row_fits}
use Rattle.conditions.proofs.NotMet.{first_zero, number_some, node_ready, table_ready}
use Rattle.conditions.specs.declared.answers.RowPart.{RowPart}
use Rattle.nearer_row.specs.Nearer.{own_nearer, nearer_row, row_number, row_outcome}
use Rattle.nearer_row.specs.Part.{nearer_part, refused_part, part_outcome, named_array, named_part, PartReturned, PartIsRow}
use Rattle.nearer_row.specs.Work.{BothHaveRow}

-- an accepted network has few nodes; the number stands in front, so that `grind` finds the network of a passed test
pub network_passed : (g : Network) → 0 ≡ network_number g → (network_number g ≡ 0) × (1 ≤ length g.starts) × (node_count g ≤ 65535)
network_passed g e = let a = (number_zero g).0 (sym e) in (sym e, omega (arith, a.some), a.few)

module _ (K i : ℕ) (own rival : List ℕ) where
  -- the clauses of `nearer_row` and of `nearer_part`: the own row is nearer or as near; the rival's is nearer
  pub row_own : own_nearer K i own rival ≡ true → nearer_row K i own rival ≡ row_entries K i own
  unfolding nearer_row
  row_own e = rw e

  pub row_rival : own_nearer K i own rival ≡ false → nearer_row K i own rival ≡ row_entries K i rival
  unfolding nearer_row
  row_rival e = rw e

  pub part_own : own_nearer K i own rival ≡ true → nearer_part K i own rival ≡ record { number = 0; rival = 0; start = i * K; length = K }
  unfolding nearer_part
  part_own e = rw e

  pub part_rival : own_nearer K i own rival ≡ false → nearer_part K i own rival ≡ record { number = 0; rival = 1; start = i * K; length = K }
  unfolding nearer_part
  part_rival e = rw e

-- the part that a struct names: of the own distances, of the rival's, and nothing on a refusal
module _ (K i number : ℕ) (own rival : List ℕ) where
  named_own : named_part (record { number = number; rival = 0; start = i * K; length = K }) own rival ≡ row_entries K i own
  unfolding named_part named_array row_entries
  named_own = refl

  named_rival : named_part (record { number = number; rival = 1; start = i * K; length = K }) own rival ≡ row_entries K i rival
  unfolding named_part named_array row_entries
  named_rival = refl

  named_none : named_part (refused_part number) own rival ≡ []
  unfolding named_part named_array
  named_none = refl

  array_own : named_array (record { number = number; rival = 0; start = i * K; length = K }) own rival ≡ own
  unfolding named_array
  array_own = refl

  array_rival : named_array (record { number = number; rival = 1; start = i * K; length = K }) own rival ≡ rival
  unfolding named_array
  array_rival = refl

-- the part of the nearer row is the nearer row, and lies in its array
module _ {K i : ℕ} {own rival : List ℕ} (fits : BothHaveRow K i own rival) where
  record Names (part : RowPart) : Type 0 where
    pub within : part.start + part.length ≤ length (named_array part own rival)
    pub row : named_part part own rival ≡ nearer_row K i own rival

  names_nearer : Names (nearer_part K i own rival)
  names_nearer = by (own_nearer K i own rival) refl
    where
      by : (b : Bool) → own_nearer K i own rival ≡ b → Names (nearer_part K i own rival)
      by true e =
          rw (part_own K i own rival e)
          (record { within = rw (array_own K i 0 own rival) fits.in_own; row = named_own K i 0 own rival ∙ sym (row_own K i own rival e) })
      by false e =
          rw (part_rival K i own rival e)
          (record { within = rw (array_rival K i 0 own rival) fits.in_rival; row = named_rival K i 0 own rival ∙ sym (row_rival K i own rival e) })

module _ (g : Network) (junction K : ℕ) (ownIds own rivalIds rival : List ℕ) where
  -- no condition is met
  row_ready : row_number g junction K ownIds own rivalIds rival ≡ 0 → BothHaveRow K junction own rival
  unfolding row_number
  row_ready z =
      let a = first_zero _ _ z in
      let b = first_zero _ _ a.1 in
      let c = first_zero _ _ b.1 in
      let d = first_zero _ _ c.1 in
      let i = node_ready (node_count g) junction b.0 in
      let t = table_ready (node_count g) K (length ownIds) (length own) c.0 in
      let u = table_ready (node_count g) K (length rivalIds) (length rival) d.0 in
      record {
        some = omega (arith, t);
        in_own = omega (arith, t, row_fits junction (node_count g) K i);
        in_rival = omega (arith, u, row_fits junction (node_count g) K i);
      }

  refused_part_lem : row_number g junction K ownIds own rivalIds rival ≢ 0
      → part_outcome g junction K ownIds own rivalIds rival ≡ refused_part (row_number g junction K ownIds own rivalIds rival)
  unfolding part_outcome
  refused_part_lem n = rw (ne_eqb (row_number g junction K ownIds own rivalIds rival) 0 n)

  accepted_part : row_number g junction K ownIds own rivalIds rival ≡ 0 → part_outcome g junction K ownIds own rivalIds rival ≡ nearer_part K junction own rival
  unfolding part_outcome
  accepted_part z = rw (eq-eqb (row_number g junction K ownIds own rivalIds rival) 0 z)

  refused_row : row_number g junction K ownIds own rivalIds rival ≢ 0 → row_outcome g junction K ownIds own rivalIds rival ≡ []
  unfolding row_outcome
  refused_row n = rw (ne_eqb (row_number g junction K ownIds own rivalIds rival) 0 n)

  accepted_row : row_number g junction K ownIds own rivalIds rival ≡ 0 → row_outcome g junction K ownIds own rivalIds rival ≡ nearer_row K junction own rival
  unfolding row_outcome
  accepted_row z = rw (eq-eqb (row_number g junction K ownIds own rivalIds rival) 0 z)

pub part_is_row : PartIsRow
part_is_row g junction K ownIds own rivalIds rival =
    elim (ℕ_discrete (row_number g junction K ownIds own rivalIds rival) 0) [
      | yes z ↦
          let n = names_nearer (row_ready g junction K ownIds own rivalIds rival z) in
          let p = accepted_part g junction K ownIds own rivalIds rival z in
          record { values = refl; inside = rw p n.within; denotes = rw p n.row ∙ sym (accepted_row g junction K ownIds own rivalIds rival z) }
      | no n ↦
          let p = refused_part_lem g junction K ownIds own rivalIds rival n in
          record { values = refl; inside = rw p (omega arith); denotes = rw p (named_none K junction _ own rival) ∙ sym (refused_row g junction K ownIds own rivalIds rival n) }
    ]

part_returned : {g : Network} {junction K : ℕ} {ownIds own rivalIds rival : List ℕ} {r : RowPart} → r ≡ part_outcome g junction K ownIds own rivalIds rival
    → PartReturned g junction K ownIds own rivalIds rival r
part_returned {g} {junction} {K} {ownIds} {own} {rivalIds} {rival} e = rw e (part_is_row g junction K ownIds own rivalIds rival)

-- what the calls return: behind no condition that is met, and behind one that is
module _ (g : Network) (junction K : ℕ) (ownIds own rivalIds rival : List ℕ) where
  pub row_fit : 0 ≡ row_number g junction K ownIds own rivalIds rival → BothHaveRow K junction own rival
  row_fit z = row_ready g junction K ownIds own rivalIds rival (sym z)

  pub row_accepted : 0 ≡ row_number g junction K ownIds own rivalIds rival → nearer_row K junction own rival ≡ row_outcome g junction K ownIds own rivalIds rival
  row_accepted z = sym (accepted_row g junction K ownIds own rivalIds rival (sym z))

  pub part_accepted : 0 ≡ row_number g junction K ownIds own rivalIds rival → PartReturned g junction K ownIds own rivalIds rival (nearer_part K junction own rival)
  part_accepted z = part_returned (sym (accepted_part g junction K ownIds own rivalIds rival (sym z)))

  module _ (refusal : Refusal) (is : number_of refusal ≡ row_number g junction K ownIds own rivalIds rival) where
    some_number : row_number g junction K ownIds own rivalIds rival ≢ 0
    some_number z = omega (arith, number_some refusal, is, z)

    pub row_refused : [] ≡ row_outcome g junction K ownIds own rivalIds rival
    row_refused = sym (refused_row g junction K ownIds own rivalIds rival some_number)

    pub part_refused : PartReturned g junction K ownIds own rivalIds rival (refused_part (number_of refusal))
    part_refused = part_returned (ap refused_part is ∙ sym (refused_part_lem g junction K ownIds own rivalIds rival some_number))
