-- What a number 0 of the calls with households and sites leaves: no condition is met.
-- Assumes nothing.
use Prim.Native.Nat.{ℕ}
use mathlib.Core.Path.{◌≡◌, sym}
use mathlib.Core.List.{List, []}
use native.Mathlib.Omega.{arith}
use lib.ListN.{length}
use Rattle.network.specs.Network.{Network, node_count}
use Rattle.network.specs.Accepted.{Accepted}
use Rattle.network.specs.Scratch.{scratch_words}
use Rattle.network.specs.Households.{sheet_k}
use Rattle.conditions.specs.Conditions.{points_number, node_number, k_number, short_number}
use Rattle.conditions.proofs.NotMet.{first_zero, points_ready, node_ready, k_ready, short_ready}
use Rattle.numbers.specs.Numbers.{network_points_number}
use Rattle.numbers.proofs.Ready.{Small, network_points_ready}
use Rattle.household_calls.specs.Numbers.{both_number, households_number, sheet_number}
use Rattle.household_calls.specs.Work.{HouseholdsReady, SheetReady}

pub both_ready : (g : Network) (H T : List ℕ) → both_number g H T ≡ 0 → Accepted g × (length T ≡ node_count g)
unfolding both_number
both_ready g H T e =
    let a = first_zero (network_points_number g H) _ e in
    let b = first_zero (points_number (node_count g) T) [] a.1 in
    ((network_points_ready g H a.0).0, points_ready (node_count g) T b.0)

pub households_ready : (g : Network) (H T : List ℕ) (q k : ℕ) (scratch answers : List ℕ) → households_number g H T q k scratch answers ≡ 0
    → HouseholdsReady g T q k scratch answers
unfolding households_number
households_ready g H T q k scratch answers e =
    let a = first_zero (both_number g H T) _ e in
    let b = first_zero (node_number (node_count g) q) _ a.1 in
    let c = first_zero (k_number k) _ b.1 in
    let d = first_zero (short_number (length scratch) (scratch_words g k)) _ c.1 in
    let f = first_zero (short_number (length answers) (node_count g)) [] d.1 in
    let r = both_ready g H T a.0 in
    record {
      accepted = r.0;
      sites = r.1;
      inside = node_ready (node_count g) q b.0;
      some = (k_ready k c.0).0;
      room = short_ready (length scratch) (scratch_words g k) d.0;
      places = short_ready (length answers) (node_count g) f.0;
    }

pub sheet_ready : (g : Network) (H T scratch answers : List ℕ) → sheet_number g H T scratch answers ≡ 0 → SheetReady g scratch answers
unfolding sheet_number
sheet_ready g H T scratch answers e =
    let a = first_zero (both_number g H T) _ e in
    let b = first_zero (short_number (length scratch) (scratch_words g sheet_k)) _ a.1 in
    let c = first_zero (short_number (length answers) (node_count g)) [] b.1 in
    record {
      accepted = (both_ready g H T a.0).0;
      room = short_ready (length scratch) (scratch_words g sheet_k) b.0;
      places = short_ready (length answers) (node_count g) c.0;
    }

-- what the conditions behind a passed one ask, for `grind`
pub both_passed : (g : Network) (H T : List ℕ) → 0 ≡ both_number g H T → (both_number g H T ≡ 0) × (Small g)
both_passed g H T e = let a = (both_ready g H T (sym e)).0 in (sym e, (omega (arith, a.some), a.few, a.few_arcs))
