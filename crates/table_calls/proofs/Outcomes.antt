-- The outcomes of build and of the table check: refused with its number, and accepted; and what the exported calls of insert, remove and the table
-- query say.
-- Assumes nothing.
use Rattle.std.specs.Prelude.{Result, Ok, Err}
use Prim.Native.Nat.{ℕ}
use mathlib.Core.Path.{◌≡◌, refl, sym, ap, ◌∙◌}
use mathlib.Core.Logic.{◌≢◌}
use mathlib.Core.Bool.{Bool}
use mathlib.Core.List.{List}
use native.Mathlib.Omega.{arith}
use lib.ListN.{length, replicate}
use borrow.Author.Tests.{eq-eqb, ne_eqb}
use Rattle.network.specs.Network.{Network}
use Rattle.network.specs.Refusal.{number_of}
use Rattle.network.specs.declared.refusal.Refusal.{Refusal}
use Rattle.conditions.proofs.NotMet.{number_some}
use Rattle.rows.specs.Check.{CanCheck}
use Rattle.table.specs.Updated.{UpdateLeft}
use Rattle.query.specs.Query.{QueryLeft}
use Rattle.numbers.proofs.Ready.{table_check_ready}
use Rattle.numbers.proofs.Cleared.{all_zero}
use Rattle.conditions.specs.declared.kind.Kind.{Kind}
use Rattle.conditions.specs.declared.answers.Update.{Update}
use Rattle.conditions.specs.declared.answers.Listing.{Listing}
use Rattle.conditions.specs.Values.{found_list, listed_listing, updated_update}
use Rattle.network.specs.Rows.{IsTable, same_table}
use Rattle.numbers.specs.Numbers.{build_number, table_check_number, change_number, table_query_number}
use Rattle.table_calls.specs.TableCheck.{table_check_answer}
use Rattle.table_calls.specs.Build.{BuildOutcome, build_outcome}
use Rattle.table_calls.specs.Updated.{kind_marks, Arrays, UpdateDone, UpdateByNumber, ChangeExported}
use Rattle.table_calls.specs.TableQuery.{QueryArrays, QueryDone, QueryByNumber, TableQueryExported}

module _ (g : Network) (P : List ℕ) (K : ℕ) (scratch ids distances : List ℕ) where
  pub build_refused : (number : ℕ) → number ≡ build_number g P K scratch ids distances → number ≢ 0
      → ◌≡◌ {A = BuildOutcome} (record { number = number; scratch = scratch; ids = ids; distances = distances }) (build_outcome g P K scratch ids distances)
  unfolding build_outcome
  build_refused number e n = rw (← e, ne_eqb number 0 n)

  pub build_done : {s i d : List ℕ} → build_number g P K scratch ids distances ≡ 0 → s ≡ replicate (length scratch) 0 → IsTable g P K i d
      → ◌≡◌ {A = BuildOutcome} (record { number = 0; scratch = s; ids = i; distances = d }) (build_outcome g P K scratch ids distances)
  unfolding build_outcome
  build_done e z t = rw (eq-eqb (build_number g P K scratch ids distances) 0 e, z, t.same_ids, t.same_dists)

module _ (g : Network) (P : List ℕ) (K : ℕ) (ids distances : List ℕ) where
  pub check_refused : (number : ℕ) → number ≡ table_check_number g P K ids distances → number ≢ 0
      → ◌≡◌ {A = Result Bool ℕ} (Err number) (table_check_answer g P K ids distances)
  unfolding table_check_answer
  check_refused number e n = rw (← e, ne_eqb number 0 n)

  pub check_done : {L : ℕ} {yes : Bool} → L ≡ K → table_check_number g P K ids distances ≡ 0 → yes ≡ same_table g P L ids distances
      → ◌≡◌ {A = Result Bool ℕ} (Ok yes) (table_check_answer g P K ids distances)
  unfolding table_check_answer
  check_done l e h = rw (eq-eqb (table_check_number g P K ids distances) 0 e, h, l)

  -- what the check asks
  pub can_check : 0 ≡ table_check_number g P K ids distances → CanCheck g P K ids distances
  can_check e =
      let r = table_check_ready g P K ids distances (sym e) in
      record { readable = record { accepted = r.accepted; some = omega (arith, r.least); sized = r.sized }; points = r.points }

-- insert and remove: refused with its number, and accepted
module _ {number : ℕ} {g : Network} {Q : List ℕ} {K : ℕ} {old : Arrays} where
  pub change_unmet : (r : Refusal) → number_of r ≡ number → UpdateByNumber number g Q K old old (Err (number_of r))
  change_unmet r e =
      record {
        refused = λ _. (ap (λ (k : ℕ). Err k) e, refl);
        accepted = λ z. absurd (omega (arith, number_some r));
      }

  pub change_done : {new : Arrays} {changed : ℕ} → 0 ≡ number
      → UpdateLeft g old.points Q new.points old.scratch new.scratch old.ids old.distances new.ids new.distances K changed
      → UpdateByNumber number g Q K old new (Ok changed)
  change_done {new} {changed} e d =
      record {
        refused = λ n. absurd (n (sym e));
        accepted =
            λ _.
            record {
              changed = changed;
              answered_so = refl;
              done =
                  record {
                    marks = d.marks;
                    zero = all_zero (length old.scratch) refl d.area;
                    sized = d.sized;
                    most = d.most;
                    table = d.table;
                    counted = d.counted;
                  };
            };
      }

-- the table query: refused with its number, and accepted
module _ {number : ℕ} {g : Network} {P : List ℕ} {q k K : ℕ} {lent : QueryArrays} where
  pub query_unmet : (r : Refusal) → number_of r ≡ number → QueryByNumber number g P q k K lent lent.scratch lent.answers (Err (number_of r))
  query_unmet r e =
      record {
        refused = λ _. (ap (λ (k : ℕ). Err k) e, refl, refl);
        accepted = λ z. absurd (omega (arith, number_some r));
      }

  pub query_done : {scratch answers : List ℕ} {found : ℕ} → 0 ≡ number
      → QueryLeft g P lent.ids lent.distances q k K lent.scratch scratch lent.answers answers found
      → QueryByNumber number g P q k K lent scratch answers (Ok (found_list found 0))
  query_done {found = found} e d =
      record {
        refused = λ n. absurd (n (sym e));
        accepted =
            λ _.
            record {
              found = found;
              answered_so = refl;
              done = record { zero = all_zero (length lent.scratch) refl d.area; any = d.some; sized = d.sized; list = d.answers };
            };
      }

-- what an exported insert or remove says: its number and count 0, and nothing is written; or number 0, and what it is named for
module _ {kind : Kind} {g : Network} {node K : ℕ} {old new : Arrays} {r : Update} (h : ChangeExported kind g node K old new r) where
  abbrev changes : ℕ
  changes = change_number kind g old.points node K old.scratch old.ids old.distances

  pub change_refused : changes ≢ 0 → (r ≡ record { number = changes; changed = 0 }) × (new ≡ old)
  change_refused n =
      let d = h.left.refused n in
      (h.values ∙ ap updated_update d.0, d.1)

  pub change_accepted : changes ≡ 0 → (r.number ≡ 0) × UpdateDone g (kind_marks kind old.points node) K old new r.changed
  change_accepted z =
      let d = h.left.accepted z in
      let e : r ≡ record { number = 0; changed = d.changed } = h.values ∙ ap updated_update d.answered_so in
      rw e (refl, d.done)

-- what an exported table query says
module _ {g : Network} {P : List ℕ} {q k K : ℕ} {lent : QueryArrays} {scratch answers : List ℕ} {r : Listing}
    (h : TableQueryExported g P q k K lent scratch answers r) where
  abbrev queries : ℕ
  queries = table_query_number g P q k K lent.ids lent.distances lent.scratch lent.answers

  pub query_refused : queries ≢ 0 → r ≡ record { number = queries; count = 0; length = 0 }
  query_refused n = h.values ∙ ap listed_listing (h.left.refused n).0

  pub query_accepted : queries ≡ 0 → (r.number ≡ 0) × (r.count ≡ 0) × QueryDone g P q k K lent scratch answers r.length
  query_accepted z =
      let d = h.left.accepted z in
      let e : r ≡ record { number = 0; count = 0; length = d.found } = h.values ∙ ap listed_listing d.answered_so in
      rw e (refl, refl, d.done)
