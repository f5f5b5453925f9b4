-- Demand 2: what a search that answers number 0 has written is the list by walks, and so are eager's steps.
-- Assumes nothing.
use Prim.Native.Nat.{ℕ}
use mathlib.Core.Path.{◌≡◌, refl, sym, ap, ◌∙◌}
use mathlib.Core.Bool.{Bool, true, false, cond}
use mathlib.Core.List.{List}
use native.Mathlib.Decide.{ℕ_discrete}
use native.Mathlib.Omega.{arith}
use lib.ListN.{length}
use borrow.Author.Tests.{eq-eqb, ne_eqb}
use Rattle.network.specs.Network.{Network, node_count}
use Rattle.network.specs.Accepted.{Accepted}
use Rattle.network.specs.Points.{is_listed, listed, expanded, short_k}
use Rattle.network.specs.Visits.{visits}
use Rattle.network.proofs.Counts.{select_ascending}
use Rattle.network.proofs.Visits.{visits_count}
use Rattle.network.specs.Rows.{same_table}
use Rattle.rows.proofs.CheckTable.{is_table}
use Rattle.conditions.specs.declared.answers.Listing.{Listing}
use Rattle.numbers.specs.Numbers.{limited_number, table_check_number, table_query_number}
use Rattle.conditions.specs.Values.{rule_verdict}
use Rattle.numbers.proofs.Ready.{limited_ready, eager_ready, search_ready, table_query_ready}
use Rattle.site_calls.specs.Eager.{short_outcome}
use Rattle.table_calls.specs.TableCheck.{table_check_answer}
use Rattle.table_calls.proofs.Outcomes.{query_refused, query_accepted}
use Rattle.demands.specs.Demand2.{Lists, Counts, demand_2}
use Rattle.demands.proofs.Walks.{on_list, are_steps}
use Rattle.demands.proofs.Said.{SaidList, limited_said, eager_said, lazy_said}

module _ {g : Network} (ok : Accepted g) {P : List ℕ} (size : length P ≡ node_count g) {q k : ℕ} where
  lists : {old new : List ℕ} {r : Listing} → SaidList g P q k old new r → Lists g P q k old new r
  unfolding listed
  lists s =
      record {
        list = listed g P q k;
        sized = s.sized;
        answers = s.answers;
        ascending = select_ascending (is_listed g P q k) (node_count g);
        members = λ p. on_list ok q P size k p;
      }

  abbrev counts : {r : Listing} → r.count ≡ expanded g P q k → Counts g P q k r
  counts e = record { steps = visits g P q k; are = are_steps ok q P k; counted = e ∙ sym (visits_count ok P q k) }

-- the table check's yes
checked : (g : Network) (P : List ℕ) (K : ℕ) (ids distances : List ℕ) → (rule_verdict (table_check_answer g P K ids distances)).yes ≡ 1
    → same_table g P K ids distances ≡ true
unfolding table_check_answer
checked g P K ids distances e =
    elim (ℕ_discrete (table_check_number g P K ids distances) 0) [
      | yes z ↦ yes_is (same_table g P K ids distances) (rw (eq-eqb (table_check_number g P K ids distances) 0 z) at e)
      | no n ↦ absurd (zero_one (rw (ne_eqb (table_check_number g P K ids distances) 0 n) at e))
    ]
  where
    zero_one : ◌≡◌ {A = ℕ} 0 1 → ⊥
    zero_one h = omega (arith, h)

    yes_is : (b : Bool) → ◌≡◌ {A = ℕ} (cond b 1 0) 1 → b ≡ true
    yes_is true h = refl
    yes_is false h = absurd (zero_one h)

pub demand : demand_2
unfolding short_outcome
demand g P q k scratch old scratch' new r =
    record {
      eager =
          λ limit visits visits' h z.
          let s = eager_said g P q k scratch old z limit visits h in
          let a = (eager_ready g P q k scratch old visits s.0.zero).0 in
          (lists a.accepted a.points s.0.list, record { count = counts a.accepted a.points s.0.count; visits = s.1 });
      lazy =
          λ h z.
          let s = lazy_said g P q k scratch old z h in
          let a = (search_ready g P q k scratch old s.0).query in
          lists a.accepted a.points s.1;
      short =
          λ h z.
          let s = limited_said g P q short_k scratch old z (limited_number g P q short_k scratch old) 65535 h in
          let a = limited_ready g P q short_k scratch old s.zero in
          (lists a.accepted a.points s.list, counts a.accepted a.points s.count);
      by_table =
          λ K ids distances c h z.
          elim (ℕ_discrete (table_query_number g P q k K ids distances scratch old) 0) [
            | yes e ↦
                let t = is_table g P K ids distances (checked g P K ids distances c) in
                let d = (query_accepted h e).2 in
                let a = (table_query_ready g P q k K ids distances scratch old e).ready in
                lists a.accepted a.points (record { sized = d.sized t; answers = d.list t })
            | no n ↦ absurd (n (sym (ap (λ (l : Listing). l.number) (query_refused h n)) ∙ z))
          ];
    }
