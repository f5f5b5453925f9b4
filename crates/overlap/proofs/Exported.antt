-- overlap.h's struct of an answer, and the arrays as the answer leaves them.
-- Assumes nothing.
use Rattle.std.specs.Prelude.{Result}
use Prim.Native.Nat.{ℕ}
use mathlib.Core.Path.{◌≡◌, ap, ◌∙◌}
use mathlib.Core.Bool.{Bool}
use mathlib.Core.List.{List}
use Rattle.network.specs.Network.{Network}
use Rattle.conditions.specs.declared.kind.Kind.{Kind}
use Rattle.conditions.specs.declared.answers.Listed.{Listed}
use Rattle.conditions.specs.declared.answers.Listing.{Listing}
use Rattle.conditions.specs.declared.answers.Update.{Update}
use Rattle.conditions.specs.declared.answers.Verdict.{Verdict}
use Rattle.conditions.specs.Values.{listed_listing, rule_verdict, updated_update}
use Rattle.site_calls.specs.Verify.{VerifyOutcome}
use Rattle.site_calls.specs.Exported.{VerifyExported}
use Rattle.site_calls.proofs.Outcomes.{nearest_exported, search_exported, eager_exported}
use Rattle.table_calls.specs.TableQuery.{QueryArrays, TableQueryLeft, TableQueryExported}
use Rattle.table_calls.specs.Updated.{Arrays, ChangeLeft, ChangeExported}

pub verify_exported : {o : VerifyOutcome} {a : Result Bool ℕ} {s : List ℕ} {r : Verdict} → r ≡ rule_verdict a
    → ◌≡◌ {A = VerifyOutcome} (record { answer = a; scratch = s }) o → VerifyExported o r s
verify_exported h e =
    record {
      answer = h ∙ ap (λ (o : VerifyOutcome). rule_verdict o.answer) e;
      scratch_left = ap (λ (o : VerifyOutcome). o.scratch) e;
    }

pub change_exported : {kind : Kind} {g : Network} {node K : ℕ} {old new : Arrays} {a : Result ℕ ℕ} {r : Update} → r ≡ updated_update a
    → ChangeLeft kind g node K old new a → ChangeExported kind g node K old new r
change_exported {a = a} h d = record { answer = a; values = h; left = d }

pub query_exported : {g : Network} {P : List ℕ} {q k K : ℕ} {lent : QueryArrays} {scratch answers : List ℕ} {a : Result Listed ℕ} {r : Listing}
    → r ≡ listed_listing a → TableQueryLeft g P q k K lent scratch answers a → TableQueryExported g P q k K lent scratch answers r
query_exported {a = a} h d = record { answer = a; values = h; left = d }

pub ruleset exported = (nearest_exported, search_exported, eager_exported, verify_exported, change_exported, query_exported)
