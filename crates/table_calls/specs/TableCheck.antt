-- The table check: 1 to 5, 6, 8. Document 01, 'The table': 'Table check: yes exactly when both arrays are the table that build would write, whoever
-- filled them.'
-- Assumes nothing.
use Rattle.std.specs.Prelude.{Bool, Result, Ok, Err, ℕ, List}
use Rattle.network.specs.Network.{Network}
use Rattle.network.specs.Rows.{same_table}
use Rattle.conditions.specs.Conditions.{by_number}
use Rattle.numbers.specs.Numbers.{table_check_number}

unfoldable pub table_check_answer : Network → List ℕ → ℕ → List ℕ → List ℕ → Result Bool ℕ
table_check_answer g P K ids distances =
    by_number (table_check_number g P K ids distances) (Err (table_check_number g P K ids distances)) (Ok (same_table g P K ids distances))
