-- What an update of the marks leaves. Document 01, 'The table', with Ask 8: 'Insert adds one, remove takes one'; 'each brings the table up to date and
-- returns the number of rows whose contents differ before and after.'
-- Assumes nothing.
use Rattle.std.specs.Prelude.{ℕ, ◌≤◌, ◌≡◌, List}
use Rattle.network.specs.Network.{Network, node_count}
use Rattle.network.specs.Rows.{rows_changed, Sized, IsTable}
use Rattle.expansion.specs.Area.{Wiped}

-- the marks P become Q, and the table of P becomes that of Q. 'On one that the check would deny, [..] the changed count (at most n) and the table
-- are free; the marks still change by the rule.' All words are 0 again.
pub record UpdateLeft (g : Network) (P Q P' xs ys ids dists ids' dists' : List ℕ) (K changed : ℕ) : Type 0 where
  pub marks : P' ≡ Q
  pub area : Wiped xs ys 0
  pub sized : Sized g K ids' dists'
  pub most : changed ≤ node_count g
  pub table : IsTable g P K ids dists → IsTable g Q K ids' dists'
  pub counted : IsTable g P K ids dists → changed ≡ rows_changed g P Q K
