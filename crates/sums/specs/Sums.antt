-- Document 02, Ask 13: 'What the sheet adds up to', of the lists of Ask 1 with the counts of Ask 8: its terms, and its sentences as one statement. The
-- theorem is `adds_up` of proofs/AddsUp.antt.
-- Assumes nothing.
use Rattle.std.specs.Prelude.{ℕ, ◌+◌, ◌-◌, ◌*◌, ◌≤◌, min, ◌≡◌, ◌≢◌, ◌↔◌, ◌⊎◌, true, not, List, eqb, get_or}
use Rattle.network.specs.Network.{Network, node_count}
use Rattle.network.specs.Accepted.{Accepted}
use Rattle.network.specs.Distance.{NONE, dist}
use Rattle.network.specs.Count.{bit, total}
use Rattle.network.specs.Points.{lockers, marked}
use Rattle.network.specs.Nearest.{nearest}
use Rattle.network.specs.Households.{is_won, won_length}
use Rattle.site_calls.specs.Shared.{EntriesOutcome}
use Rattle.household_calls.specs.Sheet.{sheet_outcome}

-- A number for each node, added over all sites, 'several at one node each counted', or over all households, each of which counts (Ask 8)
unfoldable pub added_over : Network → List ℕ → (ℕ → ℕ) → ℕ
added_over g P f = total (λ x. lockers P x * f x) (node_count g)

-- 'let r be the number of sites that a household can reach, several at one node each counted [..]': of a household on h
unfoldable pub sites_reached : Network → List ℕ → ℕ → ℕ
sites_reached g T h = added_over g T (λ s. bit (not (eqb (dist g h s) NONE)))

-- the number of lists that a household on h stands on, each site 'with a list', which is that of its node
unfoldable pub lists_of : Network → List ℕ → List ℕ → ℕ → ℕ → ℕ
lists_of g H T k h = added_over g T (λ s. bit (is_won g H T s k h))

-- the distance of its j-th nearest site, the first being 1: of the last place of its j nearest, which have a place for each site; NONE where it reaches
-- fewer than j. 'its k-th and next nearest sites' are those of k and k + 1.
unfoldable pub site_distance : Network → List ℕ → ℕ → ℕ → ℕ
site_distance g T h j = (get_or (nearest g T h NONE j) (j - 1) (NONE, NONE)).1

-- 'The lengths of all sites' lists, counted as a sheet counts them'
unfoldable pub all_lengths : Network → List ℕ → List ℕ → ℕ → ℕ
all_lengths g H T k = added_over g T (λ s. won_length g H T s k)

-- 'the number of lists that each household stands on, added over all households'
unfoldable pub all_lists_of : Network → List ℕ → List ℕ → ℕ → ℕ
all_lists_of g H T k = added_over g H (lists_of g H T k)

-- 'the sum of a sheet's column, each entry taken once for each site there'
unfoldable pub column_sum : Network → List ℕ → List ℕ → ℕ
column_sum g T column = added_over g T (λ s. get_or column s 0)

-- An accepted overlap_sheet that was lent `scratch` and `old` for its answers has left these, by its contract
abbrev pub SheetWritten : Network → List ℕ → List ℕ → List ℕ → List ℕ → List ℕ → List ℕ → Type 0
SheetWritten g H T scratch old scratch' new =
    ◌≡◌ {A = EntriesOutcome} (record { number = 0; scratch = scratch'; answers = new }) (sheet_outcome g H T scratch old)

pub record AddsUp (g : Network) (H T : List ℕ) : Type 0 where
  -- 'The household stands on at least the smaller of k and r lists,'
  pub at_least : (k h : ℕ) → marked H h ≡ true → min k (sites_reached g T h) ≤ lists_of g H T k h
  -- 'and on exactly that many if and only if r is at most k or its k-th and next nearest sites are at different distances.'
  pub exactly : (k h : ℕ) → 1 ≤ k → marked H h ≡ true → (lists_of g H T k h ≡ min k (sites_reached g T h))
      ↔ ((sites_reached g T h ≤ k) ⊎ (site_distance g T h k ≢ site_distance g T h (k + 1)))
  -- 'The lengths of all sites' lists [..] add up to the number of lists that each household stands on, added over all households.'
  pub lengths : (k : ℕ) → all_lengths g H T k ≡ all_lists_of g H T k
  -- 'For k = 1 this is the sum of a sheet's column, each entry taken once for each site there.'
  pub column : (scratch old scratch' new : List ℕ) → SheetWritten g H T scratch old scratch' new → column_sum g T new ≡ all_lengths g H T 1

-- on every accepted network, with any households and sites
abbrev pub SheetAddsUp : Type 0
SheetAddsUp = (g : Network) → Accepted g → (H T : List ℕ) → AddsUp g H T
