-- Document 01, 'Numbers of refusal': 'Scratch is a lent array of 32-bit numbers', and how long it must be.
-- Assumes nothing.
use Rattle.std.specs.Prelude.{ℕ, ◌+◌, ◌*◌}
use Rattle.network.specs.Network.{Network, node_count, arc_count}

-- 'Length S = 16 × n + 8 × (A + n) × m entries'
abbrev pub scratch_words : Network → ℕ → ℕ
scratch_words g m = 16 * node_count g + 8 * (arc_count g + node_count g) * m

-- 'Eager, verify and the short query shall work with 12 × n entries for every k' (Ask 5)
abbrev pub eager_words : Network → ℕ
eager_words g = 12 * node_count g
