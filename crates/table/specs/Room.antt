-- How many arcs the nodes that pass a test have: those that a search may still follow, each once.
-- Assumes nothing.
use Rattle.std.specs.Prelude.{ℕ, zero, suc, ◌+◌, ◌-◌, Bool, true, false}
use Rattle.network.specs.Network.{Network, start_of}

-- how many arcs a node has
abbrev pub degree : Network → ℕ → ℕ
degree g v = start_of g (suc v) - start_of g v

abbrev share : Bool → ℕ → ℕ
share true x = x
share false x = 0

-- the arcs of the nodes below n that pass a test
unfoldable pub arcs_left : Network → (ℕ → Bool) → ℕ → ℕ
arcs_left g t zero = 0
arcs_left g t (suc n) = arcs_left g t n + share (t n) (degree g n)
