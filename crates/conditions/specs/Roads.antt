-- Records of the work: what looking for a road asks. No public contract rests on them.
-- Assumes nothing.
use Rattle.std.specs.Prelude.{ℕ, ◌≡◌, true, List}
use Rattle.network.specs.Network.{part_of}
use Rattle.network.specs.Parts.{HasPart}
use Rattle.network.specs.Answers.{Ascending}
use Rattle.network.specs.Routes.{on_route}

-- node a's neighbours are a part of the array, and rise
pub record RisingPart (starts neighbours : List ℕ) (a : ℕ) : Type 0 where
  pub part : HasPart starts neighbours a
  pub up : Ascending (part_of starts neighbours a)

-- those of each node of a list
abbrev pub RisingParts : List ℕ → List ℕ → List ℕ → Type 0
RisingParts starts neighbours R = (v : ℕ) → on_route R v ≡ true → RisingPart starts neighbours v
