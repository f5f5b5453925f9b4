-- Records of the work: what a call's number 0 leaves, that is, what holds where no condition is met. The calls' work asks them; no public contract
-- rests on them.
-- Assumes nothing.
use Rattle.std.specs.Prelude.{ℕ, ◌≤◌, ◌<◌, ◌≡◌, true, List, length}
use Rattle.network.specs.Network.{Network, node_count}
use Rattle.network.specs.Accepted.{Accepted}
use Rattle.network.specs.Points.{lockers, marked}
use Rattle.network.specs.Scratch.{eager_words, scratch_words}
use Rattle.network.specs.Rows.{Sized}
use Rattle.conditions.specs.declared.kind.Kind.{Kind}
use Rattle.conditions.specs.declared.kind.Kind.TheVariants.{Insert, Remove}

pub record DistancesReady (g : Network) (node : ℕ) (scratch answers : List ℕ) : Type 0 where
  pub accepted : Accepted g
  pub inside : node < node_count g
  pub room : scratch_words g 1 ≤ length scratch
  pub places : node_count g ≤ length answers

-- of nearest, lazy and lazy-EP
pub record QueryReady (g : Network) (P : List ℕ) (node k : ℕ) (scratch : List ℕ) : Type 0 where
  pub accepted : Accepted g
  pub points : length P ≡ node_count g
  pub inside : node < node_count g
  pub some : 1 ≤ k
  pub few : k ≤ 16
  pub room : scratch_words g k ≤ length scratch

pub record NearestReady (g : Network) (P : List ℕ) (node k : ℕ) (scratch ids distances : List ℕ) : Type 0 where
  pub query : QueryReady g P node k scratch
  pub id_places : k ≤ length ids
  pub distance_places : k ≤ length distances

pub record SearchReady (g : Network) (P : List ℕ) (q k : ℕ) (scratch answers : List ℕ) : Type 0 where
  pub query : QueryReady g P q k scratch
  pub places : node_count g ≤ length answers

-- of the searches with a limit
pub record LimitedReady (g : Network) (P : List ℕ) (q k : ℕ) (scratch answers : List ℕ) : Type 0 where
  pub accepted : Accepted g
  pub points : length P ≡ node_count g
  pub inside : q < node_count g
  pub some : 1 ≤ k
  pub room : eager_words g ≤ length scratch
  pub places : node_count g ≤ length answers

pub record VerifyReady (g : Network) (P : List ℕ) (p q k : ℕ) (scratch : List ℕ) : Type 0 where
  pub accepted : Accepted g
  pub points : length P ≡ node_count g
  pub inside : p < node_count g
  pub inside_q : q < node_count g
  pub room : eager_words g ≤ length scratch

-- of the calls with a table, but for scratch
pub record TableReady (g : Network) (P : List ℕ) (K : ℕ) (ids distances : List ℕ) : Type 0 where
  pub accepted : Accepted g
  pub points : length P ≡ node_count g
  pub least : 2 ≤ K
  pub most : K ≤ 17
  pub sized : Sized g K ids distances

-- what number 0 leaves
pub record BuildReady (g : Network) (P : List ℕ) (K : ℕ) (scratch ids distances : List ℕ) : Type 0 where
  pub ready : TableReady g P K ids distances
  pub room : scratch_words g K ≤ length scratch

-- 11 is not met: what the byte is then
abbrev pub KindReady : Kind → List ℕ → ℕ → Type 0
KindReady Insert P node = lockers P node < 15
KindReady Remove P node = marked P node ≡ true

pub record ChangeReady (kind : Kind) (g : Network) (P : List ℕ) (node K : ℕ) (scratch ids distances : List ℕ) : Type 0 where
  pub inside : node < node_count g
  pub ready : TableReady g P K ids distances
  pub room : scratch_words g K ≤ length scratch
  pub byte : KindReady kind P node

pub record TableQueryReady (g : Network) (P : List ℕ) (q k K : ℕ) (ids distances scratch answers : List ℕ) : Type 0 where
  pub site : q < node_count g
  pub ready : TableReady g P K ids distances
  pub some : 1 ≤ k
  pub few : k < K
  pub room : scratch_words g k ≤ length scratch
  pub places : node_count g ≤ length answers
