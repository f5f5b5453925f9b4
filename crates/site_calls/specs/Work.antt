-- Records of the work: what the functions of this crate leave beside the outcomes. No public contract rests on them.
-- Assumes nothing.
use Rattle.std.specs.Prelude.{Option, None, Some, Result, Ok, Err, ℕ, ◌≡◌, List, length}
use Rattle.network.specs.Network.{Network}
use Rattle.searches.specs.declared.eager.LimitedList.{LimitedList}
use Rattle.conditions.specs.declared.answers.Listed.{Listed}
use Rattle.conditions.specs.Conditions.{over_limit}
use Rattle.network.specs.Nearest.{nearest}
use Rattle.network.specs.Answers.{answered}
use Rattle.site_calls.specs.Nearest.{nearest_ids, nearest_distances}
use Rattle.conditions.specs.Values.{found_list}

-- nearest
pub record NearestDone (g : Network) (P : List ℕ) (node e k : ℕ) (ids ids' distances distances' : List ℕ) (found : ℕ) : Type 0 where
  pub count : found ≡ length (nearest g P node e k)
  pub id_answers : ids' ≡ answered (nearest_ids g P node e k) ids
  pub distance_answers : distances' ≡ answered (nearest_distances g P node e k) distances

-- eager and the short query: the answer of either, from that of the search
abbrev pub limited_listed : Option LimitedList → Result Listed ℕ
limited_listed None = Err over_limit
limited_listed (Some c) = Ok (found_list c.size c.count)
