-- Where build begins and ends: arrays made empty are what `spread` requires, and the table with the cleared words is what build leaves.
-- Assumes nothing.
use Prim.Native.Nat.{ℕ}
use mathlib.Core.Path.{◌≡◌, ap, ◌∙◌}
use mathlib.Core.List.{List}
use native.Mathlib.Omega.{arith}
use lib.ListN.{length, replicate, length-replicate}
use Rattle.network.specs.Network.{Network}
use Rattle.network.specs.Distance.{NONE}
use Rattle.expansion.proofs.Settled.{zero_blank}
use Rattle.table.specs.Build.{CanSpread, SpreadLeft, CanBuild, BuildLeft}

pub can_spread : {g : Network} {P xs ids dists ids' dists' : List ℕ} {K : ℕ} → CanBuild g P xs ids dists K → ids' ≡ replicate (length ids) NONE
    → dists' ≡ replicate (length dists) NONE → CanSpread g P xs ids' dists' K
can_spread {ids} {dists} c a b =
    record {
      can = record {
        accepted = c.accepted;
        points = c.points;
        least = c.least;
        most = c.most;
        sized = record {
          all_ids = ap length a ∙ length-replicate (length ids) NONE ∙ c.sized.all_ids;
          all_dists = ap length b ∙ length-replicate (length dists) NONE ∙ c.sized.all_dists;
        };
        blank = c.blank;
        room = c.room;
      };
      empty_ids = a ∙ ap (λ (x : ℕ). replicate x NONE) c.sized.all_ids;
      empty_dists = b ∙ ap (λ (x : ℕ). replicate x NONE) c.sized.all_dists;
    }

pub build_left : {g : Network} {P xs ys zs ids dists : List ℕ} {K : ℕ} → SpreadLeft g P xs ys ids dists K → zs ≡ replicate (length ys) 0 → BuildLeft g P xs zs ids dists K
build_left {ys} t e =
    record {
      table = t.table;
      area = record {
        frame = record { size = ap length e ∙ length-replicate (length ys) 0 ∙ t.size; words = λ i h. absurd (omega arith) };
        blank = zero_blank (length ys) 0 e;
      };
    }
