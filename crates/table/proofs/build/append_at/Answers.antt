-- What `append` ensures of the lent parts, said of the whole arrays. The row starts at node * places.
use Rattle.std.proofs.Common.{◌+◌, ◌*◌, refl, get_or}
use mathlib.Core.Bool.{true≢false}
use Rattle.table.proofs.BuildRows.{takes_at}
use Rattle.table.proofs.build.append_at.Goals as goal

pub returns : goal.returns
returns c =
    let i = c.args.offer.node * c.args.places in
    record {
      taken = λ e. takes_at c.requires i (i + c.args.places) c.args.offer.node (get_or c.args.s.now c.args.offer.node 0) c.args.offer.point c.args.offer.distance refl refl refl refl c.in-Some.ensures;
      refused = λ e. absurd (true≢false e);
    }
