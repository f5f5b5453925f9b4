-- The list of the found flags is written, and what the search used is cleared.
use Rattle.std.proofs.Common.{ap, ◌∙◌, length}
use Rattle.network.specs.Answers.{answered}
use Rattle.searches.proofs.EagerLaws.{wiped_size}
use Rattle.routes.proofs.Routing.{touched_list}
use Rattle.routes.proofs.touched.Goals as goal

pub returns : goal.returns
returns c =
    let e = c.explore-settled.ensures in
    let l = touched_list e in
    let w = rw c.nodes-n.ensures at c.write_found-size.ensures in
    record {
      sized = w.1 ∙ ap length l;
      answers = w.0 ∙ ap (λ a. answered a c.args.answers.now) l;
      area = wiped_size e.size c.wipe.ensures;
    }
