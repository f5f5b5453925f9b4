-- The list of the flags is written, and what the search used is cleared.
use Rattle.std.proofs.Common.{ap, ◌∙◌, length, arith}
use Rattle.network.specs.Answers.{answered}
use Rattle.searches.proofs.EagerLaws.{wiped_size}
use Rattle.searches.proofs.Wiping.{wiped_front}
use Rattle.households.specs.Winning.{outer_base}
use Rattle.households.proofs.Winning.{won_list}
use Rattle.households.proofs.won.Goals as goal

pub returns : goal.returns
returns c =
    let e = c.explore-settled.ensures in
    let l = won_list e in
    let o = outer_base c.args.g.now in
    let w = rw c.nodes-n.ensures at c.write_found-size.ensures in
    let d = rw c.nodes-n.ensures at c.clear.ensures in
    rw c.nodes-n.ensures
    record {
      sized = w.1 ∙ ap length l;
      answers = w.0 ∙ ap (λ a. answered a c.args.answers.now) l;
      area =
          wiped_size e.size
          (wiped_front o o (omega (arith, d.frame.size, e.size, c.requires.can_win.size)) (λ j h m. absurd (omega arith)) d
          (rw c.nodes-n.ensures at (c.fill.ensures.after (λ y e. e))));
    }
