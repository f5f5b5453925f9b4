-- Each label word stands for its distance, and what was settled is cleared.
use Rattle.std.proofs.Common.{ap, ◌∙◌}
use Rattle.network.specs.Answers.{answered}
use Rattle.expansion.proofs.Settled.{settled_distances, wiped_after}
use Rattle.expansion.proofs.distances.distances.Goals as goal

pub returns : goal.returns
returns c =
    let told = c.settle_all-settled.ensures in
    record {
      area = wiped_after told.frame c.clear.ensures;
      answers = (rw c.nodes-n.ensures at c.write_distances.ensures) ∙ ap (λ l. answered l c.args.answers.now) (settled_distances told);
    }
