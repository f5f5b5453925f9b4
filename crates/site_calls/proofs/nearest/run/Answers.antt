-- The words copied are the definition's ids and distances, and behind it all words are 0.
use Prim.Native.Nat.{◌*◌}
use mathlib.Core.Path.{refl, ap, ◌∙◌}
use native.Mathlib.Omega.{arith}
use lib.ListN.{length, take}
use Rattle.network.specs.Answers.{answered}
use Rattle.expansion.proofs.Settled.{zero_blank}
use Rattle.site_calls.proofs.Copied.{copied_ids, copied_distances}
use Rattle.numbers.proofs.Cleared.{joined_wiped, all_zero}
use Rattle.numbers.proofs.Words.{words_for_search}
use Rattle.site_calls.proofs.nearest.run.Goals as goal

pub returns : goal.returns
returns c =
    let p = c.requires.query in
    let h = c.nearest-found.ensures in
    let ys = c.nearest-found.new.s in
    let end = 3 * c.args.k in
    let room = words_for_search c.args.g.now c.args.k p.some p.accepted.some in
    record {
      cleared =
          all_zero (length c.args.scratch.now) refl
          (joined_wiped c.args.scratch.now ys _ end (omega arith) (omega (arith, room)) c.fill-2.ensures.len
          (zero_blank (length (take end ys)) 0 (c.fill-2.ensures.after (λ y e. e)))
          h.blank);
      done =
          record {
            count = h.count;
            id_answers = c.copy.ensures ∙ ap (λ l. answered l c.args.ids.now) (copied_ids h.count h.listed);
            distance_answers = c.copy-2.ensures ∙ ap (λ l. answered l c.args.distances.now) (copied_distances h.count h.listed);
          };
    }
