-- S is enough for the words that the sheet uses, and all words are 0 behind it.
use native.Mathlib.Omega.{arith}
use lib.ListN.{length, length-take}
use Rattle.numbers.proofs.Cleared.{part_blank, part_wiped}
use Rattle.household_calls.proofs.entries.run.Goals as goal

pub sheet-requires : goal.sheet-requires
sheet-requires c =
    record {
      accepted = c.requires.accepted;
      blank = part_blank (length c.args.scratch.now) _ (c.fill.ensures.after (λ y e. e));
      room = simp length-take (omega arith);
      places = c.requires.places;
    }

pub returns : goal.returns
returns c =
    record {
      area = part_wiped c.args.scratch.now _ (c.fill.ensures.after (λ y e. e)) (omega arith) c.sheet.ensures.area;
      answers = c.sheet.ensures.answers;
    }
