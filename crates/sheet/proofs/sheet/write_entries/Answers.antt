-- Each entry is stored behind those before it.
use Rattle.std.proofs.Common.{◌≡◌, arith}
use Rattle.network.specs.Network.{node_count}
use Rattle.network.proofs.Tabulate.{stored_none, stored_more}
use Rattle.sheet.proofs.Entering.{entering_start, can_enter, entering_more, entries_left}
use Rattle.sheet.proofs.sheet.write_entries.Goals as goal

pub loop-at-init : goal.loop-at-init
loop-at-init c = record { entering = entering_start c.requires; stored = stored_none _ _ }

pub entry_of-requires : goal.entry_of-requires
entry_of-requires c = can_enter c.requires c.loop-at.invariant.entering (rw c.nodes-n.ensures at c.loop-at-test.true)

pub bounds-answers-at : goal.bounds-answers-at
bounds-answers-at c =
    omega (arith, c.nodes-n.ensures, c.loop-at-test.true, c.loop-at.invariant.stored.size, c.requires.places)

pub loop-at-preserved : goal.loop-at-preserved
loop-at-preserved c =
    record {
      entering = entering_more c.loop-at.invariant.entering c.entry_of.ensures;
      stored =
          stored_more c.entry_of.result c.loop-at.invariant.stored (omega (arith, c.nodes-n.ensures, c.loop-at-test.true, c.requires.places))
          c.entry_of.ensures.entry;
    }

pub shape_of-s : goal.shape_of-s
shape_of-s c = c.loop-at.invariant.entering.frame.size

pub shape_of-answers : goal.shape_of-answers
shape_of-answers c = c.loop-at.invariant.stored.size

pub returns : goal.returns
returns c =
    let e : c.loop-at.at ≡ node_count c.args.g.now = omega (arith, c.nodes-n.ensures, c.loop-at.auto.at-end, c.loop-at-test.false) in
    entries_left c.loop-at.invariant.entering.frame.size (rw e at c.loop-at.invariant.stored)
