-- The nodes before the present one with a site wait.
use Rattle.sheet.specs.Sources.{Started}
use Rattle.sheet.proofs.sources.start_all.Given as goal

abbrev pub invariant-loop-at : goal.invariant-loop-at
invariant-loop-at l = Started l.n l.sites l.initial.s l.s l.at l.len
