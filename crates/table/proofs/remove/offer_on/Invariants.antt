-- The arcs before place j have put in their offers, where they lead to short rows (`OfferedShort`).
use Rattle.table.specs.Mend.{OfferedShort}
use Rattle.table.proofs.remove.offer_on.Given as goal

abbrev pub invariant-loop-j : goal.invariant-loop-j
invariant-loop-j l = OfferedShort l.g l.initial.s l.s l.len l.more l.fn.offer.node l.fn.offer.point l.fn.offer.distance l.j
