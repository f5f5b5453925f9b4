-- The arcs before place j have put in their offers, where the row that they lead to has a place (`OfferedOn`).
use Rattle.table.specs.Build.{OfferedOn}
use Rattle.table.proofs.build.offer_on.Given as goal

abbrev pub invariant-loop-j : goal.invariant-loop-j
invariant-loop-j l = OfferedOn l.g l.initial.s l.s l.ids l.places l.len l.more l.fn.offer.node l.fn.offer.point l.fn.offer.distance l.j
