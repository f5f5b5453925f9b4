-- The arcs before place j are offered (`OfferedSecond`).
use Rattle.lazy_searches.specs.Second.{OfferedSecond}
use Rattle.lazy_searches.proofs.second.offer.Given as goal

abbrev pub invariant-loop-j : goal.invariant-loop-j
invariant-loop-j l = OfferedSecond l.fn.g l.fn.s l.s l.fn.k l.fn.len l.more l.fn.p l.fn.u l.fn.d l.j
