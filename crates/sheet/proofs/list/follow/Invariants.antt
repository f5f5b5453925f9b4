-- The arcs before place j are followed.
use Rattle.sheet.specs.List.{MemberFollowed}
use Rattle.sheet.proofs.list.follow.Given as goal

abbrev pub invariant-loop-j : goal.invariant-loop-j
invariant-loop-j l = MemberFollowed l.g l.initial.s l.s l.households l.q l.node l.initial.members.size l.members l.j
