-- The nodes before the present place have their mark and wait (`RouteStarted`).
use Rattle.std.proofs.Common.{take}
use Rattle.routes.specs.Route.{RouteStarted}
use Rattle.routes.proofs.start.Given as goal

abbrev pub invariant-loop-node : goal.invariant-loop-node
invariant-loop-node l = RouteStarted l.n (take l.node-index l.route) l.initial.s l.s l.b l.len
