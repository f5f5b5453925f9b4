-- What is left of the list has the list's number.
use Rattle.std.proofs.Common.{◌≡◌}
use Rattle.conditions.specs.Conditions.{nodes_number}
use Rattle.conditions.proofs.Along.{nodes_from}
use Rattle.conditions.proofs.check_nodes.Given as goal

abbrev pub invariant-loop-node : goal.invariant-loop-node
invariant-loop-node l = nodes_from l.n l.route l.node-index ≡ nodes_number l.n l.route
