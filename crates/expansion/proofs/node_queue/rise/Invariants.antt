-- The entry can rise from the hole, the other entries have their seats, and whatever fills this hole fills the first one.
use Rattle.std.proofs.Common.{ℕ, List, drop}
use Rattle.expansion.specs.Queue.{entry_key, CanRise}
use Rattle.expansion.specs.NodeQueue.{Seats, FilledAt}
use Rattle.expansion.proofs.node_queue.rise.Given as goal

pub record Rising (xs₀ xs : List ℕ) (b at len start hole key : ℕ) : Type 0 where
  pub rises : CanRise (drop at xs) len hole key
  pub seats : Seats xs b at len hole key
  pub onward : (zs : List ℕ) → FilledAt xs zs b at len hole key → FilledAt xs₀ zs b at len start key

abbrev pub invariant-loop-hole : goal.invariant-loop-hole
invariant-loop-hole l = Rising l.initial.s l.s l.b l.at l.len l.start l.hole (entry_key l.entry)

abbrev pub decreases-loop-hole : goal.decreases-loop-hole
decreases-loop-hole l = l.hole
