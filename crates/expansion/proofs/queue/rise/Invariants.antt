-- The entry can rise from the hole, and whatever fills this hole fills the first one.
use Rattle.std.proofs.Common.{ℕ, List}
use Rattle.expansion.specs.Queue.{entry_key, CanRise, Filled}
use Rattle.expansion.proofs.queue.rise.Given as goal

pub record Rising (xs₀ xs : List ℕ) (len start hole key : ℕ) : Type 0 where
  pub rises : CanRise xs len hole key
  pub onward : (zs : List ℕ) → Filled xs zs len hole key → Filled xs₀ zs len start key

abbrev pub invariant-loop-hole : goal.invariant-loop-hole
invariant-loop-hole l = Rising l.initial.q l.q l.len l.start l.hole (entry_key l.entry)

abbrev pub decreases-loop-hole : goal.decreases-loop-hole
decreases-loop-hole l = l.hole
