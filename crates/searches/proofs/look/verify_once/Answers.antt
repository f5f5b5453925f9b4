-- The point was not verified before: only its own flags change, as `verify` says.
use Rattle.std.proofs.Common.{arith}
use Rattle.searches.proofs.FlagLaws.{verified_yes, verified_no}
use Rattle.searches.proofs.look.verify_once.Goals as goal

pub returns-then-verify : goal.returns-then-verify
returns-then-verify c =
    rw c.nodes-n.ensures (verified_yes c.requires (omega (arith, c.if-f-at-ne0.false)) (rw c.nodes-n.ensures at c.verify.ensures) c.if-verify.true)

pub returns-else-verify : goal.returns-else-verify
returns-else-verify c =
    verified_no c.requires (omega (arith, c.if-f-at-ne0.false)) (rw c.nodes-n.ensures at c.verify.ensures) c.if-verify.false
