-- `verify` answers by the rule, and only the point's own flag is written.
use Rattle.std.proofs.Common.{arith}
use Rattle.lazy_searches.proofs.LazyEpLaws.{point_yes, point_no}
use Rattle.lazy_searches.proofs.lazy_ep.verify_point.Goals as goal

pub returns-then-yes : goal.returns-then-yes
returns-then-yes c =
    let p = c.requires in
    point_yes p.can_visit (omega (arith, p.starts_len_bound.0)) p.starts_len_bound.1 c.verify-yes.ensures c.if-yes.true

pub returns-else-yes : goal.returns-else-yes
returns-else-yes c =
    let p = c.requires in
    point_no p.can_visit (omega (arith, p.starts_len_bound.0)) p.starts_len_bound.1 c.verify-yes.ensures c.if-yes.false
