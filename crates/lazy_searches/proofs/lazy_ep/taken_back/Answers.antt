-- The last yes is that of the row of u, which is closed.
use Rattle.std.proofs.Common.{inr, arith}
use Rattle.expansion.proofs.Settled.{label_known}
use Rattle.lazy_searches.proofs.lazy_ep.taken_back.Goals as goal

pub returns : goal.returns
returns c =
    let a = c.args in
    let label = c.label_of-label in
    λ e.
    inr
    (record {
      label = label.result;
      settled = label_known a.n a.s.now a.outer a.u label.result (omega (arith, c.requires.3)) label.ensures c.if-label.false;
      closed = c.closed-2.ensures e;
    })
