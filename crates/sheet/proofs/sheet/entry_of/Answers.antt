-- 0 without a site, else what the list of the site says.
use mathlib.Core.Path.{◌≡◌}
use mathlib.Core.Bool.{true, false}
use mathlib.Core.Logic.{◌≢◌}
use native.Mathlib.Omega.{arith}
use borrow.Author.Tests.{lt-ltb, le-ltb}
use Rattle.network.specs.Points.{lockers, marked}
use Rattle.sheet.proofs.Lists.{can_list, entry_there, entry_none}
use Rattle.sheet.proofs.sheet.entry_of.Goals as goal

pub returns-then-there-eq0 : goal.returns-then-there-eq0
returns-then-there-eq0 c =
    let absent : c.lockers_at-there.result ≡ 0 → marked c.args.sites.now c.args.node ≡ false = λ h. le-ltb 0 (lockers c.args.sites.now c.args.node) (omega (arith, c.lockers_at-there.ensures.0)) in
    entry_none c.requires (absent c.if-there-eq0.true)

pub list_length-requires : goal.list_length-requires
list_length-requires c =
    let present : c.lockers_at-there.result ≢ 0 → marked c.args.sites.now c.args.node ≡ true = λ h. lt-ltb 0 (lockers c.args.sites.now c.args.node) (omega (arith, c.lockers_at-there.ensures.0)) in
    can_list c.requires (present c.if-there-eq0.false)

pub returns : goal.returns
returns c =
    let present : c.lockers_at-there.result ≢ 0 → marked c.args.sites.now c.args.node ≡ true = λ h. lt-ltb 0 (lockers c.args.sites.now c.args.node) (omega (arith, c.lockers_at-there.ensures.0)) in
    entry_there c.requires (present c.if-there-eq0.false) c.list_length.ensures
