use Prim.Native.Nat.{◌≤◌, ◌<◌}
use native.Mathlib.Omega.{arith}
use Rattle.network.specs.Network.{node_count}
use Rattle.sheet.proofs.Listing.{can_begin, listing_start, listing_few, can_follow, listing_more, listing_done}
use Rattle.sheet.proofs.list.list_length.Goals as goal

pub take_in-members-requires : goal.take_in-members-requires
take_in-members-requires c = rw c.nodes-n.ensures (can_begin c.requires)

pub loop-i-init : goal.loop-i-init
loop-i-init c = λ xs can t. listing_start can t

pub overflow_add-node : goal.overflow_add-node
overflow_add-node c =
    let listing = c.loop-i.invariant c.args.s.now c.requires (rw c.nodes-n.ensures at c.take_in-members.ensures) in
    let low : let n = node_count c.args.g.now in (c.loop-i.i < n) × (n ≤ 65535) = (omega (arith, c.loop-i-test.true, listing_few c.requires listing), c.requires.accepted.few) in
    omega (arith, low)

pub offset_bounds-s-n : goal.offset_bounds-s-n
offset_bounds-s-n c =
    let listing = c.loop-i.invariant c.args.s.now c.requires (rw c.nodes-n.ensures at c.take_in-members.ensures) in
    let low : let n = node_count c.args.g.now in (c.loop-i.i < n) × (n ≤ 65535) = (omega (arith, c.loop-i-test.true, listing_few c.requires listing), c.requires.accepted.few) in
    omega (arith, low)

pub bounds-s-n : goal.bounds-s-n
bounds-s-n c =
    let listing = c.loop-i.invariant c.args.s.now c.requires (rw c.nodes-n.ensures at c.take_in-members.ensures) in
    let low : let n = node_count c.args.g.now in (c.loop-i.i < n) × (n ≤ 65535) = (omega (arith, c.loop-i-test.true, listing_few c.requires listing), c.requires.accepted.few) in
    omega (arith, low, listing.grows.list.room)

pub overflow_add-i : goal.overflow_add-i
overflow_add-i c =
    let listing = c.loop-i.invariant c.args.s.now c.requires (rw c.nodes-n.ensures at c.take_in-members.ensures) in
    let low : let n = node_count c.args.g.now in (c.loop-i.i < n) × (n ≤ 65535) = (omega (arith, c.loop-i-test.true, listing_few c.requires listing), c.requires.accepted.few) in
    omega (arith, low)

pub follow-members-requires : goal.follow-members-requires
follow-members-requires c =
    let listing = c.loop-i.invariant c.args.s.now c.requires (rw c.nodes-n.ensures at c.take_in-members.ensures) in
    rw c.nodes-n.ensures (can_follow c.requires listing c.loop-i-test.true)

pub loop-i-smaller : goal.loop-i-smaller
loop-i-smaller c =
    let listing = c.loop-i.invariant c.args.s.now c.requires (rw c.nodes-n.ensures at c.take_in-members.ensures) in
    let low : let n = node_count c.args.g.now in (c.loop-i.i < n) × (n ≤ 65535) = (omega (arith, c.loop-i-test.true, listing_few c.requires listing), c.requires.accepted.few) in
    omega (arith, low)

pub loop-i-preserved : goal.loop-i-preserved
loop-i-preserved c =
    λ xs can t. listing_more can (c.loop-i.invariant xs can t) c.loop-i-test.true (rw c.nodes-n.ensures at c.follow-members.ensures)

pub shape_of-s : goal.shape_of-s
shape_of-s c =
    let listing = c.loop-i.invariant c.args.s.now c.requires (rw c.nodes-n.ensures at c.take_in-members.ensures) in
    listing.grows.frame.size

pub returns : goal.returns
returns c =
    let listing = c.loop-i.invariant c.args.s.now c.requires (rw c.nodes-n.ensures at c.take_in-members.ensures) in
    listing_done c.requires listing c.loop-i-test.false
