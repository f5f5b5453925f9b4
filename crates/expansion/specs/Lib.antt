-- Records of the work: what the queues, the steps of an expansion and the whole expansions ask and leave. No public contract is defined by them. The
-- theorems stand in proofs/.
pub mod Tags
pub mod Queue
pub mod NodeQueue
pub mod Area
pub mod Taken
pub mod Expand
pub mod Distances
pub mod Found
pub mod Visited
