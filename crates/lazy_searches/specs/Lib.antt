-- Records of the work: what lazy and lazy-EP and their functions ask and leave. No public contract is defined by them. The theorems stand in proofs/.
pub mod Lazy
pub mod Second
pub mod LazyEp
