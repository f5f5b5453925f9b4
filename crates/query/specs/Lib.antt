-- Records of the work: what the table query and its functions ask and leave. No public contract is defined by them. The theorems stand in proofs/.
pub mod Query
