-- Records of the work: what build, insert and remove and their steps ask and leave. No public contract is defined by them. The theorems stand in proofs/.
pub mod Updated
pub mod Insert
pub mod Offer
pub mod Build
pub mod Candidate
pub mod Room
pub mod Mend
pub mod Remove
