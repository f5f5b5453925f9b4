-- Records of the work and terms of its theory: what makes rows exact (Exact, Flat, Update), and what the functions over rows ask and leave (Put, Take,
-- Check). No public contract is defined by them: the table itself is network's (Rows). The theorems stand in proofs/.
pub mod Exact
pub mod Flat
pub mod Update
pub mod Put
pub mod Take
pub mod Check
