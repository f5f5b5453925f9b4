-- The definitions of document 01 (../shared/01-scope.md), with those of document 02 that go with them, in the order of the document: what a reader of
-- this engine must believe (Count to Answers); the cases of network N (Cases), and theorems about every network (Single, OwnLockers, and at the end of
-- Visits, of Households and of Routes), as statements. Records of the work and terms of the theory: what the functions over a node's parts ask and leave (Parts), and Order. The theorems stand in proofs/.
pub mod Count
pub mod Network
pub mod Check
pub mod Refusal
pub mod Accepted
pub mod Walk
pub mod Distance
pub mod Points
pub mod Nearest
pub mod Visits
pub mod Households
pub mod Routes
pub mod Rows
pub mod Scratch
pub mod Answers
pub mod Cases
pub mod Single
pub mod OwnLockers
pub mod Parts
pub mod Order
