-- Ask 1's row (document 02). A reader must believe: the nearer row, the number and what the call returns (Nearer); overlap.h's struct, the part that it
-- names, and that this part is the row (Part). Records of the work: Work. The theorems stand in proofs/.
pub mod Nearer
pub mod Part
pub mod Work
