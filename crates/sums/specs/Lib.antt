-- Document 02, Ask 13; a reader must believe all of it. What is added up, and the statement (Sums); a small network worked out by hand (Examples). The
-- theorems stand in proofs/.
pub mod Sums
pub mod Examples
