-- The demands of documents 01 and 02, over the records that the public contracts ensure; a reader must believe all of it. Demand 2, who stands on a
-- list, by walks alone (Demand2); the plain book (Book), and demand 3 about it and the calls (Demand3); the document's examples of refusals, and edges (Examples).
-- The theorems stand in proofs/.
pub mod Demand2
pub mod Book
pub mod Demand3
pub mod Examples
