-- The theorems of the demands. Demand 2 (Demand2), with the tests of a site by walks (Walks) and what an accepted search said (Said); demand 3, the
-- single claim about every list of calls (Demand3), and an instance of it (Instance); the examples of refusals, by computation (Examples).
pub mod Said
pub mod Walks
pub mod Demand2
pub mod Demand3
pub mod Instance
pub mod Examples
