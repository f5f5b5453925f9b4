-- The laws of the table's calls, from the bottom up. Of insert: the expansion under way. Of build: rows under way; its steps and room; the arrays
-- and the scratch. Of remove: its steps; what a short row wants; the rows under way; its room; filling.
pub mod Append
pub mod Gains
pub mod Inserting
pub mod Building
pub mod Runs
pub mod BuildSteps
pub mod BuildRows
pub mod BuildRoom
pub mod Filling
pub mod BuildLaws
pub mod RemoveSteps
pub mod Wanted
pub mod Mending
pub mod Room
pub mod RemoveFilling
