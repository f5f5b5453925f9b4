-- The laws of rows, from the bottom up: the exactness theorem, over rows, by local properties, over the flat arrays and over document 01's two
-- arrays; how one more point changes a row, and how many rows; a row written anew in both arrays. Of the check: the chains over a row, its tests, of a row and of all. Of
-- a change: one point put into a row, or taken out; a row lent.
pub mod Partial
pub mod Exact
pub mod Local
pub mod Flat
pub mod Laid
pub mod Update
pub mod Changed
pub mod Frame
pub mod Chains
pub mod CheckTests
pub mod CheckRows
pub mod CheckTable
pub mod PutLaws
pub mod TakeLaws
pub mod RowLends
