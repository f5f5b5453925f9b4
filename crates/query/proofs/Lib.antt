-- The laws of the table query, from the bottom up: what a row says; the query's flags; the search under way; where it begins and ends.
pub mod RowNearest
pub mod QueryFlags
pub mod Querying
pub mod QueryLaws
