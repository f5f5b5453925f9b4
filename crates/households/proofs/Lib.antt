-- The theorems of this crate: a look leaves its words 0; the search for the households under way, and where it ends.
pub mod Winning
