-- The theorems of a replay: what the calls ask of the scratch; one call more in a run of demand 3 and in the arrays of its answers; and demand 3 as the
-- outcome of the whole list.
pub mod Asking
pub mod Following
pub mod Outcomes
