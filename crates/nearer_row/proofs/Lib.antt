-- The theorems of Ask 1's row: what a number 0 leaves, the outcomes refused and accepted, and that the struct names the row (Outcomes); worked examples
-- (Examples). A folder holds what the check does not find alone of the function of its name.
pub mod Outcomes
pub mod Examples
