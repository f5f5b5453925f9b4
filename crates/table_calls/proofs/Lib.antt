-- The theorems of the calls with a table: the part of the cleared scratch that a call's work is lent (Cleared); each call's outcome, refused and accepted
-- (Outcomes). A folder build/.., updated/.. holds what the check does not find alone of the function of that name.
pub mod Cleared
pub mod Outcomes
