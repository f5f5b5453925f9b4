-- The theorems of the calls without a table: the work can begin over cleared scratch (Searchable); each call's outcome, refused and accepted (Outcomes);
-- the words that nearest copies (Copied). A folder eager/.., nearest/.. holds what the check does not find alone of the function of that name.
pub mod Searchable
pub mod Outcomes
pub mod Copied
