-- The theorems of this crate: the sites wait; a list grows, and it is whole; its length is the sheet's entry.
pub mod Starting
pub mod Growing
pub mod Listing
pub mod Lists
pub mod Entering
