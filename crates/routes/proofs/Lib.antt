-- The theorems of this crate: the nodes of a route are put in; the search from them under way, and where it ends.
pub mod Starting
pub mod Routing
