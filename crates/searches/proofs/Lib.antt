-- The laws of the searches, from the bottom up. Of pruning: beaten nodes; who is listed; where the listed points are found; what a search has found
-- at its end; what a look tells. Of lists: the loop that writes what passes a test. Of a search from a site or a route: its flags; looking at a node; the
-- expansion under way. Of eager: its count; where it ends; clearing.
pub mod Beaten
pub mod Listed
pub mod Finds
pub mod Answers
pub mod Tells
pub mod Expanded
pub mod Selected
pub mod FlagLaws
pub mod LookLaws
pub mod Searching
pub mod Exploring
pub mod EagerLaws
pub mod Wiping
