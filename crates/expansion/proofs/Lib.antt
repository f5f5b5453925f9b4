-- The theorems of this crate, from the bottom up: tags and keys; the queue; the node queue; where a search comes from, one node or several, its law and its steps (exported
-- for the searches); entries put in place by place (exported for the table); the area that holds a search, what keeps it, and stopping behind a node;
-- the lockers that come in turn; the three expansions.
pub mod TagLaws
pub mod LentParts
pub mod QueueLaws
pub mod SinkLaws
pub mod SeatLaws
pub mod NodeLaws
pub mod Origins
pub mod Several
pub mod Search
pub mod Steps
pub mod EnteredLaws
pub mod AreaLaws
pub mod AreaSearch
pub mod ClearLaws
pub mod Progress
pub mod Settled
pub mod Waiting
pub mod Beside
pub mod Stopping
pub mod Places
pub mod Turns
pub mod Finding
pub mod WriteLaws
pub mod VisitLaws
