-- The laws of the lazy searches, from the bottom up. Of lazy, with or without extended pruning: its entries by their parents; the search under way.
-- Of lazy: the nodes that a verification settles; counting them; verifying a point; the search with the counts. Of lazy with extended pruning: rows of
-- places; the second expansion; the search with both.
pub mod Parents
pub mod LazySearch
pub mod Places
pub mod CountLaws
pub mod Discovery
pub mod Lazily
pub mod RowLaws
pub mod SecondLaws
pub mod LazyEpLaws
