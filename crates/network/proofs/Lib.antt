-- The theorems about the definitions of specs/, for this crate and for those above it. From the bottom up: tests and counts; a part that is lent;
-- arcs and the network check; walks and distances; the order by distance and node; rows; the visits; households and
-- routes; P1 to P10.
pub mod Tests
pub mod Counts
pub mod Tabulate
pub mod Lends
pub mod NodeArcs
pub mod CheckTests
pub mod Ranges
pub mod NumberZero
pub mod ArcAt
pub mod Walks
pub mod Within
pub mod Trail
pub mod Least
pub mod Distances
pub mod DistancesFrom
pub mod Totals
pub mod Single
pub mod Ordered
pub mod Insert
pub mod Rank
pub mod Rows
pub mod Visits
pub mod OwnLockers
pub mod Households
pub mod Routes
pub mod Prefix
pub mod Cases
