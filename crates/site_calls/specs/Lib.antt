-- What the calls without a table answer and leave. A reader must believe: for each call one outcome, what it returns and what every lent array holds
-- then (Shared, Distances, Nearest, Verify, Eager, Lazy); and overlap.h's structs of it (Exported). Records of the work: Work.
pub mod Shared
pub mod Distances
pub mod Nearest
pub mod Verify
pub mod Eager
pub mod Lazy
pub mod Exported
pub mod Work
