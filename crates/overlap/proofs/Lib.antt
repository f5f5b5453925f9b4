-- The structs of the exported calls' answers, and the arrays as they leave them (Exported). Demand 2 and demand 3, about the records that these calls
-- ensure, stand in the crate `demands`.
pub mod Exported
