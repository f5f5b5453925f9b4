-- What a number 0 leaves to the work (Ready); the sheet of N, worked out (Examples).
pub mod Ready
pub mod Examples
