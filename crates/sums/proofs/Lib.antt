-- The theorem of Ask 13: one household and its sites (Sites), the sums and the sheet's call (AddsUp); the network N worked out, by computation (Examples).
pub mod Sites
pub mod AddsUp
pub mod Examples
