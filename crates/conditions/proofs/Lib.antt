-- The laws of the conditions' numbers (NotMet), those of a list of nodes (Along), and of the bytes (Bytes). A folder holds the invariants and answers of the
-- function of its name.
pub mod NotMet
pub mod Along
pub mod Bytes
