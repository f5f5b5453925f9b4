-- What a call's number 0 leaves, and what a passed condition tells the ones behind it (Ready); S is enough for its work (Words); scratch that is cleared, and is
-- all 0 again (Cleared). The functions of src/ need no file: their attributes name the laws.
pub mod Ready
pub mod Words
pub mod Cleared
