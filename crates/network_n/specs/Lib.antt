-- What an answer of overlap.h is as a Result.
pub mod Answers
