-- The laws of the table of kinds, and of an answer's bytes.
pub mod Fits
pub mod Answers
