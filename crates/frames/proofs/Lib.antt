-- The laws of frames and their answers, of ledger and table in their buffers, and of the sizes that a frame keeps.
pub mod Lines
pub mod Fits
pub mod Answers
pub mod Holding
pub mod Kept
pub mod Fitting
pub mod Exact
