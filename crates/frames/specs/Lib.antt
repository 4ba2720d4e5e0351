-- A line of the line program: which lines are frames, what a frame does and answers, and how ledger and table lie in their buffers.
pub mod Limits
pub mod Line
pub mod Serve
pub mod Hold
