-- What every run of calls keeps: runs, what happens in them, what is counted, the history of a grant number, and demand 3.
pub mod Runs
pub mod Events
pub mod Counts
pub mod Histories
pub mod Demand3
pub mod Introspected
pub mod Example
