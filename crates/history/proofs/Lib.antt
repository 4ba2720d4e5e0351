-- Demand 3, proved.
pub mod Steps
pub mod Events
pub mod Effects
pub mod Runs
pub mod Balance
pub mod Numbers
pub mod Links
pub mod Invariant
pub mod Readings
pub mod SecondUses
pub mod Ended
pub mod Demand3
pub mod Introspected
pub mod Begins
pub mod Example
