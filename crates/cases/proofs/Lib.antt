-- What is proved of the cases.
pub mod Order
pub mod Starts
pub mod Single
pub mod Times
pub mod Holding
pub mod Inputs
pub mod Meeting
pub mod Table
pub mod Outcomes
pub mod Tries
pub mod Desks
pub mod Reminders
