-- What the ledger says and what its writers keep.
pub mod Slots
pub mod Puts
pub mod Written
pub mod Says
pub mod Plain
pub mod Searches
pub mod Heads
pub mod Replaced
pub mod Kept
pub mod Ranges
