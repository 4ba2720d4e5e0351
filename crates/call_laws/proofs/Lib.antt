-- What the calls keep to.
pub mod Rows
pub mod Readings
pub mod Facts
pub mod Alone
pub mod Profile
pub mod Keeping
pub mod Accepting
pub mod Shown
pub mod Living
