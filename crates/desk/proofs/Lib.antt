-- The law of turns, laws of the desk's own checks, and of what the calls write.
pub mod Turns
pub mod Tests
pub mod Written
