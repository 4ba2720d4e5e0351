-- The messages that the program of outside vectors hashes.
pub mod Messages
