-- SHA-256 as FIPS 180-4 defines it, in the order of its sections. Words are natural numbers below 2 ^ 32.
pub mod Word
pub mod Constants
pub mod Pad
pub mod Schedule
pub mod Round
pub mod Hash
