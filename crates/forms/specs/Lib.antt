-- The forms of redirect, challenge and verifier, and their limits.
pub mod Limits
pub mod Forms
pub mod Plain
