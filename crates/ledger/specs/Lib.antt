-- The ledger as document 01 has it: limits, fields, soundness, the checks on it, what is written to it, the sweep.
pub mod Limits
pub mod Fields
pub mod Sound
pub mod Checks
pub mod Write
pub mod Sweep
