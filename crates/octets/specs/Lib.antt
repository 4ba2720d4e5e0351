-- What the contracts of octets, and of the crates above it, are written in.
pub mod Lists
pub mod Numbers
pub mod Parts
pub mod Spans
pub mod Plain
