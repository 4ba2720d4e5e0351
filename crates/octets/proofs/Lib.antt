-- The laws of octets: of numbers, of parts, of questions on a list.
pub mod Tests
pub mod Lists
pub mod Numbers
pub mod Parts
pub mod Tabulate
pub mod Chunks
pub mod Ranges
pub mod Bytes
pub mod Spans
