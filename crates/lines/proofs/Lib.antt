-- The laws of the input as it comes, and the theorems of the whole run.
pub mod Said
pub mod Feeding
pub mod Turning
pub mod Going
pub mod Bytes
pub mod Chunks
pub mod Whole
