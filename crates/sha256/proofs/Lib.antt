-- The laws of SHA-256: of a number's bytes, of pieces of a list, of padding, of the words W_t, of a digest.
pub mod Digits
pub mod Chunks
pub mod Padding
pub mod Words
pub mod Digests
pub mod Turns
