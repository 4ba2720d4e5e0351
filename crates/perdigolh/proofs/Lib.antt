-- The laws of a chunk that is passed on, of the chunks that are read, and of the bytes that streams hold.
pub mod Bytes
pub mod Passing
pub mod Reading
