-- What the line program does with a chunk of its input.
pub mod Chunk
