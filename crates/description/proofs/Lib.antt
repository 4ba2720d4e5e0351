-- Laws of the text: one more name of a scope, lengths, and that two different descriptions never give one text.
pub mod Behind
pub mod Names
pub mod Bits
pub mod Lengths
pub mod Writings
pub mod Apart
pub mod Example
pub mod Reached
