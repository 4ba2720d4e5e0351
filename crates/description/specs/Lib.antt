-- The text that describes a live token.
pub mod Literal
pub mod Scope
pub mod Description
pub mod Writing
pub mod Writer
pub mod Apart
