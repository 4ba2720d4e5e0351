-- The line program's work on its whole input: the run of lines, the input as it comes, and the statement that ties the two.
pub mod Lines
pub mod Turn
pub mod Feed
pub mod Run
