-- What the front adds to the desk's contracts.
pub mod Whole
