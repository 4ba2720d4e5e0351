-- The demands of document 00, and what their statements are made of.
pub mod Layout
pub mod Calls
pub mod Rows
pub mod Afterwards
pub mod Demand1
pub mod Demand2
