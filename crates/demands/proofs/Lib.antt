-- Demands 1 and 2, as values of their records.
pub mod Turning
pub mod Rows
pub mod Written
pub mod Afterwards
pub mod Demand1
pub mod Demand2
