-- The laws of the ledger.
pub mod Records
pub mod States
pub mod Swept
pub mod Tests
pub mod Profile
