-- The client table: where its fields are, how long a reference lives, which tables are sound, which client is known.
pub mod Limits
pub mod Fields
pub mod Lifetime
pub mod Sound
pub mod Known
pub mod Plain
pub mod Profile
