-- The laws of the client table: Laws is what other crates read, the others are what it and the functions rest on.
pub mod Entries
pub mod Checks
pub mod Laws
pub mod Profile
