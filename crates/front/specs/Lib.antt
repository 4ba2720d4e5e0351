-- What C hands in and reads back, in the desk's own terms.
pub mod Consent
pub mod Seen
pub mod Version
