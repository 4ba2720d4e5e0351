-- The sound ledger in plain words.
pub mod Sound
