-- Acceptance in plain words; the limit of the profile; what pending shows and decide allows; that introspect and resource agree.
pub mod Conditions
pub mod Accepted
pub mod Profile
pub mod Shown
pub mod Live
