-- The text of a digest, and the rule for a verifier and a challenge.
pub mod Base64url
pub mod Rule
