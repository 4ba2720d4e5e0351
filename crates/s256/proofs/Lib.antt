-- The laws of s256: of the text of a digest, and of the rule.
pub mod Texts
pub mod Rules
