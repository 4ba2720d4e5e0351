-- The laws of the texts: of digits and texts in hexadecimal, of base64url, of decimal.
pub mod Digits
pub mod Hexes
pub mod Letters
pub mod Decimals
pub mod Apart
pub mod Over
