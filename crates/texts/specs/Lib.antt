-- What the texts are: hexadecimal, base64url, decimal.
pub mod Hex
pub mod Base64url
pub mod Decimal
pub mod Spelling
