-- The text of a digest is its base64url text.
unfoldable pub use Rattle.texts.specs.Base64url.{letter, characters, base64url}
