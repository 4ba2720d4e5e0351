-- The rule S256 (document 01, section "The calls, with checks in order").
use Rattle.std.specs.Prelude.{Bool, true, false, List, ℕ}
use Rattle.octets.specs.Parts.{same}
use Rattle.sha256.specs.Hash.{sha256}
use Rattle.s256.specs.Base64url.{base64url}
use Rattle.s256.specs.declared.Match.{Match}
use Rattle.s256.specs.declared.Match.TheVariants.{Same, Differs}

-- "Verification at 16: base64url without padding of SHA-256 of the verifier equals the stored challenge."
unfoldable pub matches : List ℕ → List ℕ → Bool
matches verifier challenge = same (base64url (sha256 verifier)) challenge

-- what the check answers
abbrev pub match_if : Bool → Match
match_if true = Same
match_if false = Differs

unfoldable pub matching : List ℕ → List ℕ → Match
matching verifier challenge = match_if (matches verifier challenge)
