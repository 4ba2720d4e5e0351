-- The forms in plain words: the length, the beginning, and every byte. That the tests of Forms say the same is a law beside them.
use Rattle.std.specs.Prelude.{ℕ, ◌≤◌, ◌<◌, ◌≡◌, ◌⊎◌, List, length, get_or, take}
use Rattle.forms.specs.Limits.{redirect_least, redirect_most, redirect_prefix, challenge_length, verifier_least, verifier_most}

-- "0x21 to 0x7E"
abbrev pub Visible : ℕ → Type 0
Visible x = (0x21 ≤ x) × (x ≤ 0x7E)

-- "A-Z, a-z, 0-9, - and _"
abbrev pub UrlSafe : ℕ → Type 0
UrlSafe x = (((((0x41 ≤ x) × (x ≤ 0x5A)) ⊎ ((0x61 ≤ x) × (x ≤ 0x7A))) ⊎ ((0x30 ≤ x) × (x ≤ 0x39))) ⊎ (x ≡ 0x2D)) ⊎ (x ≡ 0x5F)

-- "those, with . and ~ too"
abbrev pub Unreserved : ℕ → Type 0
Unreserved x = (UrlSafe x ⊎ (x ≡ 0x2E)) ⊎ (x ≡ 0x7E)

-- "Redirect: 9 to 64 bytes, begins with the eight bytes https:// and every byte is 0x21 to 0x7E."
pub record RedirectWell (s : List ℕ) : Type 0 where
  pub least : redirect_least ≤ length s
  pub most : length s ≤ redirect_most
  pub begins_so : take (length redirect_prefix) s ≡ redirect_prefix
  pub each : (i : ℕ) → i < length s → Visible (get_or s i 0)

-- "Challenge: exactly 43 characters from A-Z, a-z, 0-9, - and _."
pub record ChallengeWell (s : List ℕ) : Type 0 where
  pub exact : length s ≡ challenge_length
  pub each : (i : ℕ) → i < length s → UrlSafe (get_or s i 0)

-- "Verifier: 43 to 128 characters from those, with . and ~ too (RFC 7636)."
pub record VerifierWell (s : List ℕ) : Type 0 where
  pub least : verifier_least ≤ length s
  pub most : length s ≤ verifier_most
  pub each : (i : ℕ) → i < length s → Unreserved (get_or s i 0)
