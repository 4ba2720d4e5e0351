-- The limits of redirect, challenge and verifier (document 01, section "Ledger", last paragraph). They stand here and in no other definition.
use Rattle.std.specs.Prelude.{ℕ, List, [], ◌∷◌}

-- "Redirect: 9 to 64 bytes"
abbrev pub redirect_least : ℕ
redirect_least = 9

abbrev pub redirect_most : ℕ
redirect_most = 64

-- "begins with the eight bytes https://"
unfoldable pub redirect_prefix : List ℕ
redirect_prefix = 0x68 ∷ 0x74 ∷ 0x74 ∷ 0x70 ∷ 0x73 ∷ 0x3A ∷ 0x2F ∷ 0x2F ∷ []

-- "Challenge: exactly 43 characters"
abbrev pub challenge_length : ℕ
challenge_length = 43

-- "Verifier: 43 to 128 characters"
abbrev pub verifier_least : ℕ
verifier_least = 43

abbrev pub verifier_most : ℕ
verifier_most = 128
