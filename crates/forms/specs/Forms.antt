-- What is well formed (document 01, section "Ledger", last paragraph).
use Rattle.std.specs.Prelude.{ℕ, Bool, true, false, ◌&&◌, ◌||◌, List, eqb, leb, length, take}
use Rattle.octets.specs.Lists.{every}
use Rattle.octets.specs.Parts.{same}
use Rattle.forms.specs.Limits.{redirect_least, redirect_most, redirect_prefix, challenge_length, verifier_least, verifier_most}
use Rattle.forms.specs.declared.Form.{Form}
use Rattle.forms.specs.declared.Form.TheVariants.{Well, Ill}

-- a to b, both included
abbrev pub between : ℕ → ℕ → ℕ → Bool
between a b x = leb a x && leb x b

-- "0x21 to 0x7E"
unfoldable pub visible : ℕ → Bool
visible x = between 0x21 0x7E x

-- "A-Z, a-z, 0-9, - and _"
unfoldable pub url_safe : ℕ → Bool
url_safe x = between 0x41 0x5A x || between 0x61 0x7A x || between 0x30 0x39 x || eqb x 0x2D || eqb x 0x5F

-- "those, with . and ~ too"
unfoldable pub unreserved : ℕ → Bool
unreserved x = url_safe x || eqb x 0x2E || eqb x 0x7E

-- s begins with the bytes of p
abbrev pub begins : List ℕ → List ℕ → Bool
begins p s = same (take (length p) s) p

-- "Redirect: 9 to 64 bytes, begins with the eight bytes https:// and every byte is 0x21 to 0x7E."
unfoldable pub redirect_formed : List ℕ → Bool
redirect_formed s = between redirect_least redirect_most (length s) && (begins redirect_prefix s && every visible s)

-- "Challenge: exactly 43 characters from A-Z, a-z, 0-9, - and _."
unfoldable pub challenge_formed : List ℕ → Bool
challenge_formed s = eqb (length s) challenge_length && every url_safe s

-- "Verifier: 43 to 128 characters from those, with . and ~ too (RFC 7636)."
unfoldable pub verifier_formed : List ℕ → Bool
verifier_formed s = between verifier_least verifier_most (length s) && every unreserved s

-- what a check answers: well formed or ill formed
abbrev pub form_if : Bool → Form
form_if true = Well
form_if false = Ill

unfoldable pub redirect_form : List ℕ → Form
redirect_form s = form_if (redirect_formed s)

unfoldable pub challenge_form : List ℕ → Form
challenge_form s = form_if (challenge_formed s)

unfoldable pub verifier_form : List ℕ → Form
verifier_form s = form_if (verifier_formed s)
