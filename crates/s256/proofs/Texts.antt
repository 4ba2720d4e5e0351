-- What the text of a digest is: a well-formed challenge.
use Prim.Native.Nat.{ℕ, ◌/◌, ◌%◌, ◌^◌}
use native.Mathlib.Omega.{arith}
use mathlib.Core.Path.{◌≡◌, refl}
use mathlib.Core.Bool.{Bool, true}
use mathlib.Core.List.{List, [], ◌∷◌}
use lib.ListN.{length}
use borrow.Author.Tests.{eq-eqb}
use Rattle.octets.specs.Lists.{every, tabulate}
use Rattle.octets.proofs.Tests.{both_true}
use Rattle.forms.specs.Limits.{challenge_length}
use Rattle.forms.specs.Forms.{url_safe, challenge_formed}
use Rattle.texts.specs.Base64url.{letter, group, characters, base64url}
use Rattle.texts.proofs.Letters.{below, below_at, length_base64url}

-- ---- the alphabet

safe : ℕ → Bool
safe v = url_safe (letter v)

letters_safe : below safe 64 ≡ true
unfolding safe letter url_safe tabulate
letters_safe = refl

letter_safe : (v : ℕ) → url_safe (letter (v % 2 ^ 6)) ≡ true
unfolding safe
letter_safe v = below_at safe 64 letters_safe (v % 2 ^ 6) (omega arith)

-- ---- the text of 32 bytes is a well-formed challenge

pub base64url_safe : (bs : List ℕ) → every url_safe (base64url bs) ≡ true
unfolding base64url characters
base64url_safe [] = refl
base64url_safe (x ∷ []) = rw (letter_safe (group x 0 0 / 2 ^ 18), letter_safe (group x 0 0 / 2 ^ 12))
base64url_safe (x ∷ y ∷ []) = rw (letter_safe (group x y 0 / 2 ^ 18), letter_safe (group x y 0 / 2 ^ 12), letter_safe (group x y 0 / 2 ^ 6))
base64url_safe (x ∷ y ∷ z ∷ bs) =
    rw (letter_safe (group x y z / 2 ^ 18), letter_safe (group x y z / 2 ^ 12), letter_safe (group x y z / 2 ^ 6), letter_safe (group x y z))
    (base64url_safe bs)

pub base64url_challenge : (bs : List ℕ) → length bs ≡ 32 → challenge_formed (base64url bs) ≡ true
unfolding challenge_formed
base64url_challenge bs h = both_true _ _ (eq-eqb (length (base64url bs)) challenge_length (omega (arith, length_base64url bs))) (base64url_safe bs)
