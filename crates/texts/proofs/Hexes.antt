-- Laws of hexadecimal: its lengths, its characters by index, and that reading undoes writing.
use Prim.Native.Nat.{ℕ, zero, suc, ◌+◌, ◌*◌, ◌/◌, ◌%◌, ◌≤◌, ◌<◌}
use native.Mathlib.Omega.{arith}
use mathlib.Core.Path.{◌≡◌, refl, sym, ap, ◌∙◌}
use mathlib.Core.Bool.{true}
use mathlib.Core.List.{List, [], ◌∷◌}
use lib.ListN.{length, get_or}
use borrow.Author.Tests.{lt-ltb, le-ltb}
use Rattle.octets.specs.Lists.{every}
use Rattle.octets.specs.Parts.{laid}
use Rattle.octets.proofs.Numbers.{Octets}
use Rattle.octets.proofs.Tests.{lt_or_le}
use mathlib.Core.Logic.{⊎_elim}
use Rattle.texts.specs.Hex.{is_digit, digit, is_hex, decoded, decoded_over, glyph, hex, pair_at, glyph_at}
use Rattle.texts.proofs.Digits.{at_digits, from_lower, digit_low, digit_lower, hex_of}
use borrow.Author.Tests.{le-leb}

-- ---- lengths

pub length_hex : (bs : List ℕ) → length (hex bs) ≡ 2 * length bs
unfolding hex
length_hex [] = refl
length_hex (b ∷ bs) = omega (arith, length_hex bs)

pub length_decoded : (t : List ℕ) → length (decoded t) ≡ length t / 2
unfolding decoded
length_decoded [] = refl
length_decoded (a ∷ []) = refl
length_decoded (a ∷ b ∷ t) = omega (arith, length_decoded t)

-- ---- by index

pub decoded_at : (t : List ℕ) (i : ℕ) → 2 * i + 1 < length t → get_or (decoded t) i 0 ≡ pair_at t i
unfolding decoded pair_at
decoded_at [] i h = absurd (omega arith)
decoded_at (a ∷ []) i h = absurd (omega arith)
decoded_at (a ∷ b ∷ t) zero h = refl
decoded_at (a ∷ b ∷ t) (suc i) h =
    let p : 2 * suc i ≡ suc (suc (2 * i)) = omega arith in
    let q : 2 * suc i + 1 ≡ suc (suc (2 * i + 1)) = omega arith in
    rw (q, p) (decoded_at t i (omega arith))

pub hex_at : (bs : List ℕ) (j : ℕ) → j < 2 * length bs → get_or (hex bs) j 0 ≡ glyph_at bs j
unfolding hex glyph_at
hex_at [] j h = absurd (omega arith)
hex_at (b ∷ bs) zero h = refl
hex_at (b ∷ bs) (suc zero) h = refl
hex_at (b ∷ bs) (suc (suc j)) h =
    let p : suc (suc j) % 2 ≡ j % 2 = omega arith in
    let q : suc (suc j) / 2 ≡ suc (j / 2) = omega arith in
    rw (p, q) (hex_at bs j (omega arith))

-- ---- reading undoes writing

module _ (d : ℕ) (below : d < 16) where
  glyph_cases : {P : Type 0} → (d < 10 → glyph d ≡ 48 + d → P) → (10 ≤ d → glyph d ≡ 87 + d → P) → P
  unfolding glyph
  glyph_cases f g = ⊎_elim (λ h. f h (rw (lt-ltb d 10 h))) (λ h. g h (rw (le-ltb d 10 h))) (lt_or_le d 10)

  pub digit_glyph : digit (glyph d) ≡ d
  digit_glyph =
      glyph_cases (λ h e. ap digit e ∙ digit_low (48 + d) (omega arith) ∙ omega arith)
      (λ h e. ap digit e ∙ digit_lower (87 + d) (omega arith) ∙ omega arith)

  pub glyph_is : is_digit (glyph d) ≡ true
  glyph_is =
      glyph_cases (λ h e. ap is_digit e ∙ at_digits (48 + d) (omega arith) (omega arith))
      (λ h e. ap is_digit e ∙ from_lower (87 + d) (omega arith) ∙ le-leb (87 + d) 102 (omega arith))

pub decoded_hex : (bs : List ℕ) → Octets bs → decoded (hex bs) ≡ bs
unfolding decoded hex
decoded_hex [] o = refl
decoded_hex (b ∷ bs) o =
    let p : b / 16 < 16 = omega (arith, o 0) in
    let q : b % 16 < 16 = omega arith in
    let e : 16 * (b / 16) + b % 16 ≡ b = omega arith in
    rw (digit_glyph (b / 16) p, digit_glyph (b % 16) q, e, decoded_hex bs (λ i. o (suc i)))

-- what is written is hexadecimal
pub hex_digits : (bs : List ℕ) → Octets bs → every is_digit (hex bs) ≡ true
unfolding hex
hex_digits [] o = refl
hex_digits (b ∷ bs) o =
    let p : b / 16 < 16 = omega (arith, o 0) in
    let q : b % 16 < 16 = omega arith in
    rw (glyph_is (b / 16) p, glyph_is (b % 16) q) (hex_digits bs (λ i. o (suc i)))

pub hex_is : (bs : List ℕ) → Octets bs → is_hex (hex bs) ≡ true
hex_is bs o = hex_of (hex bs) (omega (arith, length_hex bs)) ∙ hex_digits bs o

-- two lists of bytes with one text are equal
pub hex_injective : (bs cs : List ℕ) → Octets bs → Octets cs → hex bs ≡ hex cs → bs ≡ cs
hex_injective bs cs o p e = sym (decoded_hex bs o) ∙ ap decoded e ∙ decoded_hex cs p

-- ---- a text that is read into an output

pub over_hex : (t s : List ℕ) → is_hex t ≡ true → decoded_over t s ≡ laid (decoded t) s
unfolding decoded_over
over_hex t s e = rw e
