-- Hexadecimal (RFC 4648, section 8): "either case in, lower case out" (document 01, section "The line program").
use Rattle.std.specs.Prelude.{ℕ, ◌+◌, ◌-◌, ◌*◌, ◌/◌, ◌%◌, Bool, ◌&&◌, ◌||◌, cond, List, [], ◌∷◌, eqb, ltb, leb, length, get_or}
use Rattle.octets.specs.Lists.{every}
use Rattle.octets.specs.Parts.{laid}

abbrev pub between : ℕ → ℕ → ℕ → Bool
between a b c = leb a c && leb c b

-- a digit's character: 0 to 9, A to F, a to f
unfoldable pub is_digit : ℕ → Bool
is_digit c = between 48 57 c || (between 65 70 c || between 97 102 c)

-- what it stands for
unfoldable pub digit : ℕ → ℕ
digit c = cond (leb c 57) (c - 48) (cond (leb c 70) (c - 55) (c - 87))

-- a text of whole bytes: no odd digit, nothing but digits
unfoldable pub is_hex : List ℕ → Bool
is_hex text = eqb (length text % 2) 0 && every is_digit text

-- its bytes: two digits each, the higher first
unfoldable pub decoded : List ℕ → List ℕ
decoded [] = []
decoded (a ∷ []) = []
decoded (a ∷ b ∷ text) = (16 * digit a + digit b) ∷ decoded text

-- the bytes of a text laid over the front of s; what is not hexadecimal leaves s as it is
unfoldable pub decoded_over : List ℕ → List ℕ → List ℕ
decoded_over text s = cond (is_hex text) (laid (decoded text) s) s

-- a digit's character in lower case
unfoldable pub glyph : ℕ → ℕ
glyph d = cond (ltb d 10) (48 + d) (87 + d)

-- the text of some bytes: the higher digit of each, then the lower
unfoldable pub hex : List ℕ → List ℕ
hex [] = []
hex (b ∷ bytes) = glyph (b / 16) ∷ glyph (b % 16) ∷ hex bytes

-- ---- the same by index, as the code goes: byte i of a text, and character j of some bytes

unfoldable pub pair_at : List ℕ → ℕ → ℕ
pair_at text i = 16 * digit (get_or text (2 * i) 0) + digit (get_or text (2 * i + 1) 0)

unfoldable pub glyph_at : List ℕ → ℕ → ℕ
glyph_at bytes j = glyph (cond (eqb (j % 2) 0) (get_or bytes (j / 2) 0 / 16) (get_or bytes (j / 2) 0 % 16))
