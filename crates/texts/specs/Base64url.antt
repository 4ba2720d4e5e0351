-- The base64url text of some bytes, without padding: RFC 4648, sections 4 and 5, in our words.
use Rattle.std.specs.Prelude.{ℕ, ◌+◌, ◌-◌, ◌*◌, ◌/◌, ◌%◌, ◌^◌, cond, List, [], ◌∷◌, ◌++◌, ltb, get_or, take}

-- the alphabet of section 5: 0 to 25 are A-Z, 26 to 51 a-z, 52 to 61 0-9, 62 is - and 63 is _
unfoldable pub letter : ℕ → ℕ
letter v = cond (ltb v 26) (0x41 + v) (cond (ltb v 52) (0x61 + (v - 26)) (cond (ltb v 62) (0x30 + (v - 52)) (cond (ltb v 63) 0x2D 0x5F)))

-- three bytes are one group of 24 bits, the first byte highest
abbrev pub group : ℕ → ℕ → ℕ → ℕ
group x y z = x * 2 ^ 16 + y * 2 ^ 8 + z

-- which is four groups of six bits, the highest first, each with its character
unfoldable pub characters : ℕ → ℕ → ℕ → List ℕ
characters x y z =
    letter (group x y z / 2 ^ 18 % 2 ^ 6)
    ∷ letter (group x y z / 2 ^ 12 % 2 ^ 6)
    ∷ letter (group x y z / 2 ^ 6 % 2 ^ 6)
    ∷ letter (group x y z % 2 ^ 6) ∷ []

-- what is left at the end gets zero bits on its right up to whole groups of six: one byte gives two characters, two bytes three
unfoldable pub base64url : List ℕ → List ℕ
base64url [] = []
base64url (x ∷ []) = take 2 (characters x 0 0)
base64url (x ∷ y ∷ []) = take 3 (characters x y 0)
base64url (x ∷ y ∷ z ∷ bs) = characters x y z ++ base64url bs

-- ---- the same by index, as the code goes: character j is one of the group of three bytes that it belongs to, with zeros behind the last byte

unfoldable pub character_at : List ℕ → ℕ → ℕ
character_at bs j = get_or (characters (get_or bs (j / 4 * 3) 0) (get_or bs (j / 4 * 3 + 1) 0) (get_or bs (j / 4 * 3 + 2) 0)) (j % 4) 0
