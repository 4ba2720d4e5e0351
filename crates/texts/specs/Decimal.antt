-- Decimal: the digits of a number, without leading zeros.
use Rattle.std.specs.Prelude.{ℕ, zero, suc, ◌+◌, ◌-◌, ◌*◌, ◌/◌, ◌%◌, ◌<◌, ◌≡◌, Bool, true, cond, ◌&&◌, List, [], ◌∷◌, ◌++◌, ltb, leb, length, get_or}
use Rattle.octets.specs.Lists.{every}

-- a digit's character: 0 to 9
unfoldable pub is_decimal : ℕ → Bool
is_decimal c = leb 48 c && leb c 57

-- the number that digits go on to, read so far as acc
unfoldable pub value_from : ℕ → List ℕ → ℕ
value_from acc [] = acc
value_from acc (c ∷ text) = value_from (acc * 10 + (c - 48)) text

-- the number that a text of digits stands for, the highest digit first
unfoldable pub value : List ℕ → ℕ
value text = value_from 0 text

-- what the text of n is: digits, at least one, whose value is n, and a zero leads only where it stands alone
pub record Decimal (n : ℕ) (text : List ℕ) : Type 0 where
  pub digits : every is_decimal text ≡ true
  pub some : 0 < length text
  pub stands : value text ≡ n
  pub alone : get_or text 0 0 ≡ 48 → length text ≡ 1

-- that text, computed; `most` is any number above n
unfoldable pub decimal_in : ℕ → ℕ → List ℕ
decimal_in zero n = []
decimal_in (suc most) n = cond (ltb n 10) ((48 + n) ∷ []) (decimal_in most (n / 10) ++ ((48 + n % 10) ∷ []))

unfoldable pub decimal : ℕ → List ℕ
decimal n = decimal_in (suc n) n

-- it is the text of n, and there is no other
abbrev pub TheDigits : Type 0
TheDigits = (n : ℕ) → Decimal n (decimal n) × ((text : List ℕ) → Decimal n text → text ≡ decimal n)

-- the longest text of a number below 2^64
abbrev pub decimal_most : ℕ
decimal_most = 20
