-- What statements say of bytes in plain words: all zeros, not all zeros, and what the types of lent bytes say.
use Rattle.std.specs.Prelude.{ℕ, ◌<◌, ◌≡◌, ◌≢◌, List, length, get_or}

-- "all zeros": every byte is 0
abbrev pub AllZero : List ℕ → Type 0
AllZero xs = (i : ℕ) → get_or xs i 0 ≡ 0

-- not all zeros: there is a byte that is not 0
pub record NotZero (xs : List ℕ) : Type 0 where
  pub place : ℕ
  pub byte_set : get_or xs place 0 ≢ 0

-- bytes: &[u8]
abbrev pub Bytes : List ℕ → Type 0
Bytes xs = (i : ℕ) → get_or xs i 0 < 256

-- n bytes: &[u8; n]
pub record Array (n : ℕ) (xs : List ℕ) : Type 0 where
  pub long : length xs ≡ n
  pub bytes : Bytes xs
