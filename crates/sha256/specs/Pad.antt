-- FIPS 180-4, sections 5.1.1 and 5.2.1: the padding of a message, and its blocks. A message is a list of bytes.
use Rattle.std.specs.Prelude.{ℕ, ◌-◌, ◌*◌, ◌/◌, ◌%◌, List, [], ◌∷◌, ◌++◌, length, drop}
use Rattle.octets.specs.Numbers.{num, digits}
use Rattle.octets.specs.Parts.{part, laid, blank}

-- 5.1.1: as few zero bits as bring the message and the bit 1 to 448 modulo 512 bits.
-- For n bytes: the zero bytes behind the byte that holds the bit 1 and the first seven of those zero bits.
abbrev pub zero_bytes : ℕ → ℕ
zero_bytes n = (119 - n % 64) % 64

-- 5.1.1: the message, the bit 1, the zero bits, and the number of the message's bits in 64 bits.
-- Of a number that does not fit, its lowest 64 bits.
unfoldable pub pad : List ℕ → List ℕ
pad m = m ++ (0x80 ∷ (blank (zero_bytes (length m)) ++ digits 8 (8 * length m)))

-- 5.2.1: the padded message is parsed into N blocks of 512 bits: N
unfoldable pub blocks : List ℕ → ℕ
blocks m = length (pad m) / 64

-- 5.2.1: the block k of the padded message p, counted from 0
abbrev pub block : List ℕ → ℕ → List ℕ
block p k = part p (64 * k) 64

-- 5.2.1: a block is sixteen words M_0, .., M_15 of 32 bits: M_t of the block b
abbrev pub word_at : List ℕ → ℕ → ℕ
word_at b t = num (part b (4 * t) 4)

-- ---- what the code fills a block with

-- the message and the byte that holds the bit 1
abbrev pub marked : List ℕ → List ℕ
marked m = m ++ (0x80 ∷ [])

-- the 64 bytes of xs from index a on, zeros behind its end
abbrev pub window : List ℕ → ℕ → List ℕ
window xs a = laid (drop a xs) (blank 64)
