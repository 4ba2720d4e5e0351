-- FIPS 180-4, sections 2.2.2, 3.2 and 4.1.2: the operations on 32-bit words.
use Rattle.std.specs.Prelude.{ℕ, ◌+◌, ◌-◌, ◌*◌, ◌/◌, ◌%◌, ◌^◌, bit_and, bit_or, bit_xor}

-- 2.2.2: ¬, the bitwise complement
abbrev pub not32 : ℕ → ℕ
not32 x = (2 ^ 32 - 1) - x

-- 3.2: addition modulo 2^w, here w = 32
abbrev pub sum32 : ℕ → ℕ → ℕ
sum32 x y = (x + y) % 2 ^ 32

-- 3.2: SHR^n(x) = x >> n
abbrev pub SHR : ℕ → ℕ → ℕ
SHR n x = x / 2 ^ n

-- 3.2: ROTR^n(x) = (x >> n) ∨ (x << w - n)
abbrev pub ROTR : ℕ → ℕ → ℕ
ROTR n x = bit_or (x / 2 ^ n) ((x * 2 ^ (32 - n)) % 2 ^ 32)

-- 4.1.2: Ch(x, y, z) = (x ∧ y) ⊕ (¬x ∧ z)
abbrev pub Ch : ℕ → ℕ → ℕ → ℕ
Ch x y z = bit_xor (bit_and x y) (bit_and (not32 x) z)

-- 4.1.2: Maj(x, y, z) = (x ∧ y) ⊕ (x ∧ z) ⊕ (y ∧ z)
abbrev pub Maj : ℕ → ℕ → ℕ → ℕ
Maj x y z = bit_xor (bit_xor (bit_and x y) (bit_and x z)) (bit_and y z)

-- 4.1.2: Σ0(x) = ROTR^2(x) ⊕ ROTR^13(x) ⊕ ROTR^22(x)
unfoldable pub Σ0 : ℕ → ℕ
Σ0 x = bit_xor (bit_xor (ROTR 2 x) (ROTR 13 x)) (ROTR 22 x)

-- 4.1.2: Σ1(x) = ROTR^6(x) ⊕ ROTR^11(x) ⊕ ROTR^25(x)
unfoldable pub Σ1 : ℕ → ℕ
Σ1 x = bit_xor (bit_xor (ROTR 6 x) (ROTR 11 x)) (ROTR 25 x)

-- 4.1.2: σ0(x) = ROTR^7(x) ⊕ ROTR^18(x) ⊕ SHR^3(x)
unfoldable pub σ0 : ℕ → ℕ
σ0 x = bit_xor (bit_xor (ROTR 7 x) (ROTR 18 x)) (SHR 3 x)

-- 4.1.2: σ1(x) = ROTR^17(x) ⊕ ROTR^19(x) ⊕ SHR^10(x)
unfoldable pub σ1 : ℕ → ℕ
σ1 x = bit_xor (bit_xor (ROTR 17 x) (ROTR 19 x)) (SHR 10 x)
