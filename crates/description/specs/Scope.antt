-- "scope (s0 to s31 for bits 2^0 to 2^31, ascending, one blank between)" (document 02, Q-1)
use Rattle.std.specs.Prelude.{ℕ, zero, suc, ◌/◌, ◌%◌, ◌^◌, Bool, cond, List, [], ◌∷◌, ◌++◌, map, eqb}
use Rattle.description.specs.Literal.{bytes}
use Rattle.texts.specs.Decimal.{decimal}

-- how many bits a scope has
abbrev pub scope_width : ℕ
scope_width = 32

-- the name of bit 2^i
unfoldable pub scope_name : ℕ → List ℕ
scope_name i = bytes "s" ++ decimal i

-- whether bit 2^i is set in s
unfoldable pub is_set : ℕ → ℕ → Bool
is_set s i = eqb (s / 2 ^ i % 2) 1

-- the bits below 2^n that are set in s, ascending
unfoldable pub bits_below : ℕ → ℕ → List ℕ
bits_below s zero = []
bits_below s (suc n) = cond (is_set s n) (bits_below s n ++ (n ∷ [])) (bits_below s n)

-- some words, "one blank between"
unfoldable pub spaced : List (List ℕ) → List ℕ
spaced [] = []
spaced (w ∷ []) = w
spaced (w ∷ v ∷ ws) = w ++ (bytes " " ++ spaced (v ∷ ws))

-- one more word behind a text of n characters: a blank comes before it where it is not the first
unfoldable pub one_more : ℕ → List ℕ → List ℕ
one_more n w = cond (eqb n 0) w (bytes " " ++ w)

-- what bit 2^i of s adds behind a text of n characters
unfoldable pub added : ℕ → ℕ → ℕ → List ℕ
added s n i = cond (is_set s i) (one_more n (scope_name i)) []

-- the names of the bits below 2^n that are set in s
unfoldable pub names_below : ℕ → ℕ → List ℕ
names_below s n = spaced (map scope_name (bits_below s n))

unfoldable pub scope_names : ℕ → List ℕ
scope_names s = names_below s scope_width

-- the longest: all 32 names
abbrev pub scope_most : ℕ
scope_most = 117
