-- "numbers everywhere are big-endian" (document 01, Client table)
use Rattle.std.specs.Prelude.{ℕ, zero, suc, ◌+◌, ◌*◌, ◌/◌, ◌%◌, List, [], ◌∷◌, ◌++◌}

-- the number that xs goes on to, read so far as acc
unfoldable pub num_from : ℕ → List ℕ → ℕ
num_from acc [] = acc
num_from acc (x ∷ xs) = num_from (acc * 256 + x) xs

-- the big-endian number of xs
unfoldable pub num : List ℕ → ℕ
num xs = num_from 0 xs

-- the n lowest big-endian digits of v
unfoldable pub digits : ℕ → ℕ → List ℕ
digits zero v = []
digits (suc n) v = digits n (v / 256) ++ (v % 256 ∷ [])
