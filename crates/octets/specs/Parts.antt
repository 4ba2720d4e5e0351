-- Parts of a list of bytes, and a list with a part replaced. Each means something for a list of any length.
use Rattle.std.specs.Prelude.{ℕ, Bool, true, false, ◌&&◌, List, [], ◌∷◌, ◌++◌, eqb, length, take, drop, replicate}

-- the n bytes of l from index a on, or as many as there are
abbrev pub part : List ℕ → ℕ → ℕ → List ℕ
part l a n = take n (drop a l)

-- l with the n bytes from index a on replaced by xs
abbrev pub splice : List ℕ → ℕ → ℕ → List ℕ → List ℕ
splice l a n xs = take a l ++ (xs ++ drop n (drop a l))

-- xs laid over the front of s, as much of it as there is room for
unfoldable pub laid : List ℕ → List ℕ → List ℕ
laid xs s = take (length s) xs ++ drop (length xs) s

-- l with xs laid over it from index a on
unfoldable pub put : List ℕ → ℕ → List ℕ → List ℕ
put l a xs = take a l ++ laid xs (drop a l)

-- n zeros
unfoldable pub blank : ℕ → List ℕ
blank n = replicate n 0

-- every byte is zero
unfoldable pub zeros : List ℕ → Bool
zeros [] = true
zeros (x ∷ xs) = eqb x 0 && zeros xs

-- the same bytes
unfoldable pub same : List ℕ → List ℕ → Bool
same [] [] = true
same [] (y ∷ ys) = false
same (x ∷ xs) [] = false
same (x ∷ xs) (y ∷ ys) = eqb x y && same xs ys
