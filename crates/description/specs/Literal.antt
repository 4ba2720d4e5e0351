-- A text that is written out, as its bytes: one byte a character. The texts that the desk writes have no character above 127.
use Rattle.std.specs.Prelude.{ℕ, zero, suc, ◌+◌, List, [], ◌∷◌}
use Prim.Native.Char.{code}
use Prim.Native.String.{String, len, char_at}

-- n characters from place i on
abbrev pub bytes_from : String → ℕ → ℕ → List ℕ
bytes_from s i zero = []
bytes_from s i (suc n) = code (char_at s i) ∷ bytes_from s (i + 1) n

abbrev pub bytes : String → List ℕ
bytes s = bytes_from s 0 (len s)
