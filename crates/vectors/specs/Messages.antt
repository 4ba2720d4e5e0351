-- The messages of every length from 0 to 130 are the beginnings of one pattern.
use Rattle.std.specs.Prelude.{ℕ, ◌+◌, ◌*◌, ◌%◌, List}
use Rattle.octets.specs.Lists.{tabulate}

-- byte i of the pattern
abbrev pub pattern_at : ℕ → ℕ
pattern_at i = (7 * i + 3) % 256

unfoldable pub pattern : ℕ → List ℕ
pattern n = tabulate pattern_at n
