-- A line: "lines of hexadecimal, one frame a line" (document 01, section "The line program").
use Rattle.std.specs.Prelude.{ℕ, ◌&&◌, cond, Option, None, List, [], ◌∷◌, ◌++◌, leb, length}
use Rattle.texts.specs.Hex.{is_hex, decoded, hex}
use Rattle.wire.specs.declared.kind.Kind.{Kind}
use Rattle.wire.specs.Kinds.{kind_of}
use Rattle.frames.specs.Limits.{line_most}

-- "A line that is no frame (odd digits, no hex, empty, unknown kind, wrong length, a yes byte above 01, more than 640 digits)"
unfoldable pub frame_kind : List ℕ → Option Kind
frame_kind line = cond (leb (length line) line_most && is_hex line) (kind_of (decoded line)) None

-- "Lines end in LF"
abbrev pub line_end : ℕ
line_end = 10

-- "Each answer is one line ended by LF."
unfoldable pub line_of : List ℕ → List ℕ
line_of bytes = hex bytes ++ (line_end ∷ [])
