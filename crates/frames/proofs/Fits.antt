-- Laws of the lines that are frames.
use Prim.Native.Nat.{ℕ, ◌≤◌, ◌<◌}
use mathlib.Core.Path.{◌≡◌}
use mathlib.Core.Bool.{true, false, and-false}
use mathlib.Core.List.{List}
use lib.Dec.{leb}
use lib.ListN.{length}
use borrow.Author.Tests.{le-leb, lt-leb}
use Rattle.texts.specs.Hex.{is_hex, decoded}
use Rattle.wire.specs.Kinds.{kind_of}
use Rattle.wire.specs.Answers.{no_frame}
use Rattle.frames.specs.Limits.{line_most}
use Rattle.frames.specs.Line.{frame_kind}
use Rattle.frames.specs.Serve.{Desk, served, serve, serve_line}

-- a line of the input: too long, no hexadecimal, or served by the kind of its bytes
module _ (line : List ℕ) (d : Desk) where
  pub line_long : line_most < length line → serve_line line d ≡ served d.ledger d.table no_frame
  unfolding serve_line frame_kind
  line_long h = rw (lt-leb (length line) line_most h)

  pub line_other : is_hex line ≡ false → serve_line line d ≡ served d.ledger d.table no_frame
  unfolding serve_line frame_kind
  line_other e = rw (e, and-false (leb (length line) line_most))

  pub line_bytes : length line ≤ line_most → is_hex line ≡ true → serve_line line d ≡ serve (kind_of (decoded line)) (decoded line) d
  unfolding serve_line frame_kind
  line_bytes h e = rw (le-leb (length line) line_most h, e)
