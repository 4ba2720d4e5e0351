-- A text that is written over the front of an output (document 02, Q-1).
use Rattle.std.specs.Prelude.{ℕ, cond, List, leb, length, Option, Some, None}
use Rattle.octets.specs.Parts.{put}

-- "The answer is the number and the text's length", "20 when the buffer is shorter than the text"
unfoldable pub written : List ℕ → List ℕ → Option ℕ
written text out = cond (leb (length text) (length out)) (Some (length text)) None

-- "bytes behind the text stay"; all of them where there is no room
unfoldable pub written_over : List ℕ → List ℕ → List ℕ
written_over text out = cond (leb (length text) (length out)) (put out 0 text) out
