-- The input as it comes, in chunks, and its end. The output's buffer has room for so many bytes; what it has no room for is not taken yet.
use Rattle.std.specs.Prelude.{ℕ, ◌+◌, ◌-◌, not, ◌&&◌, cond, List, [], ◌∷◌, ◌++◌, eqb, leb, length}
use Rattle.octets.specs.Parts.{laid, put}
use Rattle.frames.specs.Limits.{answer_line}
use Rattle.frames.specs.Line.{line_end}
use Rattle.lines.specs.Turn.{Held, turn, says, fits}

-- one byte with the output's buffer: what it puts out goes behind what is filled already
pub record Turned : Type 0 where
  pub held : Held
  pub filled : ℕ
  pub out : List ℕ

abbrev pub turned : Held → ℕ → List ℕ → Turned
turned h filled out = record { held = h; filled = filled; out = out }

abbrev pub putting : Held → List ℕ → ℕ → List ℕ → Turned
putting h bytes filled out = turned h (filled + length bytes) (put out filled bytes)

-- what is left of a chunk: what is kept, what was put out, and what is not taken yet
pub record Fed : Type 0 where
  pub held : Held
  pub output : List ℕ
  pub rest : List ℕ

abbrev pub fed : Held → List ℕ → List ℕ → Fed
fed h o cs = record { held = h; output = o; rest = cs }

-- byte after byte, as long as the output has room for one more answer's line
unfoldable pub feed_from : ℕ → Held → List ℕ → List ℕ → Fed
feed_from room h o [] = fed h o []
feed_from room h o (c ∷ cs) = cond (leb (length o + answer_line) room) (feed_from room (turn h c) (o ++ says h c) cs) (fed h o (c ∷ cs))

-- the same in the buffers: how much of the input was taken, and the output over the front of its buffer
pub record Left : Type 0 where
  pub held : Held
  pub taken : ℕ
  pub filled : ℕ
  pub out : List ℕ

abbrev pub left : Held → ℕ → ℕ → List ℕ → Left
left h taken filled out = record { held = h; taken = taken; filled = filled; out = out }

abbrev pub leaves : Fed → List ℕ → List ℕ → Left
leaves f input out = left f.held (length input - length f.rest) (length f.output) (laid f.output out)

-- a chunk; where a buffer has not its size, nothing is taken
unfoldable pub feed : Held → List ℕ → List ℕ → Left
feed h input out = leaves (cond (fits h) (feed_from (length out) h [] input) (fed h [] input)) input out

-- the end of input: "a last line without it counts", where one is begun
unfoldable pub finish : Held → List ℕ → Left
finish h out =
    leaves (cond (fits h && (not (eqb h.state.line 0) && leb answer_line (length out))) (fed (turn h line_end) (says h line_end) []) (fed h [] []))
    [] out
