-- What is kept of the input, and what one byte does: it is gathered to its line, and a line is answered at its end.
use Rattle.std.specs.Prelude.{ℕ, ◌+◌, Bool, ◌&&◌, cond, List, [], eqb, leb, length, take, set}
use Rattle.frames.specs.Limits.{line_kept, ledger_most, table_most}
use Rattle.frames.specs.Line.{line_end, line_of}
use Rattle.frames.specs.Serve.{Desk, Served, serve_line}
use Rattle.frames.specs.Hold.{desk_in, place}
use Rattle.lines.specs.declared.feed.State.{State}

-- what is kept from call to call: the lengths in use, and the buffers of line, ledger and table
pub record Held : Type 0 where
  pub state : State
  pub line : List ℕ
  pub ledger : List ℕ
  pub table : List ℕ

abbrev pub held : State → List ℕ → List ℕ → List ℕ → Held
held s line ledger table = record { state = s; line = line; ledger = ledger; table = table }

abbrev pub lengths : ℕ → ℕ → ℕ → State
lengths n l t = record { line = n; ledger = l; table = t }

-- the line that is begun, and the desk
abbrev pub line_in : Held → List ℕ
line_in h = take h.state.line h.line

abbrev pub desk_of_held : Held → Desk
desk_of_held h = desk_in h.state.ledger h.state.table h.ledger h.table

-- the buffers have their sizes, and the lengths are within them
unfoldable pub fits : Held → Bool
fits h =
    eqb (length h.line) line_kept
    && (eqb (length h.ledger) ledger_most
    && (eqb (length h.table) table_most
    && (leb h.state.line line_kept && (leb h.state.ledger ledger_most && leb h.state.table table_most))))

-- a byte that ends no line is kept while there is room for it
unfoldable pub gathered : Held → ℕ → Held
gathered h c =
    cond (leb line_kept h.state.line) h
    (held (lengths (h.state.line + 1) h.state.ledger h.state.table) (set h.line h.state.line c) h.ledger h.table)

-- "Lines end in LF": the line is served, and the next one begins
abbrev pub ending : Held → Served
ending h = serve_line (line_in h) (desk_of_held h)

unfoldable pub ended : Held → Held
ended h =
    let p = place (ending h) h.ledger h.table in
    held (lengths 0 p.used p.listed) h.line p.ledger p.table

-- one byte: what it leaves, and what it puts out
unfoldable pub turn : Held → ℕ → Held
turn h c = cond (eqb c line_end) (ended h) (gathered h c)

unfoldable pub says : Held → ℕ → List ℕ
says h c = cond (eqb c line_end) (line_of (ending h).answer) []
