-- The statements for the whole program's work: however the input is cut into chunks, what is written chunk after chunk and at the end of input is the run of
-- its lines, and after each chunk the answers of all lines that have come to their end are written.
use Rattle.std.specs.Prelude.{ℕ, zero, suc, ◌≤◌, ◌≡◌, Bool, true, false, cond, List, [], ◌∷◌, ◌++◌, length, take, drop}
use Rattle.frames.specs.Limits.{line_kept, ledger_most, table_most, answer_line}
use Rattle.frames.specs.Serve.{empty}
use Rattle.lines.specs.Lines.{whole_lines, answers, run}
use Rattle.lines.specs.Turn.{Held, held, lengths}
use Rattle.lines.specs.Feed.{Left, feed, finish}

-- the front of the output's buffer that a call has filled
abbrev pub puts : Left → List ℕ
puts l = take l.filled l.out

-- where the program stands: what is kept, the output's buffer, and all that was written
pub record Passed : Type 0 where
  pub held : Held
  pub out : List ℕ
  pub written : List ℕ

abbrev pub passed : Held → List ℕ → List ℕ → Passed
passed h out w = record { held = h; out = out; written = w }

abbrev pub behind : List ℕ → Passed → Passed
behind w p = passed p.held p.out (w ++ p.written)

abbrev pub is_empty : List ℕ → Bool
is_empty [] = true
is_empty (c ∷ cs) = false

-- a chunk is handed over until all of it is taken, and what a call puts out is written before the next: n calls at most
unfoldable pub pass_on : ℕ → Held → List ℕ → List ℕ → Passed
pass_on zero h out cs = passed h out []
pass_on (suc n) h out cs =
    let l = feed h cs out in
    cond (is_empty cs) (passed h out []) (behind (puts l) (pass_on n l.held l.out (drop l.taken cs)))

-- chunk after chunk, as many calls at most as a chunk has bytes
unfoldable pub pass_all : Held → List ℕ → List (List ℕ) → Passed
pass_all h out [] = passed h out []
pass_all h out (c ∷ cs) =
    let p = pass_on (length c) h out c in
    behind p.written (pass_all p.held p.out cs)

-- and the end of input
unfoldable pub session : Held → List ℕ → List (List ℕ) → List ℕ
session h out chunks =
    let p = pass_all h out chunks in
    p.written ++ puts (finish p.held p.out)

abbrev pub joined : List (List ℕ) → List ℕ
joined [] = []
joined (c ∷ cs) = c ++ joined cs

-- buffers of the right sizes, whatever is in them, and an output's buffer with room for one answer's line at least
pub record Buffers (line ledger table out : List ℕ) : Type 0 where
  pub line_sized : length line ≡ line_kept
  pub ledger_sized : length ledger ≡ ledger_most
  pub table_sized : length table ≡ table_most
  pub roomy : answer_line ≤ length out

-- for every input, and every way of cutting it into chunks
abbrev pub WholeRun : Type 0
WholeRun =
    (line ledger table out : List ℕ) (chunks : List (List ℕ)) → Buffers line ledger table out
    → session (held (lengths 0 0 0) line ledger table) out chunks ≡ run (joined chunks)

-- and before each read: the lines that have come to their LF are answered, and nothing else is written
abbrev pub AtOnce : Type 0
AtOnce =
    (line ledger table out : List ℕ) (chunks : List (List ℕ)) → Buffers line ledger table out
    → (pass_all (held (lengths 0 0 0) line ledger table) out chunks).written ≡ answers empty (whole_lines (joined chunks))
