-- The run of lines: what the program puts out for a whole input (document 01, section "The line program").
use Rattle.std.specs.Prelude.{ℕ, cond, List, [], ◌∷◌, ◌++◌, eqb}
use Rattle.frames.specs.Line.{line_end, line_of}
use Rattle.frames.specs.Serve.{Desk, empty, Served, serve_line}

-- "Lines end in LF": the lines of what follows, where l is begun, and what is made of the characters behind the last LF
unfoldable pub lines_from : (List ℕ → List (List ℕ)) → List ℕ → List ℕ → List (List ℕ)
lines_from last l [] = last l
lines_from last l (c ∷ cs) = cond (eqb c line_end) (l ∷ lines_from last [] cs) (lines_from last (l ++ (c ∷ [])) cs)

-- "a last line without it counts.", where one is begun
abbrev pub counted : List ℕ → List (List ℕ)
counted [] = []
counted (c ∷ cs) = (c ∷ cs) ∷ []

abbrev pub lines : List ℕ → List (List ℕ)
lines input = lines_from counted [] input

-- as long as more may come, it is none yet
abbrev pub awaited : List ℕ → List (List ℕ)
awaited l = []

abbrev pub whole_lines : List ℕ → List (List ℕ)
whole_lines input = lines_from awaited [] input

abbrev pub desk_of : Served → Desk
desk_of s = record { ledger = s.ledger; table = s.table }

-- "Each answer is one line ended by LF.", line after line
unfoldable pub answers : Desk → List (List ℕ) → List ℕ
answers d [] = []
answers d (l ∷ ls) = line_of (serve_line l d).answer ++ answers (desk_of (serve_line l d)) ls

unfoldable pub run : List ℕ → List ℕ
run input = answers empty (lines input)
