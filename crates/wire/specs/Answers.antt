-- The bytes of an answer: "Output: 00 and 06 print the number; 05 the number and three 2-byte counts; the others number(1) grant(8) holder(8) scope(4)
-- expiry(8), and 02 also length(1) and that many redirect bytes."
use Rattle.std.specs.Prelude.{ℕ, ◌+◌, List, [], ◌∷◌, ◌++◌, take}
use Rattle.octets.specs.Numbers.{digits}
use Rattle.desk.specs.Limits.{output_least}
use Rattle.desk.specs.declared.answer.Answer.{Answer}
use Rattle.desk.specs.declared.answer.Decided.{Decided}
use Rattle.desk.specs.declared.answer.Swept.{Swept}

abbrev pub number_bytes : ℕ → List ℕ
number_bytes n = n ∷ []

unfoldable pub swept_bytes : Swept → List ℕ
swept_bytes s = (s.number ∷ []) ++ digits 2 s.pushed ++ digits 2 s.consented ++ digits 2 s.redeemed

unfoldable pub answer_bytes : Answer → List ℕ
answer_bytes a = (a.number ∷ []) ++ digits 8 a.grant ++ digits 8 a.holder ++ digits 4 a.scope ++ digits 8 a.expiry

unfoldable pub decided_bytes : Decided → List ℕ → List ℕ
decided_bytes d out = answer_bytes d.answer ++ (d.length ∷ []) ++ take d.length out

-- "A line that is no frame .. prints `ff` once"
abbrev pub no_frame : List ℕ
no_frame = 0xff ∷ []

-- an answer of push, token and resource: "number(1) grant(8) holder(8) scope(4) expiry(8)"
abbrev pub answer_size : ℕ
answer_size = 1 + 8 + 8 + 4 + 8

-- the longest answer, that of 02: "also length(1) and that many redirect bytes"
abbrev pub answer_most : ℕ
answer_most = answer_size + 1 + output_least
