-- How ledger and table lie in their buffers: at the front, with the length in use beside them. What lies behind it is not looked at, and stays.
use Rattle.std.specs.Prelude.{ℕ, Bool, ◌&&◌, cond, List, eqb, leb, length, take}
use Rattle.octets.specs.Parts.{laid}
use Rattle.frames.specs.Limits.{ledger_most, table_most, answer_line}
use Rattle.frames.specs.Line.{line_of}
use Rattle.frames.specs.Serve.{Desk, Written, Served, serve_line}

-- the desk that lies in the buffers, n bytes of the ledger's and m of the table's
abbrev pub desk_in : ℕ → ℕ → List ℕ → List ℕ → Desk
desk_in n m ledger table = record { ledger = take n ledger; table = take m table }

-- a buffer afterwards, its length in use, and the answer's bytes
pub record Filled : Type 0 where
  pub used : ℕ
  pub buffer : List ℕ
  pub answer : List ℕ

abbrev pub filled : ℕ → List ℕ → List ℕ → Filled
filled n buffer a = record { used = n; buffer = buffer; answer = a }

unfoldable pub fill : Written → List ℕ → Filled
fill w buffer = filled (length w.bytes) (laid w.bytes buffer) w.answer

-- both buffers afterwards
pub record Placed : Type 0 where
  pub used : ℕ
  pub listed : ℕ
  pub ledger : List ℕ
  pub table : List ℕ
  pub answer : List ℕ

abbrev pub placed : ℕ → ℕ → List ℕ → List ℕ → List ℕ → Placed
placed n m ledger table a = record { used = n; listed = m; ledger = ledger; table = table; answer = a }

unfoldable pub place : Served → List ℕ → List ℕ → Placed
place s ledger table = placed (length s.ledger) (length s.table) (laid s.ledger ledger) (laid s.table table) s.answer

-- both buffers and the output afterwards, and the number of bytes that were put out
pub record Said : Type 0 where
  pub used : ℕ
  pub listed : ℕ
  pub count : ℕ
  pub ledger : List ℕ
  pub table : List ℕ
  pub out : List ℕ

abbrev pub said : ℕ → ℕ → ℕ → List ℕ → List ℕ → List ℕ → Said
said n m k ledger table out = record { used = n; listed = m; count = k; ledger = ledger; table = table; out = out }

-- "Each answer is one line ended by LF.", here over the front of the output
unfoldable pub say : Placed → List ℕ → Said
say p out = said p.used p.listed (length (line_of p.answer)) p.ledger p.table (laid (line_of p.answer) out)

-- buffers of the largest size, lengths within them, and room for every answer's line
unfoldable pub fitting : ℕ → ℕ → List ℕ → List ℕ → List ℕ → Bool
fitting n m ledger table out =
    leb n ledger_most
    && (leb m table_most && (eqb (length ledger) ledger_most && (eqb (length table) table_most && leb answer_line (length out))))

-- a line of the input in its buffers; what does not fit is not served
unfoldable pub answer : List ℕ → ℕ → ℕ → List ℕ → List ℕ → List ℕ → Said
answer line n m ledger table out =
    cond (fitting n m ledger table out) (say (place (serve_line line (desk_in n m ledger table)) ledger table) out) (said n m 0 ledger table out)
