-- What a frame does to ledger and table, and the bytes of its answer.
use Rattle.std.specs.Prelude.{ℕ, ◌+◌, ◌*◌, cond, Option, None, Some, List, [], ◌++◌, leb, length}
use Rattle.octets.specs.Parts.{blank}
use Rattle.ledger.specs.Limits.{head_size, record_size, records_least, records_most}
use Rattle.clients.specs.Limits.{client_size}
use Rattle.desk.specs.Limits.{output_least}
use Rattle.desk.specs.Answers.{number_of, done}
use Rattle.desk.specs.declared.answer.Answer.{Answer}
use Rattle.desk.specs.declared.answer.Decided.{Decided}
use Rattle.desk.specs.declared.answer.Swept.{Swept}
use Rattle.desk.specs.declared.answer.Refusal.TheVariants.{LedgerUnsound, TableUnsound}
use Rattle.desk.specs.Start.{empty_ledger}
use Rattle.desk.specs.Outcome.{Outcome}
use Rattle.desk.specs.Push.{push}
use Rattle.desk.specs.Decide.{decide}
use Rattle.desk.specs.Token.{token}
use Rattle.desk.specs.Resource.{resource}
use Rattle.desk.specs.Sweep.{sweep}
use Rattle.wire.specs.declared.kind.Kind.{Kind}
use Rattle.wire.specs.declared.kind.Kind.TheVariants.{Start, Push, Decide, Token, Resource, Sweep, Client}
use Rattle.texts.specs.Hex.{between, decoded}
use Rattle.frames.specs.Limits.{table_most}
use Rattle.frames.specs.Line.{frame_kind}
use Rattle.wire.specs.Kinds.{client, field}
use Rattle.wire.specs.Calls.{time, slot_count, push_request, decide_request, token_request, resource_request}
use Rattle.wire.specs.Answers.{number_bytes, swept_bytes, answer_bytes, decided_bytes, no_frame}

-- what the program keeps from line to line
pub record Desk : Type 0 where
  pub ledger : List ℕ
  pub table : List ℕ

-- "Before the first start the ledger has length 0."
abbrev pub empty : Desk
empty = record { ledger = []; table = [] }

-- what a frame leaves, and its answer's bytes
pub record Served : Type 0 where
  pub ledger : List ℕ
  pub table : List ℕ
  pub answer : List ℕ

abbrev pub served : List ℕ → List ℕ → List ℕ → Served
served l t a = record { ledger = l; table = t; answer = a }

-- a frame writes to the ledger or to the table: their bytes afterwards, and its answer's
pub record Written : Type 0 where
  pub bytes : List ℕ
  pub answer : List ℕ

abbrev pub written : List ℕ → List ℕ → Written
written bs a = record { bytes = bs; answer = a }

abbrev pub of_outcome : Outcome Answer → Written
of_outcome o = written o.ledger (answer_bytes o.answer)

abbrev pub of_decision : Outcome Decided → Written
of_decision o = written o.ledger (decided_bytes o.answer o.output)

abbrev pub of_sweeping : Outcome Swept → Written
of_sweeping o = written o.ledger (swept_bytes o.answer)

unfoldable pub pushed : List ℕ → List ℕ → List ℕ → Written
pushed f l t = of_outcome (push l (time f) t (push_request f))

unfoldable pub decided : List ℕ → List ℕ → Written
decided f l = of_decision (decide l (time f) (decide_request f) (blank output_least))

unfoldable pub redeemed : List ℕ → List ℕ → List ℕ → Written
redeemed f l t = of_outcome (token l (time f) t (token_request f))

unfoldable pub read : List ℕ → List ℕ → Written
read f l = of_outcome (resource l (time f) (resource_request f))

unfoldable pub swept : List ℕ → List ℕ → Written
swept f l = of_sweeping (sweep l (time f))

-- the call that a kind names; one that names none does nothing
abbrev pub called : Kind → List ℕ → List ℕ → List ℕ → Written
called Push f l t = pushed f l t
called Decide f l t = decided f l
called Token f l t = redeemed f l t
called Resource f l t = read f l
called Sweep f l t = swept f l
called Start f l t = written l []
called Client f l t = written l []

-- "A slot count of 0 or above 200 prints 01 and keeps the old ledger."
abbrev pub ledger_size : ℕ → ℕ
ledger_size n = head_size + n * record_size

unfoldable pub started : List ℕ → List ℕ → Written
started f l =
    cond (between records_least records_most (slot_count f)) (written (empty_ledger (ledger_size (slot_count f))) (number_bytes done))
    (written l (number_bytes (number_of LedgerUnsound)))

-- "06 checks only for room and otherwise appends and prints 00"; "A 65th client prints 03 and is not appended."
unfoldable pub appended : List ℕ → List ℕ → Written
appended f t =
    cond (leb (length t + client_size) table_most) (written (t ++ field client 0 f) (number_bytes done))
    (written t (number_bytes (number_of TableUnsound)))

abbrev pub on_ledger : Written → Desk → Served
on_ledger w d = served w.bytes d.table w.answer

abbrev pub on_table : Written → Desk → Served
on_table w d = served d.ledger w.bytes w.answer

-- by the kind of frame; what is no frame "changes nothing"
abbrev pub serve : Option Kind → List ℕ → Desk → Served
serve (Some Start) f d = on_ledger (started f d.ledger) d
serve (Some Push) f d = on_ledger (called Push f d.ledger d.table) d
serve (Some Decide) f d = on_ledger (called Decide f d.ledger d.table) d
serve (Some Token) f d = on_ledger (called Token f d.ledger d.table) d
serve (Some Resource) f d = on_ledger (called Resource f d.ledger d.table) d
serve (Some Sweep) f d = on_ledger (called Sweep f d.ledger d.table) d
serve (Some Client) f d = on_table (appended f d.table) d
serve None f d = served d.ledger d.table no_frame

-- a line of the input
unfoldable pub serve_line : List ℕ → Desk → Served
serve_line line d = serve (frame_kind line) (decoded line) d
