-- An answer has no more bytes than the longest, and its line no more characters.
use Prim.Native.Nat.{ℕ, ◌+◌, ◌≤◌}
use native.Mathlib.Omega.{arith}
use mathlib.Core.Path.{◌≡◌, refl}
use mathlib.Core.Bool.{Bool, true, false, cond}
use mathlib.Core.List.{List}
use lib.Dec.{leb}
use lib.ListN.{length}
use Rattle.octets.specs.Parts.{blank}
use Rattle.octets.proofs.Parts.{length_put, length_blank}
use Rattle.desk.specs.declared.answer.Decided.{Decided}
use Rattle.desk.specs.Checks.{Verdict, accepted, stopped, first}
use Rattle.desk.specs.Requests.{DecideRequest}
use Rattle.desk.specs.Outcome.{Outcome, concludes}
use Rattle.desk.specs.Decide.{decide, decide_leaves, decide_checks, decide_at, consent_at, decline_at, reference_place}
use Rattle.wire.proofs.Answers.{answer_length, swept_length, decided_most}
use Rattle.std.proofs.Common.{Option, None, Some}
use Rattle.wire.specs.declared.kind.Kind.{Kind}
use Rattle.wire.specs.declared.kind.Kind.TheVariants.{Start, Push, Decide, Token, Resource, Sweep, Client}
use Rattle.wire.specs.Answers.{answer_most}
use Rattle.frames.specs.Limits.{answer_line, table_most}
use Rattle.texts.specs.Hex.{between, decoded}
use Rattle.frames.specs.Line.{line_of}
use Rattle.frames.specs.Line.{frame_kind}
use Rattle.wire.specs.Calls.{time, slot_count, decide_request}
use Rattle.frames.specs.Serve.{Desk, Written, pushed, decided, redeemed, read, swept, started, appended, serve, serve_line}
use Rattle.frames.proofs.Lines.{length_line}

-- ---- decide keeps the output's length

module _ (l : List ℕ) (t : ℕ) (d : DecideRequest) (out : List ℕ) where
  at_output : (k : ℕ) → length (decide_at l t d out k).output ≡ length out
  unfolding decide_at consent_at decline_at
  at_output k =
      elim d.yes as (λ (b : Bool). length (cond b (consent_at l t d.holder d.fresh out k) (decline_at l t d.holder out k)).output ≡ length out)
      [ true ↦ length_put out 0 _ | false ↦ length_put out 0 _ ]

  concluded : (v : Verdict) (o : Outcome Decided) → length o.output ≡ length out → length (concludes v (decide_leaves l out) o).output ≡ length out
  concluded accepted o e = e
  concluded (stopped why) o e = refl

  decide_output : length (decide l t d out).output ≡ length out
  unfolding decide
  decide_output = concluded (first (decide_checks l t d out (reference_place l d))) (decide_at l t d out (reference_place l d)) (at_output (reference_place l d))

-- ---- by the kind of frame

by_test : (b : Bool) (v w : Written) → length v.answer ≤ answer_most → length w.answer ≤ answer_most → length (cond b v w).answer ≤ answer_most
by_test true v w f g = f
by_test false v w f g = g

serve_most : (k : Option Kind) (f : List ℕ) (d : Desk) → length (serve k f d).answer ≤ answer_most
unfolding pushed decided redeemed read swept started appended
serve_most (Some Start) f d = by_test (between 1 200 (slot_count f)) _ _ (omega arith) (omega arith)
serve_most (Some Push) f d = rw (answer_length _) (omega arith)
serve_most (Some Decide) f d =
    decided_most _ _ (let e = decide_output d.ledger (time f) (decide_request f) (blank 64) in let n = length_blank 64 in omega arith)
serve_most (Some Token) f d = rw (answer_length _) (omega arith)
serve_most (Some Resource) f d = rw (answer_length _) (omega arith)
serve_most (Some Sweep) f d = rw (swept_length _) (omega arith)
serve_most (Some Client) f d = by_test (leb (length d.table + 64) table_most) _ _ (omega arith) (omega arith)
serve_most None f d = omega arith

pub answer_most_lem : (l : List ℕ) (d : Desk) → length (serve_line l d).answer ≤ answer_most
unfolding serve_line
answer_most_lem l d = serve_most (frame_kind l) (decoded l) d

pub line_most_lem : (l : List ℕ) (d : Desk) → length (line_of (serve_line l d).answer) ≤ answer_line
line_most_lem l d = let n = answer_most_lem l d in rw (length_line (serve_line l d).answer) (omega arith)
