-- The theorems of the whole run.
use Prim.Native.Nat.{ℕ}
use native.Mathlib.Omega.{arith}
use mathlib.Core.Path.{refl, sym, ◌∙◌}
use mathlib.Core.List.{List, [], append-nil}
use Rattle.lines.specs.Lines.{counted, awaited, run}
use Rattle.lines.specs.Turn.{Held, held, lengths}
use Rattle.lines.specs.Run.{joined, Buffers, WholeRun, AtOnce}
use Rattle.lines.proofs.Feeding.{Fit}
use Rattle.lines.proofs.Bytes.{said, by_lines, closing, closes_counted, closes_awaited}
use Rattle.lines.proofs.Chunks.{passes_all, sessions}

begun : (line ledger table out : List ℕ) → Buffers line ledger table out → Fit (held (lengths 0 0 0) line ledger table)
begun line ledger table out b =
    record { line = b.line_sized; ledger = b.ledger_sized; table = b.table_sized; gathered = omega arith; used = omega arith; listed = omega arith }

pub whole_run : WholeRun
unfolding run
whole_run line ledger table out chunks b =
    let h = held (lengths 0 0 0) line ledger table in
    let f = begun line ledger table out b in
    sessions h out chunks b.roomy f ∙ by_lines closing counted closes_counted h [] (joined chunks) f refl

pub at_once : AtOnce
at_once line ledger table out chunks b =
    let h = held (lengths 0 0 0) line ledger table in
    let f = begun line ledger table out b in
    (passes_all h out chunks b.roomy f).says
    ∙ sym (append-nil (said h (joined chunks))) ∙ by_lines (λ (v : Held). []) awaited closes_awaited h [] (joined chunks) f refl
