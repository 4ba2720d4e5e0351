use Rattle.std.proofs.Common.{List, ap, arith, length, replicate, sym, true, ℕ, ◌∙◌, ◌≡◌, ◌≤◌}
use Rattle.frames.proofs.Fits.{line_long, line_other, line_bytes}
use Rattle.frames.proofs.Holding.{at_none}
use Rattle.frames.proofs.Lines.{front_decoded}
use Rattle.frames.specs.Hold.{desk_in, place}
use Rattle.wire.specs.Kinds.{kind_of}
use Rattle.frames.specs.Serve.{Served, serve}
use Rattle.texts.specs.Hex.{is_hex}
use Rattle.frames.specs.Limits.{line_most}
use Rattle.frames.proofs.line.serve_line.Goals.{then-line-gt-MOST-via-then-line-gt-MOST, then-line-gt-MOST-via-else-line-gt-MOST+then-not-decode}
use Rattle.frames.proofs.line.serve_line.Goals as goal

pub returns-then-line-gt-MOST : goal.returns-then-line-gt-MOST
returns-then-line-gt-MOST c =
    let a = c.args in
    let u = a.used.now in
    let d = desk_in u.ledger u.table a.ledger.now a.table.now in
    elim c.then-line-gt-MOST.branch [
      | then-line-gt-MOST-via-then-line-gt-MOST w ↦
          at_none a.ledger.now a.table.now u.ledger u.table (omega arith) (omega arith) _ (line_long a.line.now d w.if-line-gt-MOST.true) c.number.ensures
      | then-line-gt-MOST-via-else-line-gt-MOST+then-not-decode w ↦
          at_none a.ledger.now a.table.now u.ledger u.table (omega arith) (omega arith) _ (line_other a.line.now d (sym w.decode.ensures.0 ∙ w.if-not-decode.true))
          c.number.ensures
    ]

pub returns : goal.returns
returns c =
    let a = c.args in
    let desk = desk_in a.used.now.ledger a.used.now.table a.ledger.now a.table.now in
    let h : is_hex a.line.now ≡ true = sym c.decode.ensures.0 ∙ c.if-not-decode.false in
    let m : length a.line.now ≤ line_most = omega arith in
    c.serve.ensures ∙ ap (λ (f : List ℕ). place (serve (kind_of f) f desk) a.ledger.now a.table.now) (front_decoded a.line.now (replicate 320 0) h m c.decode.ensures.1)
    ∙ ap (λ (s : Served). place s a.ledger.now a.table.now) (sym (line_bytes a.line.now desk m h))
