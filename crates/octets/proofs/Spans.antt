-- A number read off its field.
use Rattle.std.proofs.Common.{◌≡◌, List, ℕ, take, drop, ap, ◌∙◌, arith}
use lib.Seq.{take-take}
use Rattle.octets.specs.Numbers.{num}
use Rattle.octets.specs.Spans.{field}
use Rattle.octets.specs.declared.span.Span.{Span}

pub field_read : (w : Span) (c s : List ℕ) → s ≡ field w c → num (take w.width s) ≡ num (field w c)
field_read w c s e =
    let n = w.width in
    ap (λ (x : List ℕ). num (take n x)) e ∙ ap num (take-take n n (drop w.place c) (omega arith))
