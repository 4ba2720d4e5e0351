use Rattle.std.proofs.Common.{List, ap, arith, ℕ, ◌∙◌}
use Rattle.frames.specs.Line.{line_of}
use Rattle.octets.specs.Parts.{laid}
use Rattle.frames.proofs.Lines.{written}
use Rattle.frames.proofs.line.write_line.Goals as goal

pub returns-clause-out_after : goal.returns-clause-out_after
returns-clause-out_after c =
    let h = c.as_slice.ensures.length_in_bounds in
    let q = c.write-end.ensures in
    written c.as_slice.result.now c.args.out.now (omega arith) q.0 q.1 ∙ ap (λ (v : List ℕ). laid (line_of v) c.args.out.now) c.as_slice.ensures.value
