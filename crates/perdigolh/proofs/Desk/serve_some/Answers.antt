use Rattle.std.proofs.Common.{◌≡◌, inr, arith}
use Rattle.perdigolh.proofs.Desk.serve_some.Goals as goal

pub returns-in_err-end-in-Ok-eq0-clause-front : goal.returns-in_err-end-in-Ok-eq0-clause-front
returns-in_err-end-in-Ok-eq0-clause-front g c =
    let r = c.in-Ok-eq0 in
    let z : r.field-0 ≡ 0 = grind arith in
    record {
      got = r.field-0;
      reads = r.ensures.bytes.0;
      front = inr (z, λ k. r.ensures.bytes.1 z (omega arith), c.end.ensures.front);
    }
