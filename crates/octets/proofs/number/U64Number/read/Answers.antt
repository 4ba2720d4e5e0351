use Rattle.std.proofs.Common.{arith}
use Rattle.octets.proofs.Numbers.{front64}
use Rattle.octets.proofs.number.U64Number.read.Goals as goal

pub returns : goal.returns
returns c = omega (arith, c.from_be_bytes.ensures, front64 c.args.s.now c.in-Some.front.now c.in-Some.ensures.cases)
