use Rattle.std.proofs.Common.{arith, length, ◌<◌, rules}
use Rattle.octets.proofs.Numbers.{front32, room_mono}
use Rattle.octets.proofs.number.U32Number.read.Goals as goal

pub overflow_cast-result : goal.overflow_cast-result
overflow_cast-result c =
    let cut : length c.args.s.now < 4 = search rules in
    omega (arith, c.short.ensures.fits, room_mono (length c.args.s.now) 3 (omega arith))

pub returns : goal.returns
returns c = omega (arith, c.from_be_bytes.ensures, front32 c.args.s.now c.in-Some.front.now c.in-Some.ensures.cases)
