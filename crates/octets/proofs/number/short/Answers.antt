use Rattle.std.proofs.Common.{ℕ, arith, refl, ◌*◌, ◌+◌, ◌<◌, ◌^◌}
use Rattle.std.proofs.Common.{lt_of_lt_of_le}
use Rattle.octets.specs.Numbers.{num}
use Rattle.octets.proofs.Numbers.{num_at, num_end, room_more, room_mono}
use Rattle.octets.proofs.number.short.Goals as goal

pub loop-x-init : goal.loop-x-init
unfolding num
loop-x-init c = record { fits = omega arith; rest = refl }

-- a turn's number fits
room : (i n : ℕ) → n < 256 ^ i → i < 8 → n * 256 + 255 < 2 ^ 64
room i n below h = lt_of_lt_of_le (room_more i n 255 below (omega arith)) (room_mono (i + 1) 8 (omega arith))

pub overflow_mul-n : goal.overflow_mul-n
overflow_mul-n c = let l = c.loop-x in omega (arith, room l.x-index l.n l.invariant.fits (omega arith))

pub loop-x-preserved : goal.loop-x-preserved
loop-x-preserved c =
    let l = c.loop-x in
    record {
      fits = room_more l.x-index l.n _ l.invariant.fits (omega (arith, c.type_inv.s l.x-index));
      rest = cc (num_at c.args.s.now l.x-index l.n c.loop-x-test.true);
    }

pub returns-clause-number : goal.returns-clause-number
returns-clause-number c = let l = c.loop-x in cc (num_end c.args.s.now l.x-index l.n c.loop-x-test.false)
