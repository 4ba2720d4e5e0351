use Rattle.std.proofs.Common.{◌≡◌, length, take, drop}
use Rattle.octets.proofs.part.copy.Given as goal

abbrev pub invariant-loop-i : goal.invariant-loop-i
invariant-loop-i l = (length l.d ≡ length l.initial.d) × (take l.i l.d ≡ take l.i l.s) × (drop l.i l.d ≡ drop l.i l.initial.d)
