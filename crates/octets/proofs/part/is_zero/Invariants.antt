use Rattle.std.proofs.Common.{◌≡◌, take}
use Rattle.octets.specs.Parts.{zeros}
use Rattle.octets.proofs.part.is_zero.Given as goal

abbrev pub invariant-loop-x : goal.invariant-loop-x
invariant-loop-x l = l.clean ≡ zeros (take l.x-index l.s)
