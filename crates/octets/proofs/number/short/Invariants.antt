use Rattle.std.proofs.Common.{drop, ◌<◌, ◌^◌, ◌≡◌}
use Rattle.octets.specs.Numbers.{num, num_from}
use Rattle.octets.proofs.number.short.Given as goal

abbrev pub invariant-loop-x : goal.invariant-loop-x
invariant-loop-x l = record { fits : l.n < 256 ^ l.x-index; rest : num l.s ≡ num_from l.n (drop l.x-index l.s) }
