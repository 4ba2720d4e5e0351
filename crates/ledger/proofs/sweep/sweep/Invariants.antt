use Rattle.std.proofs.Common.{◌≡◌}
use Rattle.ledger.specs.Sweep.{swept_to}
use Rattle.ledger.proofs.sweep.sweep.Given as goal

abbrev pub invariant-loop-k : goal.invariant-loop-k
invariant-loop-k l = l.l ≡ swept_to l.time l.initial.l l.k
