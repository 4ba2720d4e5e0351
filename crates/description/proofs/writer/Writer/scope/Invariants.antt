use Rattle.description.specs.Scope.{names_below}
use Rattle.description.specs.Writer.{Wrote}
use Rattle.description.proofs.writer.Writer.scope.Given as goal

abbrev pub invariant-loop-i : goal.invariant-loop-i
invariant-loop-i l = Wrote l.initial.self l.self (names_below l.scope l.i)
