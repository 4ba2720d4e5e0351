use Rattle.lines.proofs.Going.{Going}
use Rattle.lines.specs.Turn.{held}
use Rattle.lines.proofs.feed.feed.Given as goal

abbrev pub invariant-loop-taken : goal.invariant-loop-taken
invariant-loop-taken l =
    Going (held l.initial.state l.initial.line l.initial.ledger l.initial.table) l.initial.out l.input (held l.state l.line l.ledger l.table) l.filled l.taken l.out
