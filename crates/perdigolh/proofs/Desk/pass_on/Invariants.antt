use Rattle.std.proofs.Common.{◌-◌, length}
use Rattle.lines.specs.Run.{pass_on}
use Rattle.perdigolh.proofs.Passing.{Going}
use Rattle.perdigolh.proofs.Desk.pass_on.Given as goal
use Rattle.perdigolh.specs.Chunk.{kept}

abbrev pub invariant-loop : goal.invariant-loop
invariant-loop g l =
    Going (pass_on (length l.chunk) (kept l.initial.self) l.initial.self.out l.chunk) (length l.chunk - l.counter) l.initial.self l.self l.rest
    (g.W.Write.contents l.initial.writer) (g.W.Write.contents l.writer)
