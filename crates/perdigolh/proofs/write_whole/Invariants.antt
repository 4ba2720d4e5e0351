use Rattle.std.proofs.Common.{length}
use Rattle.perdigolh.proofs.Bytes.{Partly}
use Rattle.perdigolh.proofs.write_whole.Given as goal

abbrev pub invariant-loop-rest : goal.invariant-loop-rest
invariant-loop-rest g l = Partly (g.W.Write.contents l.initial.writer) (g.W.Write.contents l.writer) l.bytes l.rest

abbrev pub decreases-loop-rest : goal.decreases-loop-rest
decreases-loop-rest g l = length l.rest
