use Rattle.perdigolh.proofs.Reading.{Sofar}
use Rattle.perdigolh.proofs.Desk.run.Given as goal

abbrev pub invariant-loop : goal.invariant-loop
invariant-loop g l =
    Sofar l.initial.self l.self (g.R.Read.remaining l.initial.reader) (g.R.Read.remaining l.reader) (g.W.Write.contents l.initial.writer)
    (g.W.Write.contents l.writer)
