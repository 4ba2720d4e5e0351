use Rattle.octets.proofs.Tabulate.{Filled}
use Rattle.sha256.specs.Pad.{word_at}
use Rattle.sha256.proofs.schedule.first_words.Given as goal

abbrev pub invariant-loop-t : goal.invariant-loop-t
invariant-loop-t l = Filled (word_at l.b) 64 l.w l.t
