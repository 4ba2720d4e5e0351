use Rattle.texts.proofs.Decimals.{Spelled}
use Rattle.texts.proofs.decimal.spell.Given as goal

abbrev pub invariant-loop-at : goal.invariant-loop-at
invariant-loop-at l = Spelled l.n l.text l.at l.rest
