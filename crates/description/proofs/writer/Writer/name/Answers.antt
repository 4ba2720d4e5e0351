use Rattle.description.proofs.Behind.{then}
use Rattle.description.specs.Scope.{scope_name}
use Rattle.description.proofs.writer.Writer.name.Goals as goal

pub returns : goal.returns
unfolding scope_name
returns c = rw (← c.from.ensures) (then c.text.ensures c.decimal.ensures.wrote)
