use Rattle.desk.specs.Tests.{fails_when}
use Rattle.desk.proofs.check.fails_when.Goals as goal

pub returns-then-fails : goal.returns-then-fails
unfolding fails_when
returns-then-fails c = rw (c.if-fails.true)

pub returns-else-fails : goal.returns-else-fails
unfolding fails_when
returns-else-fails c = rw (c.if-fails.false)
