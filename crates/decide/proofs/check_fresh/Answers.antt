use Rattle.std.proofs.Common.{sym, ◌∙◌}
use Rattle.desk.specs.Tests.{fails_when}
use Rattle.ledger.proofs.Tests.{value_told}
use Rattle.decide.proofs.check_fresh.Goals as goal

pub returns-then-not-yes : goal.returns-then-not-yes
unfolding fails_when
returns-then-not-yes c = rw (c.if-not-yes.true)

pub returns-in_default : goal.returns-in_default
unfolding fails_when
returns-in_default c =
    rw (c.if-not-yes.false, value_told _ _ _ (sym c.check.ensures ∙ c.in_default.is))

pub returns : goal.returns
unfolding fails_when
returns c =
    rw (c.if-not-yes.false, value_told _ _ _ (sym c.check.ensures ∙ c.in-New.is))
