use Rattle.std.proofs.Common.{sym, ◌∙◌}
use Rattle.desk.specs.Tests.{fails_when, texts_test}
use Rattle.forms.proofs.Laws.{redirect_well, redirect_ill, challenge_well, challenge_ill}
use mathlib.Core.Bool.{and-false}
use Rattle.desk.proofs.check.texts.Goals as goal

pub returns-in_default : goal.returns-in_default
unfolding texts_test fails_when
returns-in_default c = rw (redirect_ill _ (sym c.check.ensures ∙ c.in_default.is))

pub returns-in_default-check : goal.returns-in_default-check
unfolding texts_test fails_when
returns-in_default-check c = rw (challenge_ill _ (sym c.check-2.ensures ∙ c.in_default-check.is), and-false)

pub returns : goal.returns
unfolding texts_test fails_when
returns c = rw (redirect_well _ (sym c.check.ensures ∙ c.in-Well.is), challenge_well _ (sym c.check-2.ensures ∙ c.in-Well-check.is))
