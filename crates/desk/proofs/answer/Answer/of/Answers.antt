use Rattle.desk.proofs.answer.Answer.of.Goals as goal

pub returns : goal.returns
returns c = rw (c.grant.ensures, c.holder.ensures, c.scope.ensures, c.expiry.ensures)
