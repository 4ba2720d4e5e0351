use Rattle.desk.proofs.answer.Answer.refused.Goals as goal

pub returns : goal.returns
returns c = rw c.from.ensures
