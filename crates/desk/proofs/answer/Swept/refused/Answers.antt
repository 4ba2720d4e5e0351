use Rattle.desk.proofs.answer.Swept.refused.Goals as goal

pub returns : goal.returns
returns c = rw c.from.ensures
