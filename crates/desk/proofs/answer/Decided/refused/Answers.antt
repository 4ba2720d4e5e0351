use Rattle.desk.proofs.answer.Decided.refused.Goals as goal

pub returns : goal.returns
returns c = rw c.refused.ensures
