use Rattle.desk.proofs.answer.Introspected.refused.Goals as goal

pub returns : goal.returns
returns c = rw c.from.ensures
