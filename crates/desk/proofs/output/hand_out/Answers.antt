use Rattle.desk.proofs.output.hand_out.Goals as goal

pub returns : goal.returns
returns c = cc
