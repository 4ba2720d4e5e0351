use Rattle.frames.proofs.call.sweep.Goals as goal

pub returns : goal.returns
returns c = cc
