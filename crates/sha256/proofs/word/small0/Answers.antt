use Rattle.sha256.specs.Word.{σ0}
use Rattle.sha256.proofs.word.small0.Goals as goal

pub returns : goal.returns
unfolding σ0
returns c = cc
